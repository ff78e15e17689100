-- The items of one collection, and what each call of them gives. Ours, after `@colyseus/schema` 3.
use Rattle.std.specs.Prelude.{◌≡◌, ℕ, ◌+◌, ◌≤◌, ◌^◌, true, not, List, [], ◌∷◌, ◌++◌, map, filter, find, remove, set, Option, Some, None, option_map, slice_get, nat_lt, if◌then◌else◌, Result, Ok, Err}
use Rattle.std.specs.Str.{bytes_eq}
use Rattle.lists.specs.Rising.{RisesFrom, IsAbove}
use Rattle.schema_model.specs.declared.value.Value.{Value}
use Rattle.state_model.specs.declared.row.MapItem.{MapItem}
use Rattle.state_model.specs.declared.row.SetItem.{SetItem}
use Rattle.state_model.specs.Values.{same_value}
use Rattle.state_model.specs.Sound.{differ, keys_differ}
use Rattle.state_model.specs.State.{last_number}
use Rattle.state_model.specs.Commands.{has_value, put_key}
use Rattle.collection_ops.specs.declared.fault.ItemFault.{ItemFault}
use Rattle.collection_ops.specs.declared.fault.ItemFault.TheVariants.{NoItem, Present, NumbersSpent, Memory}

-- the items of a map, and how many item numbers were given
pub record MapState : Type 0 where
  pub items : List MapItem
  pub given : ℕ

-- the items of a set, and how many item numbers were given
pub record SetState : Type 0 where
  pub items : List SetItem
  pub given : ℕ

-- the number of a map's item
abbrev pub map_number : MapItem → ℕ
map_number i = i.number

-- the number of a set's item
abbrev pub set_number : SetItem → ℕ
set_number i = i.number

-- the item of a key
abbrev pub key_item : List MapItem → List ℕ → Option MapItem
key_item items key = find (λ (i : MapItem). bytes_eq i.key key) items

-- the item of a value
abbrev pub value_item : List SetItem → Value → Option SetItem
value_item items v = find (λ (i : SetItem). same_value i.value v) items

-- ---- what each call gives: the state after it and its answer, or the refusal

-- the answer where something is there
abbrev pub if_there : {S A : Type 0} → S → Option A → Result (S × A) ItemFault
if_there after None = Err NoItem
if_there after (Some there) = Ok (after, there)

-- a put of a key, over its item: a present key keeps its number and answers its old value; a new key gets the next number, where one is left
abbrev pub map_put_over : MapState → List ℕ → Value → Option MapItem → Result (MapState × (ℕ × Option Value)) ItemFault
map_put_over s key v (Some i) = Ok (record { items = put_key s.given key v s.items; given = s.given }, (i.number, Some i.value))
map_put_over s key v None =
    if nat_lt last_number s.given then Err NumbersSpent
    else Ok (record { items = put_key s.given key v s.items; given = s.given + 1 }, (s.given, None))

-- the same, over the item that is there
abbrev pub map_put : MapState → List ℕ → Value → Result (MapState × (ℕ × Option Value)) ItemFault
map_put s key v = map_put_over s key v (key_item s.items key)

-- the items without that of a key
abbrev pub map_remove : MapState → List ℕ → Result (MapState × (ℕ × Value)) ItemFault
map_remove s key =
    if_there (record { items = filter (λ (i : MapItem). not (bytes_eq i.key key)) s.items; given = s.given })
    (option_map (λ (i : MapItem). (i.number, i.value)) (key_item s.items key))

-- a new value at a position
abbrev pub array_put_at : List Value → ℕ → Value → Result (List Value × Value) ItemFault
array_put_at values at v = if_there (set values at v) (slice_get values at)

-- the values without that at a position
abbrev pub array_remove_at : List Value → ℕ → Result (List Value × Value) ItemFault
array_remove_at values at = if_there (remove values at) (slice_get values at)

-- a value that isn't there gets the next number, where one is left
abbrev pub set_add : SetState → Value → Result (SetState × ℕ) ItemFault
set_add s v =
    if has_value s.items v then Err Present
    else if nat_lt last_number s.given then Err NumbersSpent
    else Ok (record { items = s.items ++ record { number = s.given; value = v } ∷ []; given = s.given + 1 }, s.given)

-- the items without that of a value
abbrev pub set_remove : SetState → Value → Result (SetState × ℕ) ItemFault
set_remove s v =
    if_there (record { items = filter (λ (i : SetItem). not (same_value i.value v)) s.items; given = s.given })
    (option_map (λ (i : SetItem). i.number) (value_item s.items v))

-- ---- what a body answers

-- the answer and the state are these
abbrev pub Exactly : {S A : Type 0} → Result (S × A) ItemFault → S → S → Result A ItemFault → Type 0
Exactly there old new (Ok x) = there ≡ Ok (new, x)
Exactly there old new (Err f) = (there ≡ Err f) × (new ≡ old)

-- the same, or memory ran out and nothing has changed
abbrev pub Gives : {S A : Type 0} → Result (S × A) ItemFault → S → S → Result A ItemFault → Type 0
Gives there old new (Err Memory) = new ≡ old
Gives there old new given = Exactly there old new given

-- ---- what every body keeps

-- the numbers of a map's items rise and were given, no key stands twice, and as many were given as there are numbers at most
pub record IsMapKept (s : MapState) : Type 0 where
  pub rises : RisesFrom map_number 0 s.items
  pub below : IsAbove map_number s.given s.items
  pub differ : keys_differ (map (λ (i : MapItem). i.key) s.items) ≡ true
  pub few : s.given ≤ 2 ^ 31

-- the same of a set, in which no value stands twice
pub record IsSetKept (s : SetState) : Type 0 where
  pub rises : RisesFrom set_number 0 s.items
  pub below : IsAbove set_number s.given s.items
  pub differ : differ (map (λ (i : SetItem). i.value) s.items) ≡ true
  pub few : s.given ≤ 2 ^ 31

-- each key leads to the number of its item
abbrev pub LeadsKeys : List MapItem → (List ℕ → Option ℕ) → Type 0
LeadsKeys items numbers = (key : List ℕ) → numbers key ≡ option_map map_number (key_item items key)

-- each value leads to the number of its item
abbrev pub LeadsValues : List SetItem → (Value → Option ℕ) → Type 0
LeadsValues items numbers = (v : Value) → numbers v ≡ option_map set_number (value_item items v)
