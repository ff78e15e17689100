-- What a body's call gives, said of its row.
use Rattle.std.proofs.Common.{◌≡◌, ℕ, zero, suc, ◌+◌, ◌≤◌, Bool, true, false, not, List, [], ◌∷◌, filter, set, Option, Some, None, Result, Ok, Err, refl, ap, ◌∙◌, sym, arith}
use Rattle.std.specs.List.{find, list_any, remove, slice_get}
use Rattle.std.specs.Option.{option_map, is_some}
use Rattle.std.specs.Str.{bytes_eq}
use Rattle.std.proofs.lemmas.Bool.Decides.{nat_tests}
use Rattle.lists.proofs.Passing.{found_any}
use Rattle.schema_model.specs.declared.value.Value.{Value}
use Rattle.state_model.specs.declared.row.MapItem.{MapItem}
use Rattle.state_model.specs.declared.row.SetItem.{SetItem}
use Rattle.state_model.specs.Values.{same_value}
use Rattle.state_model.specs.State.{last_number}
use Rattle.state_model.specs.declared.row.Row.{Row}
use Rattle.state_model.specs.declared.row.Row.TheVariants.{Struct, Map, Array, Set}
use Rattle.state_model.specs.declared.command.Command.TheVariants.{PutKey, Add}
use Rattle.state_model.specs.Commands.{has_key, has_value, edited}
use Rattle.collection_ops.specs.declared.fault.ItemFault.{ItemFault}
use Rattle.collection_ops.specs.declared.fault.ItemFault.TheVariants.{NoItem, Present, NumbersSpent, Memory}
use Rattle.collection_ops.specs.Bodies.{MapState, SetState, map_number, set_number, key_item, value_item, set_add, if_there, Exactly, Gives, map_put, map_put_over, map_remove, array_put_at, array_remove_at, set_remove}
use Rattle.command_laws.specs.Accounts.{one_if}

-- the same where only a part of what is found is told
pub told_any : {X Y : Type 0} (f : X → Y) (p : X → Bool) (xs : List X) → is_some (option_map f (find p xs)) ≡ list_any p xs
told_any {X = X} {Y = Y} f p xs = mapped X Y f (find p xs) ∙ found_any p xs
  where
    mapped : (X Y : Type 0) (f : X → Y) (o : Option X) → is_some (option_map f o) ≡ is_some o
    mapped X Y f None = refl
    mapped X Y f (Some x) = refl

-- where nothing passes a test, a filter of what fails it keeps all
filter_missing : {X : Type 0} (p : X → Bool) (xs : List X) → find p xs ≡ None → filter (λ x. not (p x)) xs ≡ xs
filter_missing p [] h = refl
filter_missing p (x ∷ xs) h = grind (arith, nat_tests, filter_missing p xs)

-- what is not there is not found
not_there : {S A B : Type 0} (s : S) (f : A → B) (o : Option A) (fault : ItemFault) → if_there s (option_map f o) ≡ Err fault → o ≡ None
not_there s f None fault h = refl
not_there s f (Some a) fault h = cc

-- a refused removal would keep all
no_key_removed : (s : MapState) (key : List ℕ) (f : ItemFault) → map_remove s key ≡ Err f → filter (λ (i : MapItem). not (bytes_eq i.key key)) s.items ≡ s.items
no_key_removed s key f h =
    filter_missing (λ (i : MapItem). bytes_eq i.key key) s.items
    (not_there (record { items = filter (λ (i : MapItem). not (bytes_eq i.key key)) s.items; given = s.given }) (λ (i : MapItem). (i.number, i.value)) (key_item s.items key) f h)

no_value_removed : (s : SetState) (v : Value) (f : ItemFault) → set_remove s v ≡ Err f → filter (λ (i : SetItem). not (same_value i.value v)) s.items ≡ s.items
no_value_removed s v f h =
    filter_missing (λ (i : SetItem). same_value i.value v) s.items
    (not_there (record { items = filter (λ (i : SetItem). not (same_value i.value v)) s.items; given = s.given }) (λ (i : SetItem). i.number) (value_item s.items v) f h)

-- what is left where something is taken out
left_is : {S A : Type 0} (s new : S) (o : Option A) (x : A) → if_there s o ≡ Ok (new, x) → new ≡ s
left_is s new None x h = cc
left_is {S = S} {A = A} s new (Some a) x h = ap (fst_of_ok S A s) (sym h)
  where
    fst_of_ok : (S A : Type 0) → S → Result (S × A) ItemFault → S
    fst_of_ok S A s (Ok p) = p.0
    fst_of_ok S A s (Err f) = s

-- whatever a removal answers, the items are those without the value
pub value_removed : (s new : SetState) (v : Value) (r : Result ℕ ItemFault) → Exactly (set_remove s v) s new r → new.items ≡ filter (λ (i : SetItem). not (same_value i.value v)) s.items
value_removed s new v (Ok n) h =
    let after : SetState = record { items = filter (λ (i : SetItem). not (same_value i.value v)) s.items; given = s.given } in
    ap (λ (t : SetState). t.items) (left_is after new (option_map (λ (i : SetItem). i.number) (value_item s.items v)) n h)
value_removed s new v (Err f) h = ap (λ (t : SetState). t.items) h.1 ∙ sym (no_value_removed s v f h.0)

pub key_removed : (s new : MapState) (key : List ℕ) (r : Result (ℕ × Value) ItemFault) → Exactly (map_remove s key) s new r → new.items ≡ filter (λ (i : MapItem). not (bytes_eq i.key key)) s.items
key_removed s new key (Ok x) h =
    let after : MapState = record { items = filter (λ (i : MapItem). not (bytes_eq i.key key)) s.items; given = s.given } in
    ap (λ (t : MapState). t.items) (left_is after new (option_map (λ (i : MapItem). (i.number, i.value)) (key_item s.items key)) x h)
key_removed s new key (Err f) h = ap (λ (t : MapState). t.items) h.1 ∙ sym (no_key_removed s key f h.0)

-- nothing is found where its number isn't
none_mapped : {X Y : Type 0} (f : X → Y) (o : Option X) → None ≡ option_map f o → o ≡ None
none_mapped f None h = refl
none_mapped f (Some x) h = cc

-- a key and a value whose item has no number aren't there
pub key_unfound : (items : List MapItem) (key : List ℕ) → None ≡ option_map map_number (key_item items key) → filter (λ (i : MapItem). not (bytes_eq i.key key)) items ≡ items
key_unfound items key h = filter_missing (λ (i : MapItem). bytes_eq i.key key) items (none_mapped map_number (key_item items key) h)

pub value_unfound : (items : List SetItem) (v : Value) → None ≡ option_map set_number (value_item items v) → filter (λ (i : SetItem). not (same_value i.value v)) items ≡ items
value_unfound items v h = filter_missing (λ (i : SetItem). same_value i.value v) items (none_mapped set_number (value_item items v) h)

-- past its end a list is edited into itself
set_past : {X : Type 0} (xs : List X) (at : ℕ) (x : X) → slice_get xs at ≡ None → set xs at x ≡ xs
set_past [] at x h = refl
set_past (y ∷ ys) zero x h = cc
set_past (y ∷ ys) (suc at) x h = ap (λ zs. y ∷ zs) (set_past ys at x h)

remove_past : {X : Type 0} (xs : List X) (at : ℕ) → slice_get xs at ≡ None → remove xs at ≡ xs
remove_past [] zero h = refl
remove_past [] (suc at) h = refl
remove_past (y ∷ ys) zero h = cc
remove_past (y ∷ ys) (suc at) h = ap (λ zs. y ∷ zs) (remove_past ys at h)

-- what is not there is not found
nothing_there : {S A : Type 0} (s : S) (o : Option A) (fault : ItemFault) → if_there s o ≡ Err fault → o ≡ None
nothing_there s None fault h = refl
nothing_there s (Some a) fault h = cc

pub item_set : (xs new : List Value) (at : ℕ) (v : Value) (r : Result Value ItemFault) → Exactly (array_put_at xs at v) xs new r → new ≡ set xs at v
item_set xs new at v (Ok x) h = left_is (set xs at v) new (slice_get xs at) x h
item_set xs new at v (Err f) h = h.1 ∙ sym (set_past xs at v (nothing_there (set xs at v) (slice_get xs at) f h.0))

pub item_removed : (xs new : List Value) (at : ℕ) (r : Result Value ItemFault) → Exactly (array_remove_at xs at) xs new r → new ≡ remove xs at
item_removed xs new at (Ok x) h = left_is (remove xs at) new (slice_get xs at) x h
item_removed xs new at (Err f) h = h.1 ∙ sym (remove_past xs at (nothing_there (remove xs at) (slice_get xs at) f h.0))

-- numbers aren't spent where a new key has one left
pub put_goes : (s new : MapState) (key : List ℕ) (v : Value) (f : ItemFault) → (not (has_key s.items key) ≡ true → s.given ≤ last_number) → f ≡ NumbersSpent
    → Gives (map_put s key v) s new (Err f) → ⊥
put_goes s new key v NumbersSpent left is h = over (key_item s.items key) (found_any (λ (i : MapItem). bytes_eq i.key key) s.items) h.0
  where
    over : (o : Option MapItem) → is_some o ≡ has_key s.items key → map_put_over s key v o ≡ Err NumbersSpent → ⊥
    over (Some i) there h = cc
    over None there h =
        let few : s.given ≤ last_number = left (ap not (sym there)) in
        grind (arith, nat_tests)
put_goes s new key v NoItem left is h = cc
put_goes s new key v Present left is h = cc
put_goes s new key v Memory left is h = cc

-- as many numbers were given as before, and one more for a new key
pub put_given : (s : MapState) (key : List ℕ) (v : Value) (new : MapState) (answer : ℕ × Option Value) → map_put s key v ≡ Ok (new, answer)
    → new.given ≡ s.given + one_if (not (has_key s.items key))
put_given s key v new answer h = over (key_item s.items key) (found_any (λ (i : MapItem). bytes_eq i.key key) s.items) h
  where
    over : (o : Option MapItem) → is_some o ≡ has_key s.items key → map_put_over s key v o ≡ Ok (new, answer) → new.given ≡ s.given + one_if (not (has_key s.items key))
    over (Some i) there h = grind (arith, nat_tests)
    over None there h = grind (arith, nat_tests)

-- a value that isn't there isn't refused as one that is
pub add_goes : (s new : SetState) (v : Value) (f : ItemFault) → has_value s.items v ≡ false → f ≡ Present → Gives (set_add s v) s new (Err f) → ⊥
add_goes s new v Present absent is h = let refused = h.0 in grind (arith, nat_tests, absent, refused)
add_goes s new v NoItem absent is h = cc
add_goes s new v NumbersSpent absent is h = cc
add_goes s new v Memory absent is h = cc

-- which row a command names is nothing to its edit
pub put_key_any : (r s : ℕ) (k : List ℕ) (v : Value) (n : ℕ) (row : Row) → edited (PutKey r k v) n row ≡ edited (PutKey s k v) n row
put_key_any r s k v n (Struct class fields) = refl
put_key_any r s k v n (Map home items) = refl
put_key_any r s k v n (Array home values) = refl
put_key_any r s k v n (Set home items) = refl

pub add_any : (r s : ℕ) (v : Value) (n : ℕ) (row : Row) → edited (Add r v) n row ≡ edited (Add s v) n row
add_any r s v n (Struct class fields) = refl
add_any r s v n (Map home items) = refl
add_any r s v n (Array home values) = refl
add_any r s v n (Set home items) = refl
