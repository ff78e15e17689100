-- What an accepted command leaves as it was: rows and their kinds, the numbers that were given, items and their keys.
use Rattle.std.proofs.Common.{◌≡◌, ℕ, suc, ◌≤◌, true, false, ◌&&◌, List, [], Option, Some, None, is_some, Ok, filter, not, map, refl, sym, ap, subst, ◌∙◌, arith, ◌⊎◌, inl, inr}
use Rattle.std.specs.Str.{bytes_eq}
use Rattle.std.specs.List.{list_all}
use Rattle.std.proofs.lemmas.Bool.{and_parts}
use Rattle.std.proofs.lemmas.Option.{same_Some}
use Rattle.lists.specs.Rising.{RisesFrom, find}
use Rattle.lists.proofs.RisingLaws.{list_any-keys, find-filter_passes}
use Rattle.schema_model.specs.declared.place.Home.{Home}
use Rattle.schema_model.specs.Classes.{Schema}
use Rattle.state_model.specs.declared.row.Row.{Row}
use Rattle.state_model.specs.declared.row.Row.TheVariants.{Map, Set}
use Rattle.state_model.specs.declared.row.RowEntry.{RowEntry}
use Rattle.state_model.specs.declared.row.MapItem.{MapItem}
use Rattle.state_model.specs.declared.row.SetItem.{SetItem}
use Rattle.state_model.specs.declared.command.Command.{Command}
use Rattle.state_model.specs.declared.command.Command.TheVariants.{PutKey, DelKey, Clear}
use Rattle.state_model.specs.Rows.{row_at, emptied}
use Rattle.state_model.specs.Places.{item_expects}
use Rattle.state_model.specs.Reached.{is_among}
use Rattle.state_model.specs.Sound.{rise, keys_differ, fits_place}
use Rattle.state_model.specs.State.{State, next_item}
use Rattle.state_model.specs.Commands.{gives_number, counts_items, put_key, edited, do_command}
use Rattle.state_laws.proofs.FittingRows.{rises_where}
use Rattle.command_laws.specs.Kept.{item_numbers, IsKept}
use Rattle.command_laws.proofs.Accepted.{outcome}
use Rattle.command_laws.proofs.LinkedRows.{put_from}
use Rattle.command_laws.proofs.KeyedItems.{number_in, key_stays}
use Rattle.command_laws.proofs.EditedRows.{edited_kind, edited_numbers}
use Rattle.command_laws.proofs.SoundRows.{IsSoundRow, sound_row}
use Rattle.command_laws.proofs.ItemCounts.{count_no_less}
use Rattle.command_laws.proofs.NewRows.{next_free, stands_beside, none_counted}
use Rattle.command_laws.proofs.ChangedRows.{kinds_changed, after_row}

-- rows

-- every row stays, of its kind
pub command_kinds : (schema : Schema) (s : State) (c : Command) (t : State) (made : Option ℕ) → IsKept schema s → do_command schema s c ≡ Ok (t, made) → (n : ℕ) (a : Row)
    → row_at s.rows n ≡ Some a → (b : Row) × (row_at t.rows n ≡ Some b) × (emptied b ≡ emptied a)
command_kinds schema s c t made kept h n a at = elim (outcome schema s c t made h) [
  | inl m ↦ (a, ap (λ (q : State). row_at q.rows n) m.after ∙ stands_beside s.rows (suc s.given) m.row n a (next_free schema s kept) at, refl)
  | inr d ↦
      let stay = kinds_changed s.rows d.holder d.row (after_row s c d.holder d.row) d.stands (edited_kind c (next_item s d.holder) d.row) n a at in
      (stay.0, ap (λ (q : State). row_at q.rows n) d.after ∙ stay.1, stay.2)
]

-- a row that wasn't there has the number that the command tells, the next one
pub command_new : (schema : Schema) (s : State) (c : Command) (t : State) (made : Option ℕ) → do_command schema s c ≡ Ok (t, made) → (n : ℕ) (b : Row) → row_at s.rows n ≡ None
    → row_at t.rows n ≡ Some b → (made ≡ Some n) × (n ≡ suc s.given) × (t.given ≡ n)
command_new schema s c t made h n b none at = elim (outcome schema s c t made h) [
  | inl m ↦ elim (put_from s.rows (suc s.given) m.row n b (sym (ap (λ (q : State). row_at q.rows n) m.after) ∙ at)) [
    | inl put ↦ (m.number ∙ ap Some put.0, sym put.0, ap (λ (q : State). q.given) m.after ∙ put.0)
    | inr old ↦ cc
  ]
  | inr d ↦ elim (put_from s.rows d.holder (after_row s c d.holder d.row) n b (sym (ap (λ (q : State). row_at q.rows n) d.after) ∙ at)) [
    | inl put ↦ let there : row_at s.rows n ≡ Some d.row = ap (row_at s.rows) (sym put.0) ∙ d.stands in cc
    | inr old ↦ cc
  ]
]

-- numbers that were given stay so
pub command_given : (schema : Schema) (s : State) (c : Command) (t : State) (made : Option ℕ) → do_command schema s c ≡ Ok (t, made) → s.given ≤ t.given
command_given schema s c t made h = elim (outcome schema s c t made h) [
  | inl m ↦ let same : t.given ≡ suc s.given = ap (λ (q : State). q.given) m.after in omega arith
  | inr d ↦ let same : t.given ≡ s.given = ap (λ (q : State). q.given) d.after in omega arith
]

-- a row that stays is as it was, or what the command makes of it
row_after : (schema : Schema) (s : State) (c : Command) (t : State) (made : Option ℕ) → IsKept schema s → do_command schema s c ≡ Ok (t, made) → (n : ℕ) (a b : Row) → row_at s.rows n ≡ Some a
    → row_at t.rows n ≡ Some b → (b ≡ a) ⊎ (b ≡ edited c (next_item s n) a)
row_after schema s c t made kept h n a b was is = elim (outcome schema s c t made h) [
  | inl m ↦
      let stays = ap (λ (q : State). row_at q.rows n) m.after ∙ stands_beside s.rows (suc s.given) m.row n a (next_free schema s kept) was in
      inl (same_Some b a (sym is ∙ stays))
  | inr d ↦ elim (put_from s.rows d.holder (after_row s c d.holder d.row) n b (sym (ap (λ (q : State). row_at q.rows n) d.after) ∙ is)) [
    | inl put ↦
        let one : d.row ≡ a = same_Some d.row a (sym d.stands ∙ ap (row_at s.rows) put.0 ∙ was) in
        inr (put.1 ∙ ap (λ k. edited c (next_item s k) d.row) put.0 ∙ ap (edited c (next_item s n)) one)
    | inr old ↦ inl (same_Some b a (sym old ∙ was))
  ]
]

-- item numbers

-- item numbers that were given stay so
pub command_counts : (schema : Schema) (s : State) (c : Command) (t : State) (made : Option ℕ) → IsKept schema s → do_command schema s c ≡ Ok (t, made) → (n : ℕ) → next_item s n ≤ next_item t n
command_counts schema s c t made kept h n = elim (outcome schema s c t made h) [
  | inl m ↦
      let more = count_no_less (counts_items m.row) (suc s.given) 0 s.counts (none_counted schema s kept) n in
      subst (λ (q : State). next_item s n ≤ next_item q n) (sym m.after) more
  | inr d ↦
      let more = count_no_less (gives_number c (Some d.row)) d.holder (suc (next_item s d.holder)) s.counts (omega arith) n in
      subst (λ (q : State). next_item s n ≤ next_item q n) (sym d.after) more
]

-- an item number of a row that stays was one of it, or is the next
pub command_numbers : (schema : Schema) (s : State) (c : Command) (t : State) (made : Option ℕ) → IsKept schema s → do_command schema s c ≡ Ok (t, made) → (n : ℕ) (a b : Row) (k : ℕ)
    → row_at s.rows n ≡ Some a → row_at t.rows n ≡ Some b → is_among k (item_numbers b) ≡ true → (is_among k (item_numbers a) ≡ true) ⊎ (k ≡ next_item s n)
command_numbers schema s c t made kept h n a b k was is there = elim (row_after schema s c t made kept h n a b was is) [
  | inl same ↦ inl (ap (λ r. is_among k (item_numbers r)) (sym same) ∙ there)
  | inr new ↦ elim (edited_numbers c (next_item s n) a k (ap (λ r. is_among k (item_numbers r)) (sym new) ∙ there)) [ inl old ↦ inl old | inr next ↦ inr next.0 ]
]

-- an item that is new by its number has the next one
new_number : {X : Type 0} (key : X → ℕ) (k next : ℕ) (xs ys : List X) (y : X) → find key k xs ≡ None → find key k ys ≡ Some y → (is_among k (map key ys) ≡ true → (is_among k (map key xs) ≡ true) ⊎ (k ≡ next)) → k ≡ next
new_number key k next xs ys y none some from =
    elim (from (list_any-keys key ys k ∙ ap is_some some)) [ inl old ↦ let gone : is_among k (map key xs) ≡ false = list_any-keys key xs k ∙ ap is_some none in cc | inr new ↦ new ]

-- a new item of a map has the next number
pub command_items : (schema : Schema) (s : State) (c : Command) (t : State) (made : Option ℕ) → IsKept schema s → do_command schema s c ≡ Ok (t, made)
    → (n : ℕ) (home other : Home) (is js : List MapItem) (k : ℕ) (j : MapItem) → row_at s.rows n ≡ Some (Map home is) → row_at t.rows n ≡ Some (Map other js)
    → find (λ (i : MapItem). i.number) k is ≡ None → find (λ (i : MapItem). i.number) k js ≡ Some j → k ≡ next_item s n
command_items schema s c t made kept h n home other is js k j was at none some =
    new_number (λ (i : MapItem). i.number) k (next_item s n) is js j none some (command_numbers schema s c t made kept h n (Map home is) (Map other js) k was at)

-- so has a new item of a set
pub command_set_items : (schema : Schema) (s : State) (c : Command) (t : State) (made : Option ℕ) → IsKept schema s → do_command schema s c ≡ Ok (t, made)
    → (n : ℕ) (home other : Home) (is js : List SetItem) (k : ℕ) (j : SetItem) → row_at s.rows n ≡ Some (Set home is) → row_at t.rows n ≡ Some (Set other js)
    → find (λ (i : SetItem). i.number) k is ≡ None → find (λ (i : SetItem). i.number) k js ≡ Some j → k ≡ next_item s n
command_set_items schema s c t made kept h n home other is js k j was at none some =
    new_number (λ (i : SetItem). i.number) k (next_item s n) is js j none some (command_numbers schema s c t made kept h n (Set home is) (Set other js) k was at)

-- the keys of a map

-- equal maps have equal items
same_items : (home other : Home) (is js : List MapItem) → Map home is ≡ Map other js → is ≡ js
same_items home other is js h = cc

-- what is found in one list of items is found in the same list
same_key : (is js : List MapItem) (k : ℕ) (i j : MapItem) → is ≡ js → find number_in k is ≡ Some i → find number_in k js ≡ Some j → j.key ≡ i.key
same_key is js k i j same a b = ap (λ (x : MapItem). x.key) (same_Some j i (sym b ∙ ap (find number_in k) (sym same) ∙ a))

-- an item that stays keeps its key, whatever a command makes of its map
edited_keys : (c : Command) (next : ℕ) (home other : Home) (is js : List MapItem) (k : ℕ) (i j : MapItem) → RisesFrom number_in 0 is → Map other js ≡ edited c next (Map home is)
    → find number_in k is ≡ Some i → find number_in k js ≡ Some j → j.key ≡ i.key
edited_keys (PutKey r key v) next home other is js k i j rise e a b =
    key_stays next key v is k i j a (ap (find number_in k) (sym (same_items other home js (put_key next key v is) e)) ∙ b)
edited_keys (DelKey r key) next home other is js k i j rise e a b =
    let q = λ (x : MapItem). not (bytes_eq x.key key) in
    let left = find-filter_passes number_in 0 q is k j rise (ap (find number_in k) (sym (same_items other home js (filter q is) e)) ∙ b) in
    same_key is is k i j refl a left.0
edited_keys (Clear r) next home other is js k i j rise e a b = let none = ap (find number_in k) (same_items other home js [] e) in cc
edited_keys c next home other is js k i j rise e a b = same_key is js k i j (sym (same_items other home js is e)) a b

-- the items of a sound map rise
map_rises : (schema : Schema) (rows : List RowEntry) (home : Home) (is : List MapItem) → IsSoundRow schema rows (Map home is) → RisesFrom number_in 0 is
map_rises schema rows home is own =
    let numbers = rise (map number_in is) in
    let keys = keys_differ (map (λ (x : MapItem). x.key) is) in
    let all = list_all (λ (x : MapItem). fits_place schema rows x.value (item_expects schema home)) is in
    rises_where number_in is (and_parts numbers keys (and_parts (numbers && keys) all own.fits).0).0

-- an item that stays keeps its key
pub command_keys : (schema : Schema) (s : State) (c : Command) (t : State) (made : Option ℕ) → IsKept schema s → do_command schema s c ≡ Ok (t, made)
    → (n : ℕ) (home other : Home) (is js : List MapItem) (k : ℕ) (i j : MapItem) → row_at s.rows n ≡ Some (Map home is) → row_at t.rows n ≡ Some (Map other js)
    → find (λ (x : MapItem). x.number) k is ≡ Some i → find (λ (x : MapItem). x.number) k js ≡ Some j → j.key ≡ i.key
command_keys schema s c t made kept h n home other is js k i j was at a b = elim (row_after schema s c t made kept h n (Map home is) (Map other js) was at) [
  | inl same ↦ same_key is js k i j (sym (same_items other home js is same)) a b
  | inr new ↦ edited_keys c (next_item s n) home other is js k i j (map_rises schema s.rows home is (sound_row schema s.rows kept.sound n (Map home is) was)) new a b
]
