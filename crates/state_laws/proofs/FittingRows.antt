-- Rows whose places fit what is declared: over other rows, with shown places alone, and what they hold.
use Rattle.std.proofs.Common.{◌≡◌, ℕ, suc, ◌<◌, Bool, true, false, not, ◌&&◌, ◌||◌, ◌==◌, List, [], ◌∷◌, Some, map, filter, nat_lt, refl, sym, ◌∙◌, arith}
use Rattle.std.specs.List.{list_any, list_all}
use Rattle.std.specs.Str.{bytes_eq}
use Rattle.std.proofs.lemmas.Bool.Decides.{nat_tests}
use Rattle.lists.specs.Rising.{RisesFrom}
use Rattle.lists.proofs.RisingLaws.{RisesFrom-filter}
use Rattle.lists.proofs.Passing.{all_and_any, list_all_wider, list_all_filtered, list_any_filtered, list_any-flat_map, list_any-map, list_any-made, StandsIn}
use Rattle.schema_model.specs.declared.value.Value.{Value}
use Rattle.schema_model.specs.declared.place.Pair.{Pair}
use Rattle.schema_model.specs.Classes.{Schema}
use Rattle.state_model.specs.declared.row.Row.{Row}
use Rattle.state_model.specs.declared.row.Row.TheVariants.{Struct, Map, Array, Set}
use Rattle.state_model.specs.declared.row.RowEntry.{RowEntry}
use Rattle.state_model.specs.declared.row.FieldValue.{FieldValue}
use Rattle.state_model.specs.declared.row.MapItem.{MapItem}
use Rattle.state_model.specs.declared.row.SetItem.{SetItem}
use Rattle.state_model.specs.Values.{same_value, held_by}
use Rattle.state_model.specs.Rows.{row_at, is_live, held_in, emptied}
use Rattle.state_model.specs.Places.{field_expects, item_expects, is_filtered}
use Rattle.state_model.specs.Reached.{is_among}
use Rattle.state_model.specs.Sound.{rise, differ, keys_differ, fits_place, places_fit}
use Rattle.state_model.specs.Shown.{shows_field, shows_item, shown_row}
use Rattle.std.proofs.lemmas.Bool.{and_parts, and_from}
use Rattle.state_laws.proofs.ShownRows.{holds}
use Rattle.state_laws.proofs.Fitting.{OneKind, fits_elsewhere, fits_live}

-- numbers that rise, keys and values that differ

module _ {E : Type 0} (key : E → ℕ) where
  -- behind the first of items whose keys rise by the test, they rise from its key on
  rise_behind : (x : E) (xs : List E) → rise (map key (x ∷ xs)) ≡ true → RisesFrom key (suc (key x)) xs
  rise_behind x [] h = tt
  rise_behind x (y ∷ ys) h =
      let two = and_parts (nat_lt (key x) (key y)) (rise (map key (y ∷ ys))) h in
      let less : key x < key y = grind (arith, nat_tests, two.0) in
      (omega (arith, less), rise_behind y ys two.1)

  -- items whose keys rise by the test do so
  pub rises_where : (xs : List E) → rise (map key xs) ≡ true → RisesFrom key 0 xs
  rises_where [] h = tt
  rises_where (x ∷ xs) h = (omega arith, rise_behind x xs h)

  -- the keys of items that rise do so by the test
  pub rise_where : (low : ℕ) (xs : List E) → RisesFrom key low xs → rise (map key xs) ≡ true
  rise_where low [] r = refl
  rise_where low (x ∷ []) r = refl
  rise_where low (x ∷ y ∷ ys) r =
      let less : nat_lt (key x) (key y) ≡ true = grind (arith, nat_tests, r.1.0) in
      and_from (nat_lt (key x) (key y)) (rise (map key (y ∷ ys))) less (rise_where (suc (key x)) (y ∷ ys) r.1)

  -- keys that rise by the test do so when filtered
  rise_filtered : (q : E → Bool) (xs : List E) → rise (map key xs) ≡ true → rise (map key (filter q xs)) ≡ true
  rise_filtered q xs h = rise_where 0 (filter q xs) (RisesFrom-filter key 0 q xs (rises_where xs h))

-- values that differ do so when filtered
pub differ_filtered : (q : Value → Bool) (vs : List Value) → differ vs ≡ true → differ (filter q vs) ≡ true
differ_filtered q [] h = h
differ_filtered q (v ∷ vs) h = grind (arith, nat_tests, list_any_filtered (same_value v) q vs, differ_filtered q vs)

-- keys that differ do so when filtered
pub keys_filtered : {X : Type 0} (f : X → List ℕ) (q : X → Bool) (xs : List X) → keys_differ (map f xs) ≡ true → keys_differ (map f (filter q xs)) ≡ true
keys_filtered f q [] h = h
keys_filtered f q (x ∷ xs) h = grind (arith, nat_tests, list_any-map (bytes_eq (f x)) f xs, list_any-map (bytes_eq (f x)) f (filter q xs), list_any_filtered (λ y. bytes_eq (f x) (f y)) q xs, keys_filtered f q xs)

-- shown places

-- values that differ where their array is filtered do so with some taken out
unfiltered_or : (f : Bool) (q : Value → Bool) (vs : List Value) → (not f || differ vs) ≡ true → (not f || differ (filter q vs)) ≡ true
unfiltered_or true q vs h = differ_filtered q vs h
unfiltered_or false q vs h = refl

-- the shown places of a row whose places fit do so
pub shown_fits : (schema : Schema) (rows : List RowEntry) (M : List Pair) (who : ℕ) (r : Row) → places_fit schema rows r ≡ true → places_fit schema rows (shown_row schema M who r) ≡ true
shown_fits schema rows M who (Struct class fields) h =
    let q = shows_field schema M who class in
    let p = λ (f : FieldValue). fits_place schema rows f.value (field_expects schema class f.field) in
    let two = and_parts (rise (map (λ (f : FieldValue). f.field) fields)) (list_all p fields) h in
    and_from (rise (map (λ (f : FieldValue). f.field) (filter q fields))) (list_all p (filter q fields)) (rise_filtered (λ (f : FieldValue). f.field) q fields two.0) (list_all_filtered p q fields two.1)
shown_fits schema rows M who (Map home items) h =
    let q = λ (i : MapItem). shows_item schema M who home i.value in
    let p = λ (i : MapItem). fits_place schema rows i.value (item_expects schema home) in
    let number = λ (i : MapItem). i.number in
    let key = λ (i : MapItem). i.key in
    let two = and_parts (rise (map number items) && keys_differ (map key items)) (list_all p items) h in
    let rest = and_parts (rise (map number items)) (keys_differ (map key items)) two.0 in
    and_from (rise (map number (filter q items)) && keys_differ (map key (filter q items))) (list_all p (filter q items))
    (and_from (rise (map number (filter q items))) (keys_differ (map key (filter q items))) (rise_filtered number q items rest.0) (keys_filtered key q items rest.1))
    (list_all_filtered p q items two.1)
shown_fits schema rows M who (Array home values) h =
    let q = shows_item schema M who home in
    let p = λ (v : Value). fits_place schema rows v (item_expects schema home) in
    let two = and_parts (not (is_filtered schema home) || differ values) (list_all p values) h in
    and_from (not (is_filtered schema home) || differ (filter q values)) (list_all p (filter q values)) (unfiltered_or (is_filtered schema home) q values two.0) (list_all_filtered p q values two.1)
shown_fits schema rows M who (Set home items) h =
    let q = λ (i : SetItem). shows_item schema M who home i.value in
    let p = λ (i : SetItem). fits_place schema rows i.value (item_expects schema home) in
    let two = and_parts (rise (map (λ (i : SetItem). i.number) items)) (list_all p items) h in
    and_from (rise (map (λ (i : SetItem). i.number) (filter q items))) (list_all p (filter q items)) (rise_filtered (λ (i : SetItem). i.number) q items two.0) (list_all_filtered p q items two.1)

-- other rows

-- a number that the value of a place holds is held
held_place : {X : Type 0} (f : X → Value) (xs : List X) (x : X) (m : ℕ) → StandsIn x xs → is_among m (held_by (f x)) ≡ true → list_any (λ y. holds m (f y)) xs ≡ true
held_place f xs x m s h = s (λ y. holds m (f y)) h

-- where each place that fits over some rows leads to rows of one kind, all places fit over others
places_elsewhere : {X : Type 0} (f : X → Value) (p q : X → Bool) (rows some : List RowEntry) (xs : List X) →
    ((x : X) → ((m : ℕ) → is_among m (held_by (f x)) ≡ true → OneKind rows some m) → p x ≡ true → q x ≡ true) →
    ((m : ℕ) → list_any (λ x. holds m (f x)) xs ≡ true → OneKind rows some m) → list_all p xs ≡ true → list_all q xs ≡ true
places_elsewhere f p q rows some xs each k h = list_all_wider p q xs (λ x s t. each x (λ m held. k m (held_place f xs x m s held)) t) h

-- places that fit over some rows fit over others where the rows that they lead to are of the same kinds
pub places_fit_elsewhere : (schema : Schema) (rows some : List RowEntry) (r : Row) → ((m : ℕ) → is_among m (held_in r) ≡ true → (a b : Row) × (row_at rows m ≡ Some a) × (row_at some m ≡ Some b) × (emptied a ≡ emptied b))
    → places_fit schema rows r ≡ true → places_fit schema some r ≡ true
places_fit_elsewhere schema rows some (Struct class fields) k h =
    let p = λ (rs : List RowEntry) (f : FieldValue). fits_place schema rs f.value (field_expects schema class f.field) in
    let value = λ (f : FieldValue). f.value in
    let two = and_parts (rise (map (λ (f : FieldValue). f.field) fields)) (list_all (p rows) fields) h in
    and_from (rise (map (λ (f : FieldValue). f.field) fields)) (list_all (p some) fields) two.0
    (places_elsewhere value (p rows) (p some) rows some fields (λ f. fits_elsewhere schema rows some f.value (field_expects schema class f.field)) (λ m t. k m (list_any-made (λ n. n == m) held_by value fields ∙ t)) two.1)
places_fit_elsewhere schema rows some (Map home items) k h =
    let p = λ (rs : List RowEntry) (i : MapItem). fits_place schema rs i.value (item_expects schema home) in
    let value = λ (i : MapItem). i.value in
    let keyed = rise (map (λ (i : MapItem). i.number) items) && keys_differ (map (λ (i : MapItem). i.key) items) in
    let two = and_parts keyed (list_all (p rows) items) h in
    and_from keyed (list_all (p some) items) two.0
    (places_elsewhere value (p rows) (p some) rows some items (λ i. fits_elsewhere schema rows some i.value (item_expects schema home)) (λ m t. k m (list_any-made (λ n. n == m) held_by value items ∙ t)) two.1)
places_fit_elsewhere schema rows some (Array home values) k h =
    let p = λ (rs : List RowEntry) (v : Value). fits_place schema rs v (item_expects schema home) in
    let value = λ (v : Value). v in
    let two = and_parts (not (is_filtered schema home) || differ values) (list_all (p rows) values) h in
    and_from (not (is_filtered schema home) || differ values) (list_all (p some) values) two.0
    (places_elsewhere value (p rows) (p some) rows some values (λ v. fits_elsewhere schema rows some v (item_expects schema home)) (λ m t. k m (list_any-flat_map (λ n. n == m) held_by values ∙ t)) two.1)
places_fit_elsewhere schema rows some (Set home items) k h =
    let p = λ (rs : List RowEntry) (i : SetItem). fits_place schema rs i.value (item_expects schema home) in
    let value = λ (i : SetItem). i.value in
    let two = and_parts (rise (map (λ (i : SetItem). i.number) items)) (list_all (p rows) items) h in
    and_from (rise (map (λ (i : SetItem). i.number) items)) (list_all (p some) items) two.0
    (places_elsewhere value (p rows) (p some) rows some items (λ i. fits_elsewhere schema rows some i.value (item_expects schema home)) (λ m t. k m (list_any-made (λ n. n == m) held_by value items ∙ t)) two.1)

-- what a row whose places fit holds is there
pub held_live : (schema : Schema) (rows : List RowEntry) (m : ℕ) (r : Row) → places_fit schema rows r ≡ true → is_among m (held_in r) ≡ true → is_live rows m ≡ true
held_live schema rows m (Struct class fields) h t =
    let p = λ (f : FieldValue). fits_place schema rows f.value (field_expects schema class f.field) in
    let value = λ (f : FieldValue). f.value in
    let two = and_parts (rise (map (λ (f : FieldValue). f.field) fields)) (list_all p fields) h in
    all_and_any p (λ f. holds m f.value) fields (is_live rows m) (λ f. fits_live schema rows m f.value (field_expects schema class f.field)) two.1 (sym (list_any-made (λ n. n == m) held_by value fields) ∙ t)
held_live schema rows m (Map home items) h t =
    let p = λ (i : MapItem). fits_place schema rows i.value (item_expects schema home) in
    let value = λ (i : MapItem). i.value in
    let two = and_parts (rise (map (λ (i : MapItem). i.number) items) && keys_differ (map (λ (i : MapItem). i.key) items)) (list_all p items) h in
    all_and_any p (λ i. holds m i.value) items (is_live rows m) (λ i. fits_live schema rows m i.value (item_expects schema home)) two.1 (sym (list_any-made (λ n. n == m) held_by value items) ∙ t)
held_live schema rows m (Array home values) h t =
    let p = λ (v : Value). fits_place schema rows v (item_expects schema home) in
    let two = and_parts (not (is_filtered schema home) || differ values) (list_all p values) h in
    all_and_any p (holds m) values (is_live rows m) (λ v. fits_live schema rows m v (item_expects schema home)) two.1 (sym (list_any-flat_map (λ n. n == m) held_by values) ∙ t)
held_live schema rows m (Set home items) h t =
    let p = λ (i : SetItem). fits_place schema rows i.value (item_expects schema home) in
    let value = λ (i : SetItem). i.value in
    let two = and_parts (rise (map (λ (i : SetItem). i.number) items)) (list_all p items) h in
    all_and_any p (λ i. holds m i.value) items (is_live rows m) (λ i. fits_live schema rows m i.value (item_expects schema home)) two.1 (sym (list_any-made (λ n. n == m) held_by value items) ∙ t)
