-- What operations leave of a client's rows, on the way to shared rows, is rows of the schema.
use Rattle.std.proofs.Common.{◌≡◌, ℕ, Bool, true, false, not, ◌&&◌, ◌||◌, ◌==◌, List, map, Option, Some, None, refl, sym, ap, subst, ◌∙◌, arith}
use Rattle.std.specs.List.{list_all, list_any}
use Rattle.std.specs.Option.{option_map_or}
use Rattle.std.proofs.lemmas.Bool.Decides.{nat_tests}
use Rattle.lists.specs.Rising.{RisesFrom}
use Rattle.lists.proofs.Passing.{all_and_any, list_all_wider, list_any-flat_map, list_any-map, list_any-made, found-all}
use Rattle.schema_model.specs.declared.value.Value.{Value}
use Rattle.schema_model.specs.declared.place.Home.{Home}
use Rattle.schema_model.specs.Classes.{Schema}
use Rattle.state_model.specs.declared.row.Row.{Row}
use Rattle.state_model.specs.declared.row.Row.TheVariants.{Struct, Map, Array, Set}
use Rattle.state_model.specs.declared.row.RowEntry.{RowEntry}
use Rattle.state_model.specs.declared.row.FieldValue.{FieldValue}
use Rattle.state_model.specs.declared.row.MapItem.{MapItem}
use Rattle.state_model.specs.declared.row.SetItem.{SetItem}
use Rattle.state_model.specs.Values.{same_value, held_by}
use Rattle.state_model.specs.Rows.{number_of, row_at, is_live, emptied}
use Rattle.state_model.specs.Reached.{is_among}
use Rattle.state_model.specs.declared.place.Expected.{Expected}
use Rattle.state_model.specs.Places.{field_expects, item_expects, is_filtered, row_home}
use Rattle.state_model.specs.Sound.{rise, differ, keys_differ, has_kind, has_root, places_fit, fits_place, are_rows_of}
use Rattle.state_laws.proofs.Numbers.{entry, at_live, live_at, found_row}
use Rattle.std.proofs.lemmas.Bool.{and_parts, and_from}
use Rattle.state_laws.proofs.Fitting.{OneKind, same_class, same_declared, one_home, fits_elsewhere, fits_live}
use Rattle.state_laws.proofs.FittingRows.{rise_where}
use Rattle.state_laws.proofs.RowsOf.{rows_fit, rows_root}
use Rattle.state_laws.proofs.SameValues.{same_is}
use Rattle.wire_laws.proofs.Forms.{IsFormed}
use Rattle.wire_laws.proofs.Origins.{has_field, has_value, has_key, some_row, IsFrom, Kept}
use Rattle.wire_laws.proofs.Bools.{in_either}

-- ---- lists and tests

-- where each row that stands at a number passes, all rows of a rising list do
pub all_rows : (p : RowEntry → Bool) (rows : List RowEntry) → RisesFrom number_of 0 rows
    → ((n : ℕ) (r : Row) → row_at rows n ≡ Some r → p (entry n r) ≡ true) → list_all p rows ≡ true
all_rows p rows rises each = found-all number_of p 0 rows rises (λ e found. each e.who e.row (found_row rows e.who e found))

-- what holds where a test holds, or the test does not hold
unless : (b d : Bool) → (b ≡ true → d ≡ true) → (not b || d) ≡ true
unless true d f = f refl
unless false d f = refl

-- where a row passes there is one
some_there : (test : Row → Bool) (o : Option Row) → some_row test o ≡ true → (a : Row) × (o ≡ Some a) × (test a ≡ true)
some_there test None h = cc
some_there test (Some a) h = (a, refl, h)

-- ---- values where they stand

-- what stands in a field of an instance whose places fit is what the field of its class expects
field_fits : (schema : Schema) (rows : List RowEntry) (class i : ℕ) (fields : List FieldValue) (v : Value) (a : Row)
    → emptied (Struct class fields) ≡ emptied a → places_fit schema rows a ≡ true → has_field i v a ≡ true → fits_place schema rows v (field_expects schema class i) ≡ true
field_fits schema rows class i fields v (Struct kind others) e h t =
    let same : class ≡ kind = cc in
    let two = and_parts (rise (map (λ (f : FieldValue). f.field) others)) (list_all (λ (f : FieldValue). fits_place schema rows f.value (field_expects schema kind f.field)) others) h in
    let fits : fits_place schema rows v (field_expects schema kind i) ≡ true =
    all_and_any (λ (f : FieldValue). fits_place schema rows f.value (field_expects schema kind f.field)) (λ (f : FieldValue). (f.field == i) && same_value f.value v) others
    (fits_place schema rows v (field_expects schema kind i)) (λ f fit here. this_field kind f fit here) two.1 t
    in
    subst (λ c. fits_place schema rows v (field_expects schema c i) ≡ true) (sym same) fits
  where
    this_field : (kind : ℕ) (f : FieldValue) → fits_place schema rows f.value (field_expects schema kind f.field) ≡ true → ((f.field == i) && same_value f.value v) ≡ true → fits_place schema rows v (field_expects schema kind i) ≡ true
    this_field kind f fit here =
        let both_are = and_parts (f.field == i) (same_value f.value v) here in
        let number : f.field ≡ i = grind (arith, nat_tests, both_are.0) in
        subst (λ j. fits_place schema rows v (field_expects schema kind j) ≡ true) number (subst (λ u. fits_place schema rows u (field_expects schema kind f.field) ≡ true) (same_is f.value v both_are.1) fit)
field_fits schema rows class i fields v (Map home items) e h t = cc
field_fits schema rows class i fields v (Array home values) e h t = cc
field_fits schema rows class i fields v (Set home items) e h t = cc

-- a value that is one of these fits what these fit
value_among : {X : Type 0} (schema : Schema) (rows : List RowEntry) (w : Option Expected) (value : X → Value) (v : Value) (xs : List X)
    → list_all (λ x. fits_place schema rows (value x) w) xs ≡ true → list_any (λ x. same_value (value x) v) xs ≡ true → fits_place schema rows v w ≡ true
value_among schema rows w value v xs h t =
    all_and_any (λ x. fits_place schema rows (value x) w) (λ x. same_value (value x) v) xs (fits_place schema rows v w)
    (λ x fit same. subst (λ u. fits_place schema rows u w ≡ true) (same_is (value x) v same) fit) h t

-- what is an item of a collection whose places fit is what the items of its home want
item_fits : (schema : Schema) (rows : List RowEntry) (home : Home) (v : Value) (a : Row)
    → row_home a ≡ Some home → places_fit schema rows a ≡ true → has_value v a ≡ true → fits_place schema rows v (item_expects schema home) ≡ true
item_fits schema rows home v (Struct class fields) e h t = cc
item_fits schema rows home v (Map place items) e h t =
    let same : place ≡ home = cc in
    let value = λ (i : MapItem). i.value in
    let two = and_parts (rise (map (λ (i : MapItem). i.number) items) && keys_differ (map (λ (i : MapItem). i.key) items)) (list_all (λ (i : MapItem). fits_place schema rows i.value (item_expects schema place)) items) h in
    subst (λ k. fits_place schema rows v (item_expects schema k) ≡ true) same
    (value_among schema rows (item_expects schema place) value v items two.1 (sym (list_any-map (λ u. same_value u v) value items) ∙ t))
item_fits schema rows home v (Array place values) e h t =
    let same : place ≡ home = cc in
    let two = and_parts (not (is_filtered schema place) || differ values) (list_all (λ u. fits_place schema rows u (item_expects schema place)) values) h in
    subst (λ k. fits_place schema rows v (item_expects schema k) ≡ true) same
    (value_among schema rows (item_expects schema place) (λ u. u) v values two.1 t)
item_fits schema rows home v (Set place items) e h t =
    let same : place ≡ home = cc in
    let value = λ (i : SetItem). i.value in
    let two = and_parts (rise (map (λ (i : SetItem). i.number) items)) (list_all (λ (i : SetItem). fits_place schema rows i.value (item_expects schema place)) items) h in
    subst (λ k. fits_place schema rows v (item_expects schema k) ≡ true) same
    (value_among schema rows (item_expects schema place) value v items two.1 (sym (list_any-map (λ u. same_value u v) value items) ∙ t))

-- ---- values that come from rows of the schema

module _ (schema : Schema) (side now : List RowEntry) (sound : are_rows_of schema side ≡ true)
    (kinds : (n : ℕ) (r a : Row) → row_at now n ≡ Some r → row_at side n ≡ Some a → emptied r ≡ emptied a) where
  -- a value that fits over the one rows fits over the others, where what it links to is there
  fits_now : (v : Value) (w : Option Expected) → ((m : ℕ) → is_among m (held_by v) ≡ true → is_live now m ≡ true) → fits_place schema side v w ≡ true → fits_place schema now v w ≡ true
  fits_now v w there fit = fits_elsewhere schema side now v w (λ m t. one_kind m (at_live side m (fits_live schema side m v w fit t)) (at_live now m (there m t))) fit
    where
      one_kind : (m : ℕ) → (a : Row) × (row_at side m ≡ Some a) → (r : Row) × (row_at now m ≡ Some r) → OneKind side now m
      one_kind m a r = (a.0, r.0, a.1, r.1, sym (kinds m r.0 a.0 r.1 a.1))

  -- a value of a field fits, where the same field of the other rows has it
  field_now : (n class i : ℕ) (fields : List FieldValue) (v : Value) → row_at now n ≡ Some (Struct class fields) → ((m : ℕ) → is_among m (held_by v) ≡ true → is_live now m ≡ true)
      → some_row (has_field i v) (row_at side n) ≡ true → fits_place schema now v (field_expects schema class i) ≡ true
  field_now n class i fields v is there h =
      let a = some_there (has_field i v) (row_at side n) h in
      fits_now v (field_expects schema class i) there
      (field_fits schema side class i fields v a.0 (kinds n (Struct class fields) a.0 is a.1) (rows_fit schema side sound n a.0 a.1).1 a.2)

  -- an item of a collection fits, where the same collection of the other rows has it
  item_now : (n : ℕ) (home : Home) (r : Row) (v : Value) → row_home r ≡ Some home → row_at now n ≡ Some r → ((m : ℕ) → is_among m (held_by v) ≡ true → is_live now m ≡ true)
      → some_row (has_value v) (row_at side n) ≡ true → fits_place schema now v (item_expects schema home) ≡ true
  item_now n home r v at is there h =
      let a = some_there (has_value v) (row_at side n) h in
      fits_now v (item_expects schema home) there
      (item_fits schema side home v a.0 (sym (one_home r a.0 (kinds n r a.0 is a.1)) ∙ at) (rows_fit schema side sound n a.0 a.1).1 a.2)

  -- a row is of a declared kind, where one stands at its number in the other rows
  kind_now : (n : ℕ) (r : Row) → row_at now n ≡ Some r → is_live side n ≡ true → has_kind schema r ≡ true
  kind_now n r is live =
      let a = at_live side n live in
      same_declared schema r a.0 (kinds n r a.0 is a.1) ∙ (rows_fit schema side sound n a.0 a.1).0

  -- row 0 is of the root class, where it is of the kind of that of the other rows
  root_now : is_live now 0 ≡ true → has_root schema (row_at now 0) ≡ true
  root_now live =
      let a = at_live side 0 (rows_root schema side sound) in
      let r = at_live now 0 live in
      let first = and_parts (rise (map number_of side) && has_root schema (row_at side 0)) (list_all (λ (e : RowEntry). has_kind schema e.row && places_fit schema side e.row) side) sound in
      let root = and_parts (rise (map number_of side)) (has_root schema (row_at side 0)) first.0 in
      ap (has_root schema) r.1 ∙ ap (λ o. option_map_or (λ c. c == schema.root) o false) (same_class r.0 a.0 (kinds 0 r.0 a.0 r.1 a.1)) ∙ ap (has_root schema) (sym a.1) ∙ root.1

-- ---- rows that are left of a client's

module _ (schema : Schema) (client goal now : List RowEntry) (ours : are_rows_of schema client ≡ true) (theirs : are_rows_of schema goal ≡ true) (k : Kept schema client goal now) where
  -- a value of a field fits, which stands in this field of the client's row or of the other
  field_kept : (n class i : ℕ) (fields : List FieldValue) (v : Value) → row_at now n ≡ Some (Struct class fields) → ((m : ℕ) → is_among m (held_by v) ≡ true → is_live now m ≡ true)
      → (some_row (has_field i v) (row_at client n) || some_row (has_field i v) (row_at goal n)) ≡ true → fits_place schema now v (field_expects schema class i) ≡ true
  field_kept n class i fields v is there h =
      in_either (some_row (has_field i v) (row_at client n)) (some_row (has_field i v) (row_at goal n)) (fits_place schema now v (field_expects schema class i))
      (field_now schema client now ours k.client_kind n class i fields v is there) (field_now schema goal now theirs k.goal_kind n class i fields v is there) h

  -- an item fits, which the client's row has or the other
  item_kept : (n : ℕ) (home : Home) (r : Row) (v : Value) → row_home r ≡ Some home → row_at now n ≡ Some r → ((m : ℕ) → is_among m (held_by v) ≡ true → is_live now m ≡ true)
      → (some_row (has_value v) (row_at client n) || some_row (has_value v) (row_at goal n)) ≡ true → fits_place schema now v (item_expects schema home) ≡ true
  item_kept n home r v at is there h =
      in_either (some_row (has_value v) (row_at client n)) (some_row (has_value v) (row_at goal n)) (fits_place schema now v (item_expects schema home))
      (item_now schema client now ours k.client_kind n home r v at is there) (item_now schema goal now theirs k.goal_kind n home r v at is there) h

  -- the places of a row fit
  places_kept : (n : ℕ) (r : Row) → row_at now n ≡ Some r → IsFormed schema r → IsFrom (row_at client n) (row_at goal n) r → places_fit schema now r ≡ true
  places_kept n (Struct class fields) is formed from =
      let value = λ (f : FieldValue). f.value in
      let origin = λ (f : FieldValue). some_row (has_field f.field f.value) (row_at client n) || some_row (has_field f.field f.value) (row_at goal n) in
      let fits = λ (f : FieldValue). fits_place schema now f.value (field_expects schema class f.field) in
      and_from (rise (map (λ (f : FieldValue). f.field) fields)) (list_all fits fields) (rise_where (λ (f : FieldValue). f.field) 0 fields formed)
      (list_all_wider origin fits fields
      (λ f stands. field_kept n class f.field fields f.value is (λ m t. k.links n m (Struct class fields) is (list_any-made (λ j. j == m) held_by value fields ∙ stands (λ g. is_among m (held_by g.value)) t)))
      from)
  places_kept n (Map home items) is formed from =
      let value = λ (i : MapItem). i.value in
      let has = λ (v : Value). some_row (has_value v) (row_at client n) || some_row (has_value v) (row_at goal n) in
      let named = λ (i : MapItem). some_row (has_key i.number i.key) (row_at client n) || some_row (has_key i.number i.key) (row_at goal n) in
      let fits = λ (i : MapItem). fits_place schema now i.value (item_expects schema home) in
      and_from (rise (map (λ (i : MapItem). i.number) items) && keys_differ (map (λ (i : MapItem). i.key) items)) (list_all fits items)
      (and_from (rise (map (λ (i : MapItem). i.number) items)) (keys_differ (map (λ (i : MapItem). i.key) items)) (rise_where (λ (i : MapItem). i.number) 0 items formed.0) formed.1)
      (list_all_wider (λ (i : MapItem). has i.value && named i) fits items
      (λ i stands h. item_kept n home (Map home items) i.value refl is
      (λ m t. k.links n m (Map home items) is (list_any-made (λ j. j == m) held_by value items ∙ stands (λ g. is_among m (held_by g.value)) t))
      (and_parts (has i.value) (named i) h).0)
      from)
  places_kept n (Array home values) is formed from =
      let has = λ (v : Value). some_row (has_value v) (row_at client n) || some_row (has_value v) (row_at goal n) in
      let fits = λ (v : Value). fits_place schema now v (item_expects schema home) in
      and_from (not (is_filtered schema home) || differ values) (list_all fits values)
      (unless (is_filtered schema home) (differ values) (λ filtered. (formed filtered).0))
      (list_all_wider has fits values
      (λ v stands. item_kept n home (Array home values) v refl is
      (λ m t. k.links n m (Array home values) is (list_any-flat_map (λ j. j == m) held_by values ∙ stands (λ u. is_among m (held_by u)) t)))
      from)
  places_kept n (Set home items) is formed from =
      let value = λ (i : SetItem). i.value in
      let has = λ (v : Value). some_row (has_value v) (row_at client n) || some_row (has_value v) (row_at goal n) in
      let fits = λ (i : SetItem). fits_place schema now i.value (item_expects schema home) in
      and_from (rise (map (λ (i : SetItem). i.number) items)) (list_all fits items) (rise_where (λ (i : SetItem). i.number) 0 items formed)
      (list_all_wider (λ (i : SetItem). has i.value) fits items
      (λ i stands. item_kept n home (Set home items) i.value refl is
      (λ m t. k.links n m (Set home items) is (list_any-made (λ j. j == m) held_by value items ∙ stands (λ g. is_among m (held_by g.value)) t)))
      from)

  -- a row is of a declared kind, and its places fit
  row_kept : (n : ℕ) (r : Row) → row_at now n ≡ Some r → (has_kind schema r && places_fit schema now r) ≡ true
  row_kept n r is =
      and_from (has_kind schema r) (places_fit schema now r)
      (in_either (is_live client n) (is_live goal n) (has_kind schema r)
      (kind_now schema client now ours k.client_kind n r is) (kind_now schema goal now theirs k.goal_kind n r is) (k.there n (live_at now n r is)))
      (places_kept n r is (k.formed n r is) (k.origin n r is))

-- what is left of a client's rows, on the way to rows of the schema, is rows of the schema
pub kept_rows_of : (schema : Schema) (client goal now : List RowEntry) → are_rows_of schema client ≡ true → are_rows_of schema goal ≡ true → Kept schema client goal now → are_rows_of schema now ≡ true
kept_rows_of schema client goal now ours theirs k =
    and_from (rise (map number_of now) && has_root schema (row_at now 0)) (list_all (λ (e : RowEntry). has_kind schema e.row && places_fit schema now e.row) now)
    (and_from (rise (map number_of now)) (has_root schema (row_at now 0)) (rise_where number_of 0 now k.rises)
    (root_now schema client now ours k.client_kind (k.stays 0 (rows_root schema client ours))))
    (all_rows (λ (e : RowEntry). has_kind schema e.row && places_fit schema now e.row) now k.rises (row_kept schema client goal now ours theirs k))
