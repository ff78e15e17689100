-- What the operations that lead to a new row mean again after they were told, each against rows known to be what they are in the new rows.
use Rattle.std.proofs.Common.{◌≡◌, ℕ, Bool, true, false, not, cond, max, ◌&&◌, ◌||◌, List, [], ◌∷◌, ◌++◌, length, map, Option, Some, None, refl, sym, ap, subst, ◌∙◌}
use Rattle.std.specs.List.{flat_map, slice_get, range_with_len, list_all}
use Rattle.std.specs.Option.{option_map}
use Rattle.lists.specs.Rising.{find}
use Rattle.lists.proofs.RisingLaws.{find_key}
use Rattle.lists.proofs.Passing.{list_all_filtered, all-found}
use Rattle.schema_model.specs.Classes.{Schema}
use Rattle.schema_model.specs.declared.value.Value.{Value}
use Rattle.schema_model.specs.declared.value.Value.TheVariants.{Whole, Str, Truth, Link}
use Rattle.schema_model.specs.declared.place.Home.{Home}
use Rattle.state_model.specs.declared.row.Row.{Row}
use Rattle.state_model.specs.declared.row.Row.TheVariants.{Struct, Map, Array, Set}
use Rattle.state_model.specs.declared.row.RowEntry.{RowEntry}
use Rattle.state_model.specs.declared.row.FieldValue.{FieldValue}
use Rattle.state_model.specs.declared.row.MapItem.{MapItem}
use Rattle.state_model.specs.declared.row.SetItem.{SetItem}
use Rattle.state_model.specs.Values.{same_value, is_link}
use Rattle.state_model.specs.Rows.{emptied}
use Rattle.state_model.specs.declared.place.Expected.{Expected}
use Rattle.state_model.specs.Places.{field_expects, item_expects, is_filtered}
use Rattle.state_model.specs.Sound.{are_rows_of, rise, differ, keys_differ, fits_place, places_fit}
use Rattle.std.proofs.lemmas.Bool.{and_parts}
use Rattle.wire_model.specs.declared.op.OpKey.{OpKey}
use Rattle.wire_model.specs.declared.op.OpKey.TheVariants.{Field, Item, Named}
use Rattle.wire_model.specs.Edits.{Edit, Add, Replace, DeleteAdd, Clear, AddByRef, encoded}
use Rattle.wire_model.specs.Grammar.{expects_at, resolved}
use Rattle.wire_model.specs.Patch.{carried, changed_place, place_edit, field_value, map_item, item_value, item_key, set_value, slot_edits, same_values, kept_of, gone_of, stands_in, drop_edit, push_edit, ref_edits, row_edits, whole_start, whole_edits}
use Rattle.wire_laws.proofs.EncodedValues.{Knows, added_means, scalar_means}
use Rattle.wire_laws.proofs.EditedPlaces.{all-slice_get}

-- an operation on a holder of a kind means again what it was before it was told
abbrev pub EditMeans : Schema → List RowEntry → Row → Edit → Type 0
EditMeans schema new holder e = (known : List RowEntry) → Knows new known → resolved schema known holder (encoded e) ≡ e

-- so does each of the operations
abbrev pub EditsMean : Schema → List RowEntry → Row → List Edit → Type 0
EditsMean schema new holder [] = Unit {0}
EditsMean schema new holder (e ∷ es) = EditMeans schema new holder e × EditsMean schema new holder es

-- so do operations one behind another
pub EditsMean-append : (schema : Schema) (new : List RowEntry) (holder : Row) (es fs : List Edit) → EditsMean schema new holder es → EditsMean schema new holder fs → EditsMean schema new holder (es ++ fs)
EditsMean-append schema new holder [] fs c d = d
EditsMean-append schema new holder (e ∷ es) fs c d = (c.0, EditsMean-append schema new holder es fs c.1 d)

-- so do the operations of each of some items
EditsMean-flat_map : {X : Type 0} (schema : Schema) (new : List RowEntry) (holder : Row) (f : X → List Edit) (xs : List X) → ((x : X) → EditsMean schema new holder (f x))
    → EditsMean schema new holder (flat_map f xs)
EditsMean-flat_map schema new holder f [] c = tt
EditsMean-flat_map schema new holder f (x ∷ xs) c = EditsMean-append schema new holder (f x) (flat_map f xs) (c x) (EditsMean-flat_map schema new holder f xs c)

-- ---- one place

-- an operation that adds
add_means : (schema : Schema) (new : List RowEntry) (holder : Row) (key : OpKey) (expected : Option Expected) (v : Value) → are_rows_of schema new ≡ true → expects_at schema holder key ≡ expected
    → fits_place schema new v expected ≡ true → EditMeans schema new holder (Add key (carried new expected v))
add_means schema new holder key expected v rows expects h =
    λ known k. subst (λ w. resolved schema known holder (encoded (Add key (carried new w v))) ≡ Add key (carried new w v)) expects
    (ap (Add key) (added_means schema new known (expects_at schema holder key) v rows k (ap (fits_place schema new v) expects ∙ h)))

-- an operation that puts a link in place of what was there
delete_add_means : (schema : Schema) (new : List RowEntry) (holder : Row) (key : OpKey) (expected : Option Expected) (v : Value) → are_rows_of schema new ≡ true → expects_at schema holder key ≡ expected
    → fits_place schema new v expected ≡ true → EditMeans schema new holder (DeleteAdd key (carried new expected v))
delete_add_means schema new holder key expected v rows expects h =
    λ known k. subst (λ w. resolved schema known holder (encoded (DeleteAdd key (carried new w v))) ≡ DeleteAdd key (carried new w v)) expects
    (ap (DeleteAdd key) (added_means schema new known (expects_at schema holder key) v rows k (ap (fits_place schema new v) expects ∙ h)))

-- an operation that puts a scalar in place of what was there
replace_means : (schema : Schema) (new : List RowEntry) (holder : Row) (key : OpKey) (expected : Option Expected) (v : Value) → expects_at schema holder key ≡ expected
    → is_link v ≡ false → EditMeans schema new holder (Replace key (carried new expected v))
replace_means schema new holder key expected v expects h =
    λ known k. subst (λ w. resolved schema known holder (encoded (Replace key (carried new w v))) ≡ Replace key (carried new w v)) expects
    (ap (Replace key) (scalar_means schema new known (expects_at schema holder key) v false h))

-- the operation on a place with another value
changed_means : (schema : Schema) (new : List RowEntry) (holder : Row) (key new_key : OpKey) (expected : Option Expected) (v : Value) → are_rows_of schema new ≡ true → expects_at schema holder key ≡ expected
    → expects_at schema holder new_key ≡ expected → fits_place schema new v expected ≡ true → EditMeans schema new holder (changed_place key new_key v (carried new expected v))
changed_means schema new holder key new_key expected (Whole z) rows expects new_expects h = replace_means schema new holder key expected (Whole z) expects refl
changed_means schema new holder key new_key expected (Str t) rows expects new_expects h = replace_means schema new holder key expected (Str t) expects refl
changed_means schema new holder key new_key expected (Truth b) rows expects new_expects h = replace_means schema new holder key expected (Truth b) expects refl
changed_means schema new holder key new_key expected (Link n) rows expects new_expects h = delete_add_means schema new holder new_key expected (Link n) rows new_expects h

-- the operation on a place
place_means : (schema : Schema) (new : List RowEntry) (holder : Row) (key new_key : OpKey) (expected : Option Expected) (old_value new_value : Option Value) → are_rows_of schema new ≡ true
    → expects_at schema holder key ≡ expected → expects_at schema holder new_key ≡ expected → ((v : Value) → new_value ≡ Some v → fits_place schema new v expected ≡ true)
    → EditsMean schema new holder (place_edit key new_key new expected old_value new_value)
place_means schema new holder key new_key expected None None rows expects new_expects h = tt
place_means schema new holder key new_key expected None (Some v) rows expects new_expects h = (add_means schema new holder new_key expected v rows new_expects (h v refl), tt)
place_means schema new holder key new_key expected (Some u) None rows expects new_expects h = (λ known k. refl, tt)
place_means schema new holder key new_key expected (Some u) (Some v) rows expects new_expects h =
    let go : (b : Bool) → EditsMean schema new holder (cond b [] (changed_place key new_key v (carried new expected v) ∷ [])) = elim [
      | true ↦ tt
      | false ↦ (changed_means schema new holder key new_key expected v rows expects new_expects (h v refl), tt)
    ] in go (same_value u v)

-- ---- the places of a row that fit

-- what is found by its key passes a test that speaks of its key
pub found_passes : {E : Type 0} (key : E → ℕ) (value : E → Value) (p : Value → ℕ → Bool) (es : List E) (n : ℕ) (v : Value) → list_all (λ e. p (value e) (key e)) es ≡ true
    → option_map value (find key n es) ≡ Some v → p v n ≡ true
found_passes {E} key value p es n v all is =
    let go : (o : Option E) → find key n es ≡ o → option_map value o ≡ Some v → p v n ≡ true = elim [
      | None ↦ λ f h. cc
      | Some e ↦ λ f h.
          let same : value e ≡ v = cc in
          let passes = all-found key (λ e. p (value e) (key e)) es n e all f in
          ap (λ u. p u n) (sym same) ∙ (ap (p (value e)) (sym (find_key key n es e f)) ∙ passes)
    ] in go (find key n es) refl is

-- ---- a filtered array

-- the operations that delete instances
drop_means : (schema : Schema) (new : List RowEntry) (holder : Row) (v : Value) → EditsMean schema new holder (drop_edit v)
drop_means schema new holder (Whole z) = tt
drop_means schema new holder (Str t) = tt
drop_means schema new holder (Truth b) = tt
drop_means schema new holder (Link n) = (λ known k. refl, tt)

-- the operations that add instances
pushes_mean : (schema : Schema) (new : List RowEntry) (home : Home) (vs : List Value) → are_rows_of schema new ≡ true → list_all (λ v. fits_place schema new v (item_expects schema home)) vs ≡ true
    → EditsMean schema new (Array home []) (map (push_edit schema new home) vs)
pushes_mean schema new home [] rows all = tt
pushes_mean schema new home (v ∷ vs) rows all =
    let two = and_parts (fits_place schema new v (item_expects schema home)) (list_all (λ v. fits_place schema new v (item_expects schema home)) vs) all in
    (λ known k. ap AddByRef (added_means schema new known (item_expects schema home) v rows k two.0), pushes_mean schema new home vs rows two.1)

-- the operations on a filtered array
refs_mean : (schema : Schema) (new : List RowEntry) (home : Home) (old values : List Value) (b : Bool) → are_rows_of schema new ≡ true
    → list_all (λ v. fits_place schema new v (item_expects schema home)) values ≡ true
    → EditsMean schema new (Array home []) (cond b (flat_map drop_edit (gone_of values old) ++ map (push_edit schema new home) (gone_of old values)) (Clear ∷ map (push_edit schema new home) values))
refs_mean schema new home old values true rows all =
    EditsMean-append schema new (Array home []) (flat_map drop_edit (gone_of values old)) (map (push_edit schema new home) (gone_of old values))
    (EditsMean-flat_map schema new (Array home []) drop_edit (gone_of values old) (drop_means schema new (Array home [])))
    (pushes_mean schema new home (gone_of old values) rows (list_all_filtered (λ v. fits_place schema new v (item_expects schema home)) (λ v. not (stands_in old v)) values all))
refs_mean schema new home old values false rows all = (λ known k. refl, pushes_mean schema new home values rows all)

-- the operations on an array, filtered or not
array_means : (schema : Schema) (new : List RowEntry) (home : Home) (old values : List Value) (b : Bool) → are_rows_of schema new ≡ true
    → list_all (λ v. fits_place schema new v (item_expects schema home)) values ≡ true
    → EditsMean schema new (Array home []) (cond b (ref_edits schema new home old values) (slot_edits schema new home old values))
array_means schema new home old values true rows all = refs_mean schema new home old values (same_values values (kept_of values old ++ gone_of old values)) rows all
array_means schema new home old values false rows all =
    EditsMean-flat_map schema new (Array home []) _ (range_with_len 0 (max (length old) (length values)))
    (λ at. place_means schema new (Array home []) (Item at) (Item at) (item_expects schema home) (slice_get old at) (slice_get values at) rows refl refl
    (λ v is. all-slice_get (λ v. fits_place schema new v (item_expects schema home)) values at v all is))

-- ---- a row

-- the operations that lead to a row whose places fit mean again what they were
pub row_means : (schema : Schema) (new : List RowEntry) (a b : Row) → are_rows_of schema new ≡ true → places_fit schema new b ≡ true → EditsMean schema new (emptied b) (row_edits schema new a b)
row_means schema new (Struct a old) (Struct b fields) rows fit =
    let p = λ (f : FieldValue). fits_place schema new f.value (field_expects schema b f.field) in
    let all = (and_parts (rise (map (λ (f : FieldValue). f.field) fields)) (list_all p fields) fit).1 in
    EditsMean-flat_map schema new (Struct b []) _ _ (λ i. place_means schema new (Struct b []) (Field i) (Field i) (field_expects schema b i) (field_value old i) (field_value fields i) rows refl refl
    (λ v is. found_passes (λ (f : FieldValue). f.field) (λ (f : FieldValue). f.value) (λ v i. fits_place schema new v (field_expects schema b i)) fields i v all is))
row_means schema new (Map a old) (Map b items) rows fit =
    let p = λ (i : MapItem). fits_place schema new i.value (item_expects schema b) in
    let all = (and_parts (rise (map (λ (i : MapItem). i.number) items) && keys_differ (map (λ (i : MapItem). i.key) items)) (list_all p items) fit).1 in
    EditsMean-flat_map schema new (Map b []) _ _ (λ n. place_means schema new (Map b []) (Item n) (Named n (item_key (map_item items n))) (item_expects schema b) (item_value (map_item old n)) (item_value (map_item items n)) rows refl refl
    (λ v is. found_passes (λ (i : MapItem). i.number) (λ (i : MapItem). i.value) (λ v i. fits_place schema new v (item_expects schema b)) items n v all is))
row_means schema new (Array a old) (Array b values) rows fit =
    array_means schema new b old values (is_filtered schema b) rows
    (and_parts (not (is_filtered schema b) || differ values) (list_all (λ v. fits_place schema new v (item_expects schema b)) values) fit).1
row_means schema new (Set a old) (Set b items) rows fit =
    let p = λ (i : SetItem). fits_place schema new i.value (item_expects schema b) in
    let all = (and_parts (rise (map (λ (i : SetItem). i.number) items)) (list_all p items) fit).1 in
    EditsMean-flat_map schema new (Set b []) _ _ (λ n. place_means schema new (Set b []) (Item n) (Item n) (item_expects schema b) (set_value old n) (set_value items n) rows refl refl
    (λ v is. found_passes (λ (i : SetItem). i.number) (λ (i : SetItem). i.value) (λ v i. fits_place schema new v (item_expects schema b)) items n v all is))
row_means schema new a b rows fit = tt

-- CLEAR means what it was
start_means : (schema : Schema) (new : List RowEntry) (holder r : Row) → EditsMean schema new holder (whole_start r)
start_means schema new holder (Struct class fields) = tt
start_means schema new holder (Map home items) = tt
start_means schema new holder (Array home []) = tt
start_means schema new holder (Array home (v ∷ vs)) = (λ known k. refl, tt)
start_means schema new holder (Set home items) = tt

-- the operations of a whole row whose places fit mean again what they were
pub whole_means : (schema : Schema) (new : List RowEntry) (r : Row) → are_rows_of schema new ≡ true → places_fit schema new r ≡ true → EditsMean schema new (emptied r) (whole_edits schema new r)
whole_means schema new r rows fit =
    EditsMean-append schema new (emptied r) (whole_start r) (row_edits schema new (emptied r) r) (start_means schema new (emptied r) r) (row_means schema new (emptied r) r rows fit)
