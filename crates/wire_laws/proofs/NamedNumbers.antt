-- What numbers the operations of a row name: those that it holds and the old row doesn't, and none that it doesn't hold.
use Rattle.std.proofs.Common.{◌≡◌, ℕ, Bool, true, false, cond, max, List, [], ◌∷◌, ◌++◌, length, map, refl, sym, ap, ◌∙◌, true≢false, arith}
use Rattle.std.specs.List.{flat_map, slice_get, range_with_len}
use Rattle.std.proofs.lemmas.Bool.Decides.{nat_tests}
use Rattle.std.proofs.lemmas.Grind.{flat_map-append}
use Rattle.lists.specs.Rising.{RisesFrom}
use Rattle.schema_model.specs.Classes.{Schema}
use Rattle.schema_model.specs.declared.value.Value.{Value}
use Rattle.schema_model.specs.declared.value.Value.TheVariants.{Whole, Str, Truth, Link}
use Rattle.schema_model.specs.declared.place.Home.{Home}
use Rattle.state_model.specs.declared.row.Row.{Row}
use Rattle.state_model.specs.declared.row.Row.TheVariants.{Struct, Map, Array, Set}
use Rattle.state_model.specs.declared.row.RowEntry.{RowEntry}
use Rattle.state_model.specs.declared.row.FieldValue.{FieldValue}
use Rattle.state_model.specs.declared.row.MapItem.{MapItem}
use Rattle.state_model.specs.declared.row.SetItem.{SetItem}
use Rattle.state_model.specs.Values.{held_by}
use Rattle.state_model.specs.Rows.{held_in, emptied}
use Rattle.state_model.specs.Places.{field_expects, item_expects, is_filtered, same_kind}
use Rattle.state_model.specs.Reached.{is_among}
use Rattle.wire_model.specs.declared.op.OpKey.TheVariants.{Field, Item, Named}
use Rattle.wire_model.specs.Edits.{Clear}
use Rattle.wire_model.specs.Patch.{field_value, map_item, item_value, item_key, set_value, either_number, field_edits, map_edits, set_edits, slot_edits, same_values, kept_of, gone_of, drop_edit, push_edit, ref_edits, row_edits, whole_edits, named_in}
use Rattle.state_laws.proofs.Numbers.{among_with}
use Rattle.state_laws.proofs.Fitting.{emptied_holds}
use Rattle.wire_laws.proofs.Forms.{IsFormed}
use Rattle.wire_laws.proofs.PlaceNames.{carried_numbers, places_name, places_named}
use Rattle.wire_laws.proofs.HeldPlaces.{values_hold, found_held, found_unheld, held_found, slot_held, slot_unheld, held_slot, among-range, filter_held, gone_held}

-- a number of the new places is among those of both
among_new : (old new : List ℕ) (k : ℕ) → is_among k new ≡ true → is_among k (either_number old new) ≡ true
among_new old new k h = let parts = among_with old new k in grind (arith, nat_tests)

-- ---- fields

-- the operations on an instance name only what its new fields hold
fields_name : (schema : Schema) (rows : List RowEntry) (class : ℕ) (old new : List FieldValue) (m : ℕ) → is_among m (named_in (field_edits schema rows class old new)) ≡ true → values_hold m (map (λ (f : FieldValue). f.value) new) ≡ true
fields_name schema rows class old new m h =
    let some = places_name (λ i. Field i) (λ i. Field i) rows (field_expects schema class) (field_value old) (field_value new) (either_number (map (λ (f : FieldValue). f.field) old) (map (λ (f : FieldValue). f.field) new)) m h in
    found_held (λ (f : FieldValue). f.field) (λ (f : FieldValue). f.value) new some.0 m some.1

-- they name what the new fields hold and the old ones don't
fields_named : (schema : Schema) (rows : List RowEntry) (class : ℕ) (old new : List FieldValue) (m : ℕ) → RisesFrom (λ (f : FieldValue). f.field) 0 new
    → values_hold m (map (λ (f : FieldValue). f.value) new) ≡ true → values_hold m (map (λ (f : FieldValue). f.value) old) ≡ false → is_among m (named_in (field_edits schema rows class old new)) ≡ true
fields_named schema rows class old new m r h g =
    let found = held_found (λ (f : FieldValue). f.field) (λ (f : FieldValue). f.value) 0 new m r h in
    places_named (λ i. Field i) (λ i. Field i) rows (field_expects schema class) (field_value old) (field_value new) (either_number (map (λ (f : FieldValue). f.field) old) (map (λ (f : FieldValue). f.field) new)) found.0 m
    (among_new (map (λ (f : FieldValue). f.field) old) (map (λ (f : FieldValue). f.field) new) found.0 found.1) found.2
    (found_unheld (λ (f : FieldValue). f.field) (λ (f : FieldValue). f.value) old found.0 m g)

-- ---- items of a map

-- the operations on a map name only what its new items hold
items_name : (schema : Schema) (rows : List RowEntry) (home : Home) (old new : List MapItem) (m : ℕ) → is_among m (named_in (map_edits schema rows home old new)) ≡ true → values_hold m (map (λ (i : MapItem). i.value) new) ≡ true
items_name schema rows home old new m h =
    let some = places_name (λ n. Item n) (λ n. Named n (item_key (map_item new n))) rows (λ n. item_expects schema home) (λ n. item_value (map_item old n)) (λ n. item_value (map_item new n))
    (either_number (map (λ (i : MapItem). i.number) old) (map (λ (i : MapItem). i.number) new)) m h in
    found_held (λ (i : MapItem). i.number) (λ (i : MapItem). i.value) new some.0 m some.1

-- they name what the new items hold and the old ones don't
items_named : (schema : Schema) (rows : List RowEntry) (home : Home) (old new : List MapItem) (m : ℕ) → RisesFrom (λ (i : MapItem). i.number) 0 new → values_hold m (map (λ (i : MapItem). i.value) new) ≡ true
    → values_hold m (map (λ (i : MapItem). i.value) old) ≡ false → is_among m (named_in (map_edits schema rows home old new)) ≡ true
items_named schema rows home old new m r h g =
    let found = held_found (λ (i : MapItem). i.number) (λ (i : MapItem). i.value) 0 new m r h in
    places_named (λ n. Item n) (λ n. Named n (item_key (map_item new n))) rows (λ n. item_expects schema home) (λ n. item_value (map_item old n)) (λ n. item_value (map_item new n))
    (either_number (map (λ (i : MapItem). i.number) old) (map (λ (i : MapItem). i.number) new)) found.0 m
    (among_new (map (λ (i : MapItem). i.number) old) (map (λ (i : MapItem). i.number) new) found.0 found.1) found.2
    (found_unheld (λ (i : MapItem). i.number) (λ (i : MapItem). i.value) old found.0 m g)

-- ---- items of a set

-- the operations on a set name only what its new items hold
elements_name : (schema : Schema) (rows : List RowEntry) (home : Home) (old new : List SetItem) (m : ℕ) → is_among m (named_in (set_edits schema rows home old new)) ≡ true → values_hold m (map (λ (i : SetItem). i.value) new) ≡ true
elements_name schema rows home old new m h =
    let some = places_name (λ n. Item n) (λ n. Item n) rows (λ n. item_expects schema home) (set_value old) (set_value new) (either_number (map (λ (i : SetItem). i.number) old) (map (λ (i : SetItem). i.number) new)) m h in
    found_held (λ (i : SetItem). i.number) (λ (i : SetItem). i.value) new some.0 m some.1

-- they name what the new items hold and the old ones don't
elements_named : (schema : Schema) (rows : List RowEntry) (home : Home) (old new : List SetItem) (m : ℕ) → RisesFrom (λ (i : SetItem). i.number) 0 new
    → values_hold m (map (λ (i : SetItem). i.value) new) ≡ true → values_hold m (map (λ (i : SetItem). i.value) old) ≡ false → is_among m (named_in (set_edits schema rows home old new)) ≡ true
elements_named schema rows home old new m r h g =
    let found = held_found (λ (i : SetItem). i.number) (λ (i : SetItem). i.value) 0 new m r h in
    places_named (λ n. Item n) (λ n. Item n) rows (λ n. item_expects schema home) (set_value old) (set_value new) (either_number (map (λ (i : SetItem). i.number) old) (map (λ (i : SetItem). i.number) new)) found.0 m
    (among_new (map (λ (i : SetItem). i.number) old) (map (λ (i : SetItem). i.number) new) found.0 found.1) found.2
    (found_unheld (λ (i : SetItem). i.number) (λ (i : SetItem). i.value) old found.0 m g)

-- ---- positions of an array

-- the operations on positions name only what the new values hold
slots_name : (schema : Schema) (rows : List RowEntry) (home : Home) (old new : List Value) (m : ℕ) → is_among m (named_in (slot_edits schema rows home old new)) ≡ true → values_hold m new ≡ true
slots_name schema rows home old new m h =
    let some = places_name (λ at. Item at) (λ at. Item at) rows (λ at. item_expects schema home) (slice_get old) (slice_get new) (range_with_len 0 (max (length old) (length new))) m h in
    slot_held new some.0 m some.1

-- they name what the new values hold and the old ones don't
slots_named : (schema : Schema) (rows : List RowEntry) (home : Home) (old new : List Value) (m : ℕ) → values_hold m new ≡ true → values_hold m old ≡ false → is_among m (named_in (slot_edits schema rows home old new)) ≡ true
slots_named schema rows home old new m h g =
    let found = held_slot new m h in
    let within = found.1 in
    places_named (λ at. Item at) (λ at. Item at) rows (λ at. item_expects schema home) (slice_get old) (slice_get new) (range_with_len 0 (max (length old) (length new))) found.0 m
    (among-range 0 (max (length old) (length new)) found.0 (omega arith) (omega arith)) found.2
    (slot_unheld old found.0 m g)

-- ---- a filtered array

-- the operations that add instances name what these hold
pushes_name : (schema : Schema) (rows : List RowEntry) (home : Home) (vs : List Value) → named_in (map (push_edit schema rows home) vs) ≡ flat_map held_by vs
pushes_name schema rows home [] = refl
pushes_name schema rows home (v ∷ vs) = rw (carried_numbers rows (item_expects schema home) v, pushes_name schema rows home vs) refl

-- the operations that delete instances name nothing
drops_name : (vs : List Value) → named_in (flat_map drop_edit vs) ≡ []
drops_name [] = refl
drops_name (Whole z ∷ vs) = drops_name vs
drops_name (Str t ∷ vs) = drops_name vs
drops_name (Truth b ∷ vs) = drops_name vs
drops_name (Link n ∷ vs) = drops_name vs

-- those that delete and then add name what the added ones hold
moves_name : (schema : Schema) (rows : List RowEntry) (home : Home) (old new : List Value) → named_in (flat_map drop_edit old ++ map (push_edit schema rows home) new) ≡ flat_map held_by new
moves_name schema rows home old new =
    flat_map-append _ (flat_map drop_edit old) (map (push_edit schema rows home) new) ∙ ap (λ ns. ns ++ named_in (map (push_edit schema rows home) new)) (drops_name old) ∙ pushes_name schema rows home new

-- they name what the new items hold that weren't there, or what all new items hold
refs_numbers : (schema : Schema) (rows : List RowEntry) (home : Home) (old new : List Value) (m : ℕ) (b : Bool)
    → is_among m (named_in (cond b (flat_map drop_edit (gone_of new old) ++ map (push_edit schema rows home) (gone_of old new)) (Clear ∷ map (push_edit schema rows home) new))) ≡ cond b (values_hold m (gone_of old new)) (values_hold m new)
refs_numbers schema rows home old new m true = ap (is_among m) (moves_name schema rows home (gone_of new old) (gone_of old new))
refs_numbers schema rows home old new m false = ap (is_among m) (pushes_name schema rows home new)

-- the operations on a filtered array name only what its new values hold
refs_name : (schema : Schema) (rows : List RowEntry) (home : Home) (old new : List Value) (m : ℕ) → is_among m (named_in (ref_edits schema rows home old new)) ≡ true → values_hold m new ≡ true
refs_name schema rows home old new m h =
    let keeps = same_values new (kept_of new old ++ gone_of old new) in
    let numbers = refs_numbers schema rows home old new m keeps in
    let go : (b : Bool) → cond b (values_hold m (gone_of old new)) (values_hold m new) ≡ true → values_hold m new ≡ true = elim [ true ↦ λ t. filter_held _ new m t | false ↦ λ t. t ] in
    go keeps (sym numbers ∙ h)

-- they name what the new values hold and the old ones don't
refs_named : (schema : Schema) (rows : List RowEntry) (home : Home) (old new : List Value) (m : ℕ) → values_hold m new ≡ true → values_hold m old ≡ false → is_among m (named_in (ref_edits schema rows home old new)) ≡ true
refs_named schema rows home old new m h g =
    let keeps = same_values new (kept_of new old ++ gone_of old new) in
    let go : (b : Bool) → cond b (values_hold m (gone_of old new)) (values_hold m new) ≡ true = elim [ true ↦ gone_held old new m h g | false ↦ h ] in
    refs_numbers schema rows home old new m keeps ∙ go keeps

-- ---- an array

-- the operations on an array, filtered or not, name only what its new values hold
slots_or_refs_name : (schema : Schema) (rows : List RowEntry) (home : Home) (old new : List Value) (m : ℕ) (b : Bool)
    → is_among m (named_in (cond b (ref_edits schema rows home old new) (slot_edits schema rows home old new))) ≡ true → values_hold m new ≡ true
slots_or_refs_name schema rows home old new m true h = refs_name schema rows home old new m h
slots_or_refs_name schema rows home old new m false h = slots_name schema rows home old new m h

-- they name what the new values hold and the old ones don't
slots_or_refs_named : (schema : Schema) (rows : List RowEntry) (home : Home) (old new : List Value) (m : ℕ) (b : Bool) → values_hold m new ≡ true → values_hold m old ≡ false
    → is_among m (named_in (cond b (ref_edits schema rows home old new) (slot_edits schema rows home old new))) ≡ true
slots_or_refs_named schema rows home old new m true h g = refs_named schema rows home old new m h g
slots_or_refs_named schema rows home old new m false h g = slots_named schema rows home old new m h g

-- ---- a row

-- the operations that lead to a row name only what it holds
pub named_held : (schema : Schema) (rows : List RowEntry) (a b : Row) (m : ℕ) → is_among m (named_in (row_edits schema rows a b)) ≡ true → is_among m (held_in b) ≡ true
named_held schema rows (Struct a old) (Struct b new) m h = fields_name schema rows b old new m h
named_held schema rows (Map a old) (Map b new) m h = items_name schema rows b old new m h
named_held schema rows (Array a old) (Array b new) m h = slots_or_refs_name schema rows b old new m (is_filtered schema b) h
named_held schema rows (Set a old) (Set b new) m h = elements_name schema rows b old new m h
named_held schema rows a b m h = absurd (true≢false (sym h))

-- they name what it holds and the old row doesn't
pub held_named : (schema : Schema) (rows : List RowEntry) (a b : Row) (m : ℕ) → same_kind a b ≡ true → IsFormed schema b → is_among m (held_in b) ≡ true → is_among m (held_in a) ≡ false → is_among m (named_in (row_edits schema rows a b)) ≡ true
held_named schema rows (Struct a old) (Struct b new) m s f h g = fields_named schema rows b old new m f h g
held_named schema rows (Map a old) (Map b new) m s f h g = items_named schema rows b old new m f.0 h g
held_named schema rows (Array a old) (Array b new) m s f h g = slots_or_refs_named schema rows b old new m (is_filtered schema b) h g
held_named schema rows (Set a old) (Set b new) m s f h g = elements_named schema rows b old new m f h g
held_named schema rows a b m s f h g = absurd (true≢false (sym s))

-- ---- a whole row

-- CLEAR names nothing
whole_numbers : (schema : Schema) (rows : List RowEntry) (r : Row) → named_in (whole_edits schema rows r) ≡ named_in (row_edits schema rows (emptied r) r)
whole_numbers schema rows (Struct class fields) = refl
whole_numbers schema rows (Map home items) = refl
whole_numbers schema rows (Array home []) = refl
whole_numbers schema rows (Array home (v ∷ vs)) = refl
whole_numbers schema rows (Set home items) = refl

-- a row without its places is of the row's kind
pub emptied_kind : (r : Row) → same_kind (emptied r) r ≡ true
emptied_kind (Struct class fields) = grind (arith, nat_tests)
emptied_kind (Map home items) = grind (arith, nat_tests)
emptied_kind (Array home values) = grind (arith, nat_tests)
emptied_kind (Set home items) = grind (arith, nat_tests)

-- the operations of a whole row name only what it holds
pub whole_held : (schema : Schema) (rows : List RowEntry) (r : Row) (m : ℕ) → is_among m (named_in (whole_edits schema rows r)) ≡ true → is_among m (held_in r) ≡ true
whole_held schema rows r m h = named_held schema rows (emptied r) r m (ap (is_among m) (sym (whole_numbers schema rows r)) ∙ h)

-- they name all that it holds
pub held_whole : (schema : Schema) (rows : List RowEntry) (r : Row) (m : ℕ) → IsFormed schema r → is_among m (held_in r) ≡ true → is_among m (named_in (whole_edits schema rows r)) ≡ true
held_whole schema rows r m f h = ap (is_among m) (whole_numbers schema rows r) ∙ held_named schema rows (emptied r) r m (emptied_kind r) f h (ap (is_among m) (emptied_holds r))
