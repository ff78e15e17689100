-- The operations that lead to a new row fit it, where the places of the old row can go.
use Rattle.std.proofs.Common.{◌≡◌, ℕ, ◌^◌, ◌<◌, Bool, true, false, not, cond, max, ◌&&◌, ◌||◌, List, [], ◌∷◌, ◌++◌, length, map, Option, Some, refl, sym, ap, ◌∙◌, arith}
use Rattle.std.specs.Prelude.{is_some, nat_lt, nat_le, slice_get}
use Rattle.std.specs.List.{AllByRecursion as Each, list_all, flat_map, range_with_len}
use Rattle.std.specs.Str.{is_utf8}
use Rattle.std.proofs.lemmas.Bool.{and_parts, and_from, eqb-true}
use Rattle.std.proofs.lemmas.Bool.Decides.{nat_tests}
use Rattle.std.proofs.lemmas.Option.{slice_get_within}
use Rattle.lists.proofs.RisingLaws.{find_key}
use Rattle.lists.proofs.Options.{mapped_some}
use Rattle.lists.proofs.Passing.{all-found}
use Rattle.schema_model.specs.Classes.{Schema, is_kept}
use Rattle.schema_model.specs.declared.value.Value.{Value}
use Rattle.schema_model.specs.declared.place.Home.{Home}
use Rattle.state_model.specs.declared.row.Row.{Row}
use Rattle.state_model.specs.declared.row.Row.TheVariants.{Struct, Map, Array, Set}
use Rattle.state_model.specs.declared.row.RowEntry.{RowEntry}
use Rattle.state_model.specs.declared.row.FieldValue.{FieldValue}
use Rattle.state_model.specs.declared.row.MapItem.{MapItem}
use Rattle.state_model.specs.declared.row.SetItem.{SetItem}
use Rattle.state_model.specs.Rows.{emptied}
use Rattle.state_model.specs.Places.{field_expects, item_expects, is_filtered, holds_instances, same_kind}
use Rattle.state_model.specs.Sound.{rise, differ, keys_differ, fits_place, places_fit, has_kind}
use Rattle.wire_model.specs.declared.op.OpKey.{OpKey}
use Rattle.wire_model.specs.declared.op.OpKey.TheVariants.{Field, Item, Named}
use Rattle.wire_model.specs.Grammar.{expects_at}
use Rattle.wire_model.specs.Patch.{place_edit, field_value, map_item, item_value, item_key, set_value, slot_edits, same_values, kept_of, gone_of, ref_edits, row_edits, whole_start, whole_edits}
use Rattle.wire_laws.proofs.KindLaws.{home_is}
use Rattle.wire_laws.proofs.NamedNumbers.{emptied_kind}
use Rattle.wire_laws.proofs.EditedPlaces.{all-slice_get}
use Rattle.wire_laws.proofs.EncodedEdits.{found_passes}
use Rattle.block_laws.specs.Writable.{is_place, is_count}
use Rattle.state_model.specs.Spelled.{is_spelled_key, is_spelled_value, is_spelled_row}
use Rattle.state_laws.proofs.Fitting.{emptied_fits}
use Rattle.byte_laws.proofs.SpelledRows.{is_counted, has_counts, wants_small, fits_some, items_expected}
use Rattle.byte_laws.proofs.EditFits.{EditFits, Each-append, place_fits, refs_fit}

-- ---- a row

-- the operations on places, each by its number
places_fit_all : (schema : Schema) (new : List RowEntry) (holder : Row) (key new_key : ℕ → OpKey) (old_value new_value : ℕ → Option Value) (ns : List ℕ)
    → ((n : ℕ) → Each (EditFits schema new holder) (place_edit (key n) (new_key n) new (expects_at schema holder (key n)) (old_value n) (new_value n)))
    → Each (EditFits schema new holder) (flat_map (λ n. place_edit (key n) (new_key n) new (expects_at schema holder (key n)) (old_value n) (new_value n)) ns)
places_fit_all schema new holder key new_key old_value new_value [] c = tt
places_fit_all schema new holder key new_key old_value new_value (n ∷ ns) c =
    Each-append (EditFits schema new holder) (place_edit (key n) (new_key n) new (expects_at schema holder (key n)) (old_value n) (new_value n)) _ (c n)
    (places_fit_all schema new holder key new_key old_value new_value ns c)

module _ (schema : Schema) (old new : List RowEntry) (kept : is_kept schema ≡ true) where
  -- an instance
  fields_fit : (class : ℕ) (fields others : List FieldValue) → places_fit schema old (Struct class fields) ≡ true → places_fit schema new (Struct class others) ≡ true
      → is_spelled_row (Struct class others) ≡ true → Each (EditFits schema new (Struct class [])) (row_edits schema new (Struct class fields) (Struct class others))
  fields_fit class fields others old_fit fit spelled =
      let number = λ (f : FieldValue). f.field in
      let value = λ (f : FieldValue). f.value in
      let old_all = (and_parts (rise (map number fields)) (list_all (λ (f : FieldValue). fits_place schema old f.value (field_expects schema class f.field)) fields) old_fit).1 in
      let new_all = (and_parts (rise (map number others)) (list_all (λ (f : FieldValue). fits_place schema new f.value (field_expects schema class f.field)) others) fit).1 in
      let small : (i : ℕ) → is_some (field_expects schema class i) ≡ true → is_place (Field i) ≡ true = λ i. wants_small schema class i kept in
      places_fit_all schema new (Struct class []) Field Field (field_value fields) (field_value others) _
      (λ i. place_fits schema new (Struct class []) (Field i) (Field i) refl (field_value fields i) (field_value others i) refl
      (λ u is.
      let expected = fits_some schema old u (field_expects schema class i) (found_passes number value (λ v i. fits_place schema old v (field_expects schema class i)) fields i u old_all is) in
      (small i expected, expected))
      (λ v is.
      let fits = found_passes number value (λ v i. fits_place schema new v (field_expects schema class i)) others i v new_all is in
      (refl, small i (fits_some schema new v (field_expects schema class i) fits), fits, found_passes number value (λ v i. is_spelled_value v) others i v spelled is)))

  -- a map
  items_fit : (home : Home) (items others : List MapItem) → is_some (item_expects schema home) ≡ true → has_counts schema (Map home items) ≡ true
      → places_fit schema new (Map home others) ≡ true → is_spelled_row (Map home others) ≡ true
      → Each (EditFits schema new (Map home [])) (row_edits schema new (Map home items) (Map home others))
  items_fit home items others expected counts fit spelled =
      let number = λ (i : MapItem). i.number in
      let value = λ (i : MapItem). i.value in
      let new_all = (and_parts (rise (map number others) && keys_differ (map (λ (i : MapItem). i.key) others)) (list_all (λ (i : MapItem). fits_place schema new i.value (item_expects schema home)) others) fit).1 in
      places_fit_all schema new (Map home []) Item (λ n. Named n (item_key (map_item others n))) (λ n. item_value (map_item items n)) (λ n. item_value (map_item others n)) _
      (λ n. place_fits schema new (Map home []) (Item n) (Named n (item_key (map_item others n))) refl (item_value (map_item items n)) (item_value (map_item others n)) refl
      (λ u is. (found_passes number value (λ v i. is_count i) items n u counts is, expected))
      (λ v is.
      let x = mapped_some value (map_item others n) v is in
      let spells = all-found number (λ (i : MapItem). is_count i.number && (is_spelled_key i.key && is_spelled_value i.value)) others n x.0 spelled x.1 in
      let parts = and_parts (is_count x.0.number) (is_spelled_key x.0.key && is_spelled_value x.0.value) spells in
      let rest = and_parts (is_spelled_key x.0.key) (is_spelled_value x.0.value) parts.1 in
      let bytes = and_parts (is_utf8 x.0.key) (nat_lt (length x.0.key) (2 ^ 32)) rest.0 in
      let key : item_key (map_item others n) ≡ x.0.key = ap item_key x.1 in (
        ap is_utf8 key ∙ bytes.0,
        and_from (is_count n) (nat_lt (length (item_key (map_item others n))) (2 ^ 32)) (ap is_count (sym (find_key number n others x.0 x.1)) ∙ parts.0) (ap (λ k. nat_lt (length k) (2 ^ 32)) key ∙ bytes.1),
        found_passes number value (λ v i. fits_place schema new v (item_expects schema home)) others n v new_all is,
        ap is_spelled_value (sym x.2) ∙ rest.1,
      )))

  -- a set
  elements_fit : (home : Home) (items others : List SetItem) → is_some (item_expects schema home) ≡ true → has_counts schema (Set home items) ≡ true
      → places_fit schema new (Set home others) ≡ true → is_spelled_row (Set home others) ≡ true
      → Each (EditFits schema new (Set home [])) (row_edits schema new (Set home items) (Set home others))
  elements_fit home items others expected counts fit spelled =
      let number = λ (i : SetItem). i.number in
      let value = λ (i : SetItem). i.value in
      let new_all = (and_parts (rise (map number others)) (list_all (λ (i : SetItem). fits_place schema new i.value (item_expects schema home)) others) fit).1 in
      places_fit_all schema new (Set home []) Item Item (set_value items) (set_value others) _
      (λ n. place_fits schema new (Set home []) (Item n) (Item n) refl (set_value items n) (set_value others n) refl
      (λ u is. (found_passes number value (λ v i. is_count i) items n u counts is, expected))
      (λ v is.
      let spells = and_parts (is_count n) (is_spelled_value v) (found_passes number value (λ v i. is_count i && is_spelled_value v) others n v spelled is) in
      (refl, spells.0, found_passes number value (λ v i. fits_place schema new v (item_expects schema home)) others n v new_all is, spells.1)))

  -- a position in a list that isn't longer than positions go
  slot_small : (vs : List Value) (at : ℕ) (v : Value) → nat_le (length vs) (2 ^ 31) ≡ true → slice_get vs at ≡ Some v → is_count at ≡ true
  slot_small vs at v short is =
      let within : at < length vs = slice_get_within vs at v is in
      grind (arith, nat_tests, within, short)

  -- an array that goes by position
  slots_fit : (home : Home) (values others : List Value) → is_some (item_expects schema home) ≡ true → nat_le (length values) (2 ^ 31) ≡ true → nat_le (length others) (2 ^ 31) ≡ true
      → list_all (λ v. fits_place schema new v (item_expects schema home)) others ≡ true → list_all is_spelled_value others ≡ true
      → Each (EditFits schema new (Array home [])) (slot_edits schema new home values others)
  slots_fit home values others expected short long fit spelled =
      places_fit_all schema new (Array home []) Item Item (slice_get values) (slice_get others) (range_with_len 0 (max (length values) (length others)))
      (λ at. place_fits schema new (Array home []) (Item at) (Item at) refl (slice_get values at) (slice_get others at) refl
      (λ u is. (slot_small values at u short is, expected))
      (λ v is. (refl, slot_small others at v long is, all-slice_get (λ v. fits_place schema new v (item_expects schema home)) others at v fit is, all-slice_get is_spelled_value others at v spelled is)))

  -- an array, filtered or not
  array_fits : (home : Home) (values others : List Value) (filtered : Bool) → is_filtered schema home ≡ filtered → is_some (item_expects schema home) ≡ true
      → has_counts schema (Array home values) ≡ true → places_fit schema new (Array home others) ≡ true → is_spelled_row (Array home others) ≡ true
      → Each (EditFits schema new (Array home [])) (cond filtered (ref_edits schema new home values others) (slot_edits schema new home values others))
  array_fits home values others true is expected counts fit spelled =
      let instances = (and_parts _ (holds_instances schema home) is).1 in
      let counted = (and_parts (is_filtered schema home || nat_le (length values) (2 ^ 31)) (list_all is_counted values) counts).1 in
      let all = (and_parts (not (is_filtered schema home) || differ others) (list_all (λ v. fits_place schema new v (item_expects schema home)) others) fit).1 in
      let spells = (and_parts (nat_le (length others) (2 ^ 31)) (list_all is_spelled_value others) spelled).1 in
      refs_fit schema new home instances values others (same_values others (kept_of others values ++ gone_of values others)) counted all spells
  array_fits home values others false is expected counts fit spelled =
      let short = (and_parts (is_filtered schema home || nat_le (length values) (2 ^ 31)) (list_all is_counted values) counts).0 in
      let all = (and_parts (not (is_filtered schema home) || differ others) (list_all (λ v. fits_place schema new v (item_expects schema home)) others) fit).1 in
      let spells = and_parts (nat_le (length others) (2 ^ 31)) (list_all is_spelled_value others) spelled in
      slots_fit home values others expected (ap (λ b. b || nat_le (length values) (2 ^ 31)) (sym is) ∙ short) spells.0 all spells.1

  -- the operations that lead from an old row to a new one of its kind
  pub row_fits : (a b : Row) → has_kind schema b ≡ true → same_kind a b ≡ true → places_fit schema old a ≡ true → has_counts schema a ≡ true → places_fit schema new b ≡ true
      → is_spelled_row b ≡ true → Each (EditFits schema new (emptied b)) (row_edits schema new a b)
  row_fits (Struct c fields) (Struct d others) kind same old_fit counts fit spelled =
      fields_fit d fields others (ap (λ n. places_fit schema old (Struct n fields)) (sym (eqb-true c d same)) ∙ old_fit) fit spelled
  row_fits (Map h items) (Map home others) kind same old_fit counts fit spelled =
      items_fit home items others (items_expected schema (Map home others) home kind refl) counts fit spelled
  row_fits (Array h values) (Array home others) kind same old_fit counts fit spelled =
      array_fits home values others (is_filtered schema home) refl (items_expected schema (Array home others) home kind refl)
      (ap (λ n. has_counts schema (Array n values)) (sym (home_is h home same)) ∙ counts) fit spelled
  row_fits (Set h items) (Set home others) kind same old_fit counts fit spelled =
      elements_fit home items others (items_expected schema (Set home others) home kind refl) counts fit spelled
  row_fits a b kind same old_fit counts fit spelled = tt

-- ---- a whole row

-- an array without items is short, filtered or not
none_stands : (b : Bool) → ((b || nat_le 0 (2 ^ 31)) && true) ≡ true
none_stands true = refl
none_stands false = refl

-- the places of a row without places can go
pub emptied_counts : (schema : Schema) (r : Row) → has_counts schema (emptied r) ≡ true
emptied_counts schema (Struct class fields) = refl
emptied_counts schema (Map home items) = refl
emptied_counts schema (Array home values) = none_stands (is_filtered schema home)
emptied_counts schema (Set home items) = refl

-- the items of an array without items differ, filtered or not
none_differs : (b : Bool) → ((not b || true) && true) ≡ true
none_differs true = refl
none_differs false = refl

-- CLEAR is on a collection
start_fits : (schema : Schema) (new : List RowEntry) (r : Row) → Each (EditFits schema new (emptied r)) (whole_start r)
start_fits schema new (Struct class fields) = tt
start_fits schema new (Map home items) = tt
start_fits schema new (Array home []) = tt
start_fits schema new (Array home (v ∷ vs)) = (refl, tt)
start_fits schema new (Set home items) = tt

-- the operations of a whole row
pub whole_fits : (schema : Schema) (new : List RowEntry) (r : Row) → is_kept schema ≡ true → has_kind schema r ≡ true → places_fit schema new r ≡ true → is_spelled_row r ≡ true
    → Each (EditFits schema new (emptied r)) (whole_edits schema new r)
whole_fits schema new r kept kind fit spelled =
    Each-append (EditFits schema new (emptied r)) (whole_start r) (row_edits schema new (emptied r) r) (start_fits schema new r)
    (row_fits schema new new kept (emptied r) r kind (emptied_kind r) (emptied_fits schema new r) (emptied_counts schema r) fit spelled)
