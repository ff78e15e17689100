-- The operations of a patch on one row: every kind of difference by an example.
use Rattle.std.specs.Prelude.{◌≡◌, ℕ, List, [], ◌∷◌, ◌++◌, map, pos, true, false, Option, Some, None, codes, replicate, refl}
use Rattle.schema_model.specs.Classes.{Schema}
use Rattle.schema_model.specs.declared.value.Value.{Value}
use Rattle.schema_model.specs.declared.value.Value.TheVariants.{Whole, Str, Truth, Link}
use Rattle.schema_model.specs.declared.class.Item.TheVariants as item
use Rattle.schema_model.specs.declared.class.Shape.TheVariants as shape
use Rattle.schema_model.specs.declared.scalar.ScalarKind.TheVariants as kind
use Rattle.state_model.specs.declared.row.Row.{Row}
use Rattle.state_model.specs.declared.row.Row.TheVariants.{Struct, Map, Array, Set}
use Rattle.state_model.specs.declared.place.Expected.TheVariants.{Item as AnItem, Collection as ACollection}
use Rattle.state_model.proofs.Examples as ex
use Rattle.state_model.proofs.Zoo as z
use Rattle.wire_model.specs.declared.op.OpKey.TheVariants.{Field, Item, Named}
use Rattle.wire_model.specs.Edits.{AWhole, AText, ATruth, Carried, Plain, Linked, Edit, Add, Replace, DeleteAdd, Delete, Clear, AddByRef, DeleteByRef}
use Rattle.wire_model.specs.Patch.{kind_expected, kind_in, carried, changed_place, place_edit, field_value, map_item, item_value, item_key, set_value, either_number, field_edits, map_edits, set_edits, slot_edits, stands_in, kept_of, gone_of, same_values, drop_edit, push_edit, ref_edits, array_edits, row_edits, whole_start, whole_edits}

-- ---- carried values

only_a_scalar_place_has_a_kind : map kind_expected (Some (AnItem (item.Scalar kind.U8)) ∷ Some (AnItem (item.Class 1))
    ∷ Some (ACollection (ex.home 0 0)) ∷ None ∷ [])
    ≡ kind.U8 ∷ kind.Number ∷ kind.Number ∷ kind.Number ∷ []
only_a_scalar_place_has_a_kind = refl

-- there is no row 9
a_link_leads_to_an_emptied_row : map (kind_in z.zoo_rows) (4 ∷ 1 ∷ 9 ∷ []) ≡ Struct 2 [] ∷ Map (ex.home 0 0) [] ∷ Struct 0 [] ∷ []
a_link_leads_to_an_emptied_row = refl

-- numbers, texts and truth values are carried with the kind of their place
a_value_is_carried_by_its_form : map (carried z.zoo_rows (Some (AnItem (item.Scalar kind.U8)))) (Whole (pos 3) ∷ Str (codes "a") ∷ Truth true ∷ [])
    ≡ Plain kind.U8 (AWhole (pos 3)) ∷ Plain kind.U8 (AText (codes "a")) ∷ Plain kind.U8 (ATruth true) ∷ []
a_value_is_carried_by_its_form = refl

a_link_is_carried_with_its_rows_kind : map (carried z.zoo_rows (Some (AnItem (item.Class 1)))) (Link 4 ∷ Link 5 ∷ [])
    ≡ Linked 4 (Struct 2 []) ∷ Linked 5 (Struct 1 []) ∷ []
a_link_is_carried_with_its_rows_kind = refl

-- what operations carry of the zoo
abbrev dog : Carried
dog = Linked 4 (Struct 2 [])

abbrev pet : Carried
pet = Linked 5 (Struct 1 [])

abbrev number : ℕ → Carried
number n = Plain kind.Number (AWhole (pos n))

abbrev text : List ℕ → Carried
text t = Plain kind.Str (AText t)

-- ---- one place

-- under the number 2, or with the key a
abbrev keyed : Option Value → Option Value → List Edit
keyed old new = place_edit (Item 2) (Named 2 (codes "a")) z.zoo_rows (Some (AnItem (item.Class 1))) old new

a_scalar_is_replaced_and_a_link_deleted_and_added : changed_place (Item 2) (Named 2 (codes "a")) (Whole (pos 3)) (number 3)
    ∷ changed_place (Item 2) (Named 2 (codes "a")) (Link 4) dog ∷ []
    ≡ Replace (Item 2) (number 3) ∷ DeleteAdd (Named 2 (codes "a")) dog ∷ []
a_scalar_is_replaced_and_a_link_deleted_and_added = refl

a_place_that_stays_has_no_operation : keyed None None ∷ keyed (Some (Link 4)) (Some (Link 4)) ∷ [] ≡ [] ∷ [] ∷ []
a_place_that_stays_has_no_operation = refl

a_place_comes_with_its_key_and_goes_without : keyed None (Some (Link 4)) ∷ keyed (Some (Link 4)) None ∷ []
    ≡ (Add (Named 2 (codes "a")) dog ∷ []) ∷ (Delete (Item 2) ∷ []) ∷ []
a_place_comes_with_its_key_and_goes_without = refl

another_link_is_deleted_and_added : keyed (Some (Link 4)) (Some (Link 5)) ≡ DeleteAdd (Named 2 (codes "a")) pet ∷ []
another_link_is_deleted_and_added = refl

another_scalar_is_replaced : place_edit (Item 2) (Named 2 (codes "a")) z.zoo_rows (Some (AnItem (item.Scalar kind.U8))) (Some (Whole (pos 3)))
    (Some (Whole (pos 4)))
    ≡ Replace (Item 2) (Plain kind.U8 (AWhole (pos 4))) ∷ []
another_scalar_is_replaced = refl

-- ---- places by number

a_field_has_a_value_or_none : map (field_value (ex.field 0 (Link 4) ∷ ex.field 2 (Link 5) ∷ [])) (2 ∷ 1 ∷ []) ≡ Some (Link 5) ∷ None ∷ []
a_field_has_a_value_or_none = refl

a_map_has_an_item_or_none : map (map_item (ex.named 0 (codes "a") (Link 4) ∷ ex.named 2 (codes "b") (Link 5) ∷ [])) (2 ∷ 1 ∷ [])
    ≡ Some (ex.named 2 (codes "b") (Link 5)) ∷ None ∷ []
a_map_has_an_item_or_none = refl

an_item_has_value_and_key : map item_value (Some (ex.named 2 (codes "b") (Link 5)) ∷ None ∷ []) ≡ Some (Link 5) ∷ None ∷ []
an_item_has_value_and_key = refl

an_item_that_is_gone_has_no_key : map item_key (Some (ex.named 2 (codes "b") (Link 5)) ∷ None ∷ []) ≡ codes "b" ∷ [] ∷ []
an_item_that_is_gone_has_no_key = refl

a_set_has_a_value_or_none : map (set_value (ex.element 1 (Link 4) ∷ ex.element 3 (Link 5) ∷ [])) (3 ∷ 2 ∷ []) ≡ Some (Link 5) ∷ None ∷ []
a_set_has_a_value_or_none = refl

numbers_of_old_and_new_rise : either_number (1 ∷ 4 ∷ 6 ∷ []) (0 ∷ 4 ∷ 5 ∷ 9 ∷ []) ≡ 0 ∷ 1 ∷ 4 ∷ 5 ∷ 6 ∷ 9 ∷ []
numbers_of_old_and_new_rise = refl

-- ---- instances: pets and signs stay, the parade comes, another star and other tickets, and the log goes

fields_have_operations_rising : field_edits z.zoo z.zoo_rows 0
    (ex.field 0 (Link 1) ∷ ex.field 2 (Link 3) ∷ ex.field 3 (Link 5) ∷ ex.field 4 (Whole (pos 12)) ∷ ex.field 5 (Link 6) ∷ [])
    (ex.field 0 (Link 1) ∷ ex.field 1 (Link 2) ∷ ex.field 2 (Link 3) ∷ ex.field 3 (Link 4) ∷ ex.field 4 (Whole (pos 13)) ∷ [])
    ≡ Add (Field 1) (Linked 2 (Array (ex.home 0 1) [])) ∷ DeleteAdd (Field 3) dog ∷ Replace (Field 4) (number 13) ∷ Delete (Field 5) ∷ []
fields_have_operations_rising = refl

-- by its own kind each
fields_are_carried_by_their_kinds : field_edits z.zoo z.zoo_rows 2 [] (ex.field 0 (Str (codes "Rex")) ∷ ex.field 1 (Link 6)
    ∷ ex.field 2 (Whole (pos 3)) ∷ [])
    ≡ Add (Field 0) (text (codes "Rex")) ∷ Add (Field 1) (Linked 6 (Array (ex.home 1 1) [])) ∷ Add (Field 2) (Plain kind.U8 (AWhole (pos 3))) ∷ []
fields_are_carried_by_their_kinds = refl

-- ---- maps

a_maps_items_have_operations_rising : map_edits z.zoo z.zoo_rows (ex.home 0 0)
    (ex.named 0 (codes "a") (Link 4) ∷ ex.named 2 (codes "b") (Link 4) ∷ ex.named 3 (codes "c") (Link 5) ∷ [])
    (ex.named 2 (codes "b") (Link 5) ∷ ex.named 3 (codes "c") (Link 5) ∷ ex.named 4 (codes "a") (Link 4) ∷ [])
    ≡ Delete (Item 0) ∷ DeleteAdd (Named 2 (codes "b")) pet ∷ Add (Named 4 (codes "a")) dog ∷ []
a_maps_items_have_operations_rising = refl

-- `State { scores: map of number, marks: set of number, cards: array of Card }`, `Card {}`; no field is tagged
abbrev scores : Schema
scores = record {
  classes = ex.root_class (codes "State")
      (ex.plain_field (codes "scores") (shape.Map (item.Scalar kind.Number)) ∷ ex.plain_field (codes "marks") (shape.Set (item.Scalar kind.Number))
      ∷ ex.plain_field (codes "cards") (shape.Array (item.Class 1)) ∷ []) ∷ ex.root_class (codes "Card") [] ∷ [];
  root = 0;
}

a_replaced_item_of_a_map_has_no_key :
    map_edits scores [] (ex.home 0 0) (ex.named 2 (codes "b") (Whole (pos 7)) ∷ []) (ex.named 2 (codes "b") (Whole (pos 8)) ∷ [])
    ≡ Replace (Item 2) (number 8) ∷ []
a_replaced_item_of_a_map_has_no_key = refl

-- ---- sets

a_sets_items_have_operations_rising : set_edits scores [] (ex.home 0 1)
    (ex.element 0 (Whole (pos 7)) ∷ ex.element 2 (Whole (pos 8)) ∷ ex.element 3 (Whole (pos 9)) ∷ [])
    (ex.element 2 (Whole (pos 8)) ∷ ex.element 3 (Whole (pos 5)) ∷ ex.element 4 (Whole (pos 7)) ∷ [])
    ≡ Delete (Item 0) ∷ Replace (Item 3) (number 5) ∷ Add (Item 4) (number 7) ∷ []
a_sets_items_have_operations_rising = refl

-- cards 4 and 5, in a set
links_of_a_set_are_added_or_deleted_and_added :
    row_edits z.cards (ex.row 4 (Struct 1 []) ∷ ex.row 5 (Struct 1 []) ∷ [])
    (Set (ex.home 0 2) (ex.element 0 (Link 4) ∷ [])) (Set (ex.home 0 2) (ex.element 0 (Link 5) ∷ ex.element 1 (Link 4) ∷ []))
    ≡ DeleteAdd (Item 0) pet ∷ Add (Item 1) (Linked 4 (Struct 1 [])) ∷ []
links_of_a_set_are_added_or_deleted_and_added = refl

-- ---- arrays by position

abbrev list_edits : List ℕ → List ℕ → List Edit
list_edits old new = slot_edits ex.numbers [] (ex.home 0 0) (map (λ n. Whole (pos n)) old) (map (λ n. Whole (pos n)) new)

an_array_is_compared_position_by_position :
    list_edits (1 ∷ 2 ∷ 3 ∷ []) (2 ∷ 3 ∷ []) ∷ list_edits (1 ∷ []) (1 ∷ 5 ∷ 6 ∷ []) ∷ list_edits (1 ∷ 2 ∷ []) (1 ∷ 2 ∷ [])
    ∷ list_edits (1 ∷ 2 ∷ []) [] ∷ list_edits [] [] ∷ []
    ≡ (Replace (Item 0) (number 2) ∷ Replace (Item 1) (number 3) ∷ Delete (Item 2) ∷ []) ∷ (Add (Item 1) (number 5) ∷ Add (Item 2) (number 6) ∷ [])
    ∷ [] ∷ (Delete (Item 0) ∷ Delete (Item 1) ∷ []) ∷ [] ∷ []
an_array_is_compared_position_by_position = refl

-- ---- filtered arrays

a_value_stands_in_a_list_or_not : map (stands_in (Link 4 ∷ Link 5 ∷ [])) (Link 5 ∷ Link 6 ∷ []) ≡ true ∷ false ∷ []
a_value_stands_in_a_list_or_not = refl

items_are_kept_or_gone_in_their_order : kept_of (Link 6 ∷ Link 4 ∷ []) (Link 4 ∷ Link 5 ∷ Link 6 ∷ [])
    ∷ gone_of (Link 5 ∷ []) (Link 4 ∷ Link 5 ∷ Link 6 ∷ []) ∷ []
    ≡ (Link 4 ∷ Link 6 ∷ []) ∷ (Link 4 ∷ Link 6 ∷ []) ∷ []
items_are_kept_or_gone_in_their_order = refl

lists_are_equal_item_by_item : map (same_values (Link 4 ∷ Link 5 ∷ [])) ((Link 4 ∷ Link 5 ∷ []) ∷ (Link 5 ∷ Link 4 ∷ []) ∷ (Link 4 ∷ [])
    ∷ (Link 4 ∷ Link 5 ∷ Link 6 ∷ []) ∷ []) ++ same_values [] [] ∷ same_values [] (Link 4 ∷ []) ∷ []
    ≡ true ∷ false ∷ false ∷ false ∷ true ∷ false ∷ []
lists_are_equal_item_by_item = refl

only_a_link_is_dropped_by_reference : map drop_edit (Link 4 ∷ Whole (pos 4) ∷ []) ≡ (DeleteByRef 4 ∷ []) ∷ [] ∷ []
only_a_link_is_dropped_by_reference = refl

an_instance_is_pushed_with_its_kind : push_edit z.zoo z.zoo_rows (ex.home 0 1) (Link 4) ≡ AddByRef dog
an_instance_is_pushed_with_its_kind = refl

-- the parade, where dogs 4 and 7 and pets 5 and 6 may stand
abbrev parade_edits : List Value → List Value → List Edit
parade_edits old new = ref_edits z.zoo (ex.row 4 (Struct 2 []) ∷ ex.row 5 (Struct 1 []) ∷ ex.row 6 (Struct 1 []) ∷ ex.row 7 (Struct 2 [])
    ∷ []) (ex.home 0 1) old new

abbrev six : Carried
six = Linked 6 (Struct 1 [])

abbrev seven : Carried
seven = Linked 7 (Struct 2 [])

kept_items_may_be_followed_by_new_ones : parade_edits (Link 5 ∷ Link 4 ∷ Link 6 ∷ []) (Link 4 ∷ Link 7 ∷ [])
    ≡ DeleteByRef 5 ∷ DeleteByRef 6 ∷ AddByRef seven ∷ []
kept_items_may_be_followed_by_new_ones = refl

new_items_go_last_in_their_order : parade_edits (Link 5 ∷ []) (Link 5 ∷ Link 7 ∷ Link 4 ∷ []) ≡ AddByRef seven ∷ AddByRef dog ∷ []
new_items_go_last_in_their_order = refl

an_equal_filtered_array_has_no_operation : parade_edits (Link 5 ∷ Link 4 ∷ []) (Link 5 ∷ Link 4 ∷ []) ≡ []
an_equal_filtered_array_has_no_operation = refl

items_that_all_go_are_deleted_by_reference : parade_edits (Link 5 ∷ Link 4 ∷ []) [] ≡ DeleteByRef 5 ∷ DeleteByRef 4 ∷ []
items_that_all_go_are_deleted_by_reference = refl

-- a changed order, and a new item before a kept one
other_filtered_arrays_are_added_anew :
    parade_edits (Link 5 ∷ Link 4 ∷ []) (Link 4 ∷ Link 5 ∷ []) ∷ parade_edits (Link 5 ∷ []) (Link 6 ∷ Link 5 ∷ []) ∷ []
    ≡ (Clear ∷ AddByRef dog ∷ AddByRef pet ∷ []) ∷ (Clear ∷ AddByRef six ∷ AddByRef pet ∷ []) ∷ []
other_filtered_arrays_are_added_anew = refl

-- the parade goes by reference; untagged instances and tagged numbers go by position
only_a_filtered_array_goes_by_reference :
    array_edits z.zoo z.zoo_rows (ex.home 0 1) [] (Link 5 ∷ []) ∷ array_edits scores z.zoo_rows (ex.home 0 2) [] (Link 5 ∷ [])
    ∷ array_edits z.zoo z.zoo_rows (ex.home 0 5) [] (Whole (pos 3) ∷ []) ∷ []
    ≡ (AddByRef pet ∷ []) ∷ (Add (Item 0) pet ∷ []) ∷ (Add (Item 0) (number 3) ∷ []) ∷ []
only_a_filtered_array_goes_by_reference = refl

-- ---- rows

abbrev zoo_edits : Row → Row → List Edit
zoo_edits = row_edits z.zoo z.zoo_rows

each_shape_has_its_operations :
    zoo_edits (Struct 1 []) z.tom ∷ zoo_edits (Map (ex.home 0 0) []) (Map (ex.home 0 0) (ex.named 2 (codes "tom") (Link 5) ∷ []))
    ∷ zoo_edits (Array (ex.home 1 1) (Whole (pos 7) ∷ [])) z.toys
    ∷ zoo_edits (Set (ex.home 0 2) (ex.element 1 (Str (codes "open")) ∷ [])) z.signs ∷ []
    ≡ (Add (Field 0) (text (codes "Tom")) ∷ []) ∷ (Add (Named 2 (codes "tom")) pet ∷ []) ∷ (Add (Item 1) (number 8) ∷ [])
    ∷ (Add (Item 3) (text (codes "closed")) ∷ []) ∷ []
each_shape_has_its_operations = refl

rows_of_two_shapes_have_no_operation : map (zoo_edits z.signs) (z.tom ∷ z.pets ∷ z.parade ∷ []) ++ zoo_edits z.tom z.pets ∷ [] ≡ replicate 4 []
rows_of_two_shapes_have_no_operation = refl

a_whole_array_with_items_begins_with_clear : map whole_start (z.toys ∷ Array (ex.home 1 1) [] ∷ z.tom ∷ z.pets ∷ z.signs ∷ [])
    ≡ (Clear ∷ []) ∷ [] ∷ [] ∷ [] ∷ [] ∷ []
a_whole_array_with_items_begins_with_clear = refl

abbrev whole : Row → List Edit
whole = whole_edits z.zoo z.zoo_rows

a_whole_row_adds_every_place : map whole (z.tom ∷ z.pets ∷ z.signs ∷ [])
    ≡ (Add (Field 0) (text (codes "Tom")) ∷ []) ∷ (Add (Named 0 (codes "rex")) dog ∷ Add (Named 2 (codes "tom")) pet ∷ [])
    ∷ (Add (Item 1) (text (codes "open")) ∷ Add (Item 3) (text (codes "closed")) ∷ []) ∷ []
a_whole_row_adds_every_place = refl

a_whole_array_adds_by_position_or_by_reference : map whole (z.toys ∷ z.parade ∷ Array (ex.home 1 1) [] ∷ Array (ex.home 0 1) [] ∷ [])
    ≡ (Clear ∷ Add (Item 0) (number 7) ∷ Add (Item 1) (number 8) ∷ []) ∷ (Clear ∷ AddByRef dog ∷ AddByRef pet ∷ []) ∷ [] ∷ [] ∷ []
a_whole_array_adds_by_position_or_by_reference = refl
