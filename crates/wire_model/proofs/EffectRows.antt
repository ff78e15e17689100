-- What each operation does to its holder: every effect by an example, and the operations that find their item.
use Rattle.std.specs.Prelude.{◌≡◌, ℕ, List, [], ◌∷◌, ◌++◌, map, pos, Bool, true, false, Option, Some, None, codes, replicate, refl}
use Rattle.schema_model.specs.declared.value.Value.{Value}
use Rattle.schema_model.specs.declared.value.Value.TheVariants.{Whole, Str, Link}
use Rattle.schema_model.specs.declared.scalar.ScalarKind.TheVariants as kind
use Rattle.schema_model.specs.declared.place.Home.{Home}
use Rattle.state_model.specs.declared.row.Row.TheVariants as row
use Rattle.state_model.specs.declared.row.FieldValue.{FieldValue}
use Rattle.state_model.specs.declared.row.MapItem.{MapItem}
use Rattle.state_model.specs.declared.row.SetItem.{SetItem}
use Rattle.state_model.proofs.Examples as ex
use Rattle.wire_model.specs.declared.op.OpKey.{OpKey}
use Rattle.wire_model.specs.declared.op.OpKey.TheVariants.{Field, Item, Named}
use Rattle.wire_model.specs.Edits.{Carried, Plain, Linked, AWhole, AText, Edit, Add, Replace, DeleteAdd, Delete, Clear, AddByRef, DeleteByRef}
use Rattle.wire_model.specs.Effect.{Body, Fields, Items, Slots, Elements, opened, closed_slots, closed, is_present_at, put_slot, has_link, push_link, effect, finds, edited_row}

-- a number, a text and an instance of class 1, as operations carry them
abbrev number : ℕ → Carried
number n = Plain kind.Number (AWhole (pos n))

abbrev text : List ℕ → Carried
text t = Plain kind.Str (AText t)

abbrev card : ℕ → Carried
card n = Linked n (row.Struct 1 [])

abbrev at_home : Home
at_home = ex.home 0 0

-- ---- holders

a_row_is_opened_without_holes : map opened (row.Struct 1 (ex.field 0 (Link 4) ∷ []) ∷ row.Map at_home (ex.named 0 [] (Link 4) ∷ [])
    ∷ row.Array at_home (Link 4 ∷ Link 5 ∷ []) ∷ row.Set at_home (ex.element 0 (Link 4) ∷ []) ∷ [])
    ≡ Fields 1 (ex.field 0 (Link 4) ∷ []) ∷ Items at_home (ex.named 0 [] (Link 4) ∷ []) ∷ Slots at_home (Some (Link 4) ∷ Some (Link 5) ∷ [])
    ∷ Elements at_home (ex.element 0 (Link 4) ∷ []) ∷ []
a_row_is_opened_without_holes = refl

holes_close : map closed_slots ([] ∷ (None ∷ Some (Link 4) ∷ None ∷ Some (Link 5) ∷ None ∷ []) ∷ []) ≡ [] ∷ (Link 4 ∷ Link 5 ∷ []) ∷ []
holes_close = refl

a_holder_is_closed_to_a_row : map closed (Fields 1 (ex.field 0 (Link 4) ∷ []) ∷ Items at_home (ex.named 0 [] (Link 4) ∷ [])
    ∷ Slots at_home (None ∷ Some (Link 5) ∷ []) ∷ Elements at_home (ex.element 0 (Link 4) ∷ []) ∷ [])
    ≡ row.Struct 1 (ex.field 0 (Link 4) ∷ []) ∷ row.Map at_home (ex.named 0 [] (Link 4) ∷ []) ∷ row.Array at_home (Link 5 ∷ [])
    ∷ row.Set at_home (ex.element 0 (Link 4) ∷ []) ∷ []
a_holder_is_closed_to_a_row = refl

-- ---- an instance with a name and a link

abbrev fields : List FieldValue
fields = ex.field 0 (Str (codes "a")) ∷ ex.field 2 (Link 4) ∷ []

abbrev on_fields : Edit → Body
on_fields e = effect e (Fields 1 fields)

a_new_field_gets_the_value : map (λ (e : OpKey → Carried → Edit). on_fields (e (Field 1) (number 7))) (Add ∷ Replace ∷ DeleteAdd ∷ [])
    ≡ replicate 3 (Fields 1 (ex.field 0 (Str (codes "a")) ∷ ex.field 1 (Whole (pos 7)) ∷ ex.field 2 (Link 4) ∷ []))
a_new_field_gets_the_value = refl

a_present_field_gets_the_value : map (λ (e : OpKey → Carried → Edit). on_fields (e (Field 2) (card 5))) (Add ∷ Replace ∷ DeleteAdd ∷ [])
    ≡ replicate 3 (Fields 1 (ex.field 0 (Str (codes "a")) ∷ ex.field 2 (Link 5) ∷ []))
a_present_field_gets_the_value = refl

a_deleted_field_is_absent : map on_fields (Delete (Field 0) ∷ Delete (Field 1) ∷ []) ≡ Fields 1 (ex.field 2 (Link 4) ∷ []) ∷ Fields 1 fields ∷ []
a_deleted_field_is_absent = refl

-- no bytes give an instance these operations
an_instance_has_no_items : map on_fields (Add (Item 0) (number 7) ∷ Replace (Item 0) (number 7) ∷ DeleteAdd (Named 0 []) (number 7) ∷ Delete (Item 0)
    ∷ Clear ∷ AddByRef (card 5) ∷ DeleteByRef 4 ∷ [])
    ≡ replicate 7 (Fields 1 fields)
an_instance_has_no_items = refl

-- ---- a map with the keys a and b

abbrev items : List MapItem
items = ex.named 0 (codes "a") (Link 4) ∷ ex.named 2 (codes "b") (Link 5) ∷ []

abbrev on_items : Edit → Body
on_items e = effect e (Items at_home items)

-- ADD and DELETE_AND_ADD
abbrev adding : OpKey → Carried → List Body
adding k v = on_items (Add k v) ∷ on_items (DeleteAdd k v) ∷ []

a_new_item_gets_key_and_value : adding (Named 1 (codes "c")) (card 6)
    ≡ replicate 2 (Items at_home (ex.named 0 (codes "a") (Link 4) ∷ ex.named 1 (codes "c") (Link 6) ∷ ex.named 2 (codes "b") (Link 5) ∷ []))
a_new_item_gets_key_and_value = refl

a_present_item_gets_key_and_value : adding (Named 2 (codes "c")) (card 6)
    ≡ replicate 2 (Items at_home (ex.named 0 (codes "a") (Link 4) ∷ ex.named 2 (codes "c") (Link 6) ∷ []))
a_present_item_gets_key_and_value = refl

another_number_with_the_key_is_taken_away : adding (Named 3 (codes "a")) (card 6)
    ≡ replicate 2 (Items at_home (ex.named 2 (codes "b") (Link 5) ∷ ex.named 3 (codes "a") (Link 6) ∷ []))
another_number_with_the_key_is_taken_away = refl

a_present_number_may_take_anothers_key : adding (Named 0 (codes "b")) (card 6) ≡ replicate 2 (Items at_home (ex.named 0 (codes "b") (Link 6) ∷ []))
a_present_number_may_take_anothers_key = refl

an_item_may_keep_its_key : adding (Named 2 (codes "b")) (card 6)
    ≡ replicate 2 (Items at_home (ex.named 0 (codes "a") (Link 4) ∷ ex.named 2 (codes "b") (Link 6) ∷ []))
an_item_may_keep_its_key = refl

a_replaced_item_keeps_its_key : map on_items (Replace (Item 2) (card 6) ∷ Replace (Item 9) (card 6) ∷ [])
    ≡ Items at_home (ex.named 0 (codes "a") (Link 4) ∷ ex.named 2 (codes "b") (Link 6) ∷ []) ∷ Items at_home items ∷ []
a_replaced_item_keeps_its_key = refl

a_deleted_item_goes : map on_items (Delete (Item 0) ∷ Delete (Item 9) ∷ Clear ∷ [])
    ≡ Items at_home (ex.named 2 (codes "b") (Link 5) ∷ []) ∷ Items at_home items ∷ Items at_home [] ∷ []
a_deleted_item_goes = refl

-- no bytes give a map these operations
a_map_has_no_fields_and_no_references : map on_items (Add (Item 0) (card 6) ∷ DeleteAdd (Field 0) (card 6) ∷ Replace (Field 0) (card 6)
    ∷ Delete (Field 0) ∷ AddByRef (card 6) ∷ DeleteByRef 4 ∷ [])
    ≡ replicate 6 (Items at_home items)
a_map_has_no_fields_and_no_references = refl

-- ---- a set with a and b

abbrev elements : List SetItem
elements = ex.element 1 (Str (codes "a")) ∷ ex.element 3 (Str (codes "b")) ∷ []

abbrev on_elements : Edit → Body
on_elements e = effect e (Elements at_home elements)

an_item_number_gets_the_value : map (λ n. on_elements (Add (Item n) (text (codes "c")))) (2 ∷ 3 ∷ 4 ∷ [])
    ≡ Elements at_home (ex.element 1 (Str (codes "a")) ∷ ex.element 2 (Str (codes "c")) ∷ ex.element 3 (Str (codes "b")) ∷ [])
    ∷ Elements at_home (ex.element 1 (Str (codes "a")) ∷ ex.element 3 (Str (codes "c")) ∷ [])
    ∷ Elements at_home (ex.element 1 (Str (codes "a")) ∷ ex.element 3 (Str (codes "b")) ∷ ex.element 4 (Str (codes "c")) ∷ []) ∷ []
an_item_number_gets_the_value = refl

delete_and_add_is_add_in_a_set : map (λ n. on_elements (DeleteAdd (Item n) (text (codes "c")))) (3 ∷ 4 ∷ [])
    ≡ Elements at_home (ex.element 1 (Str (codes "a")) ∷ ex.element 3 (Str (codes "c")) ∷ [])
    ∷ Elements at_home (ex.element 1 (Str (codes "a")) ∷ ex.element 3 (Str (codes "b")) ∷ ex.element 4 (Str (codes "c")) ∷ []) ∷ []
delete_and_add_is_add_in_a_set = refl

a_replaced_value_keeps_its_number : on_elements (Replace (Item 1) (text (codes "c")))
    ≡ Elements at_home (ex.element 1 (Str (codes "c")) ∷ ex.element 3 (Str (codes "b")) ∷ [])
a_replaced_value_keeps_its_number = refl

-- item numbers count, and not values
equal_values_may_stand_under_two_numbers : on_elements (Add (Item 4) (text (codes "a")))
    ≡ Elements at_home (elements ++ ex.element 4 (Str (codes "a")) ∷ [])
equal_values_may_stand_under_two_numbers = refl

a_deleted_value_goes : map on_elements (Delete (Item 1) ∷ Delete (Item 9) ∷ Clear ∷ [])
    ≡ Elements at_home (ex.element 3 (Str (codes "b")) ∷ []) ∷ Elements at_home elements ∷ Elements at_home [] ∷ []
a_deleted_value_goes = refl

-- no bytes give a set these operations
a_set_has_no_keys_and_no_references : map on_elements (Add (Named 0 []) (card 6) ∷ DeleteAdd (Field 0) (card 6) ∷ Replace (Field 0) (card 6)
    ∷ Delete (Field 1) ∷ AddByRef (card 6) ∷ DeleteByRef 4 ∷ [])
    ≡ replicate 6 (Elements at_home elements)
a_set_has_no_keys_and_no_references = refl

-- ---- an array

abbrev slots : List ℕ → Body
slots ns = Slots at_home (map (λ n. Some (Whole (pos n))) ns)

-- the numbers 7 and 8
abbrev on_slots : Edit → Body
on_slots e = effect e (slots (7 ∷ 8 ∷ []))

a_present_slot_is_no_hole : map (is_present_at (None ∷ Some (Link 4) ∷ [])) (0 ∷ 1 ∷ 2 ∷ []) ≡ false ∷ true ∷ false ∷ []
a_present_slot_is_no_hole = refl

an_item_is_added_in_front_of_a_present_one : map (λ n. on_slots (Add (Item 0) (number n))) (9 ∷ 7 ∷ [])
    ≡ slots (9 ∷ 7 ∷ 8 ∷ []) ∷ slots (7 ∷ 7 ∷ 8 ∷ []) ∷ []
an_item_is_added_in_front_of_a_present_one = refl

an_item_is_added_to_an_empty_array : effect (Add (Item 0) (number 9)) (slots []) ≡ slots (9 ∷ [])
an_item_is_added_to_an_empty_array = refl

an_item_is_added_into_a_hole : effect (Add (Item 0) (number 9)) (Slots at_home (None ∷ Some (Whole (pos 8)) ∷ [])) ≡ slots (9 ∷ 8 ∷ [])
an_item_is_added_into_a_hole = refl

an_item_is_added_at_a_position : map (λ n. on_slots (Add (Item n) (number 9))) (1 ∷ 2 ∷ 3 ∷ [])
    ≡ slots (7 ∷ 9 ∷ []) ∷ slots (7 ∷ 8 ∷ 9 ∷ []) ∷ slots (7 ∷ 8 ∷ []) ∷ []
an_item_is_added_at_a_position = refl

an_item_is_replaced_at_a_position : map (λ n. on_slots (Replace (Item n) (number 9))) (0 ∷ 1 ∷ 2 ∷ 3 ∷ [])
    ≡ slots (9 ∷ 8 ∷ []) ∷ slots (7 ∷ 9 ∷ []) ∷ slots (7 ∷ 8 ∷ 9 ∷ []) ∷ slots (7 ∷ 8 ∷ []) ∷ []
an_item_is_replaced_at_a_position = refl

delete_and_add_inserts_nothing_in_front : map (λ n. on_slots (DeleteAdd (Item n) (number 9))) (0 ∷ 1 ∷ 2 ∷ 3 ∷ [])
    ≡ slots (9 ∷ 8 ∷ []) ∷ slots (7 ∷ 9 ∷ []) ∷ slots (7 ∷ 8 ∷ 9 ∷ []) ∷ slots (7 ∷ 8 ∷ []) ∷ []
delete_and_add_inserts_nothing_in_front = refl

a_deleted_position_is_a_hole : map (λ n. on_slots (Delete (Item n))) (0 ∷ 1 ∷ 2 ∷ 9 ∷ [])
    ≡ Slots at_home (None ∷ Some (Whole (pos 8)) ∷ []) ∷ Slots at_home (Some (Whole (pos 7)) ∷ None ∷ []) ∷ slots (7 ∷ 8 ∷ [])
    ∷ slots (7 ∷ 8 ∷ []) ∷ []
a_deleted_position_is_a_hole = refl

-- the length counts the hole at its end
a_hole_counts_in_the_length : map (λ at. put_slot at (Whole (pos 9)) (Some (Whole (pos 7)) ∷ None ∷ [])) (1 ∷ 2 ∷ 3 ∷ [])
    ≡ (Some (Whole (pos 7)) ∷ Some (Whole (pos 9)) ∷ []) ∷ (Some (Whole (pos 7)) ∷ None ∷ Some (Whole (pos 9)) ∷ [])
    ∷ (Some (Whole (pos 7)) ∷ None ∷ []) ∷ []
a_hole_counts_in_the_length = refl

an_array_is_cleared : on_slots Clear ≡ slots []
an_array_is_cleared = refl

-- no bytes give an array these operations
an_array_has_no_fields_and_no_keys : map on_slots (Add (Field 0) (number 9) ∷ Add (Named 0 []) (number 9) ∷ Replace (Field 0) (number 9)
    ∷ DeleteAdd (Named 0 []) (number 9) ∷ Delete (Field 0) ∷ [])
    ≡ replicate 5 (slots (7 ∷ 8 ∷ []))
an_array_has_no_fields_and_no_keys = refl

-- ---- an array of instances

abbrev cards : List (Option Value) → Body
cards vs = Slots at_home vs

a_slot_has_a_link_or_not : map (has_link 4) (Some (Link 4) ∷ Some (Link 5) ∷ Some (Whole (pos 4)) ∷ None ∷ []) ≡ true ∷ false ∷ false ∷ false ∷ []
a_slot_has_a_link_or_not = refl

an_instance_in_the_array_keeps_its_place : effect (AddByRef (card 4)) (cards (Some (Link 4) ∷ Some (Link 5) ∷ []))
    ≡ cards (Some (Link 4) ∷ Some (Link 5) ∷ [])
an_instance_in_the_array_keeps_its_place = refl

another_instance_goes_last : effect (AddByRef (card 6)) (cards (Some (Link 4) ∷ Some (Link 5) ∷ []))
    ≡ cards (Some (Link 4) ∷ Some (Link 5) ∷ Some (Link 6) ∷ [])
another_instance_goes_last = refl

an_instance_that_left_goes_last : effect (AddByRef (card 4)) (effect (DeleteByRef 4) (cards (Some (Link 4) ∷ Some (Link 5) ∷ [])))
    ≡ cards (None ∷ Some (Link 5) ∷ Some (Link 4) ∷ [])
an_instance_that_left_goes_last = refl

only_a_link_is_added_by_reference : push_link (Whole (pos 4)) (Some (Link 5) ∷ []) ≡ Some (Link 5) ∷ []
only_a_link_is_added_by_reference = refl

an_instance_that_stands_twice_is_deleted_once : effect (DeleteByRef 4) (cards (Some (Link 5) ∷ Some (Link 4) ∷ Some (Link 4) ∷ []))
    ≡ cards (Some (Link 5) ∷ None ∷ Some (Link 4) ∷ [])
an_instance_that_stands_twice_is_deleted_once = refl

an_instance_that_is_not_there_is_not_deleted : effect (DeleteByRef 9) (cards (Some (Link 4) ∷ None ∷ [])) ≡ cards (Some (Link 4) ∷ None ∷ [])
an_instance_that_is_not_there_is_not_deleted = refl

-- ---- a row after several operations

-- positions stay while the operations run: the third item is deleted as the third
positions_count_holes_until_the_block_ends :
    edited_row (Delete (Item 0) ∷ Delete (Item 2) ∷ Add (Item 3) (number 9) ∷ [])
    (row.Array at_home (Whole (pos 6) ∷ Whole (pos 7) ∷ Whole (pos 8) ∷ []))
    ≡ row.Array at_home (Whole (pos 7) ∷ Whole (pos 9) ∷ [])
positions_count_holes_until_the_block_ends = refl

later_operations_see_earlier_ones :
    edited_row (Clear ∷ Add (Item 0) (number 1) ∷ Add (Item 0) (number 2) ∷ []) (row.Array at_home (Whole (pos 6) ∷ []))
    ≡ row.Array at_home (Whole (pos 2) ∷ Whole (pos 1) ∷ [])
later_operations_see_earlier_ones = refl

no_operations_leave_the_row : edited_row [] (row.Array at_home (Whole (pos 6) ∷ [])) ≡ row.Array at_home (Whole (pos 6) ∷ [])
no_operations_leave_the_row = refl

-- ---- operations that find their item

-- under ADD, REPLACE and DELETE_AND_ADD
abbrev found : Body → ℕ → List Bool
found b n = finds (Add (Item n) (number 9)) b ∷ finds (Replace (Item n) (number 9)) b ∷ finds (DeleteAdd (Item n) (number 9)) b ∷ []

a_position_past_the_length_is_not_found : map (found (slots (7 ∷ 8 ∷ []))) (1 ∷ 2 ∷ 3 ∷ [])
    ≡ (true ∷ true ∷ true ∷ []) ∷ (true ∷ true ∷ true ∷ []) ∷ (false ∷ false ∷ false ∷ []) ∷ []
a_position_past_the_length_is_not_found = refl

a_replaced_item_of_a_set_is_there : map (found (Elements at_home elements)) (3 ∷ 4 ∷ []) ≡ (true ∷ true ∷ true ∷ []) ∷ (true ∷ false ∷ true ∷ []) ∷ []
a_replaced_item_of_a_set_is_there = refl

a_replaced_item_of_a_map_is_there : map (λ n. finds (Replace (Item n) (card 6)) (Items at_home items)) (2 ∷ 3 ∷ []) ≡ true ∷ false ∷ []
a_replaced_item_of_a_map_is_there = refl

all_else_is_found :
    map (λ e. finds e (slots [])) (Delete (Item 9) ∷ Clear ∷ AddByRef (card 4) ∷ DeleteByRef 4 ∷ [])
    ++ map (λ e. finds e (Items at_home [])) (Add (Named 3 []) (card 4) ∷ Delete (Item 9) ∷ [])
    ++ finds (Replace (Field 9) (card 4)) (Fields 1 []) ∷ []
    ≡ replicate 7 true
all_else_is_found = refl
