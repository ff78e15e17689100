-- The steps that state bytes spell and the faults of reading, byte by byte: each case by an example over the zoo.
use Rattle.std.specs.Prelude.{◌≡◌, ℕ, List, [], ◌∷◌, map, pos, negsuc, Some, None, Result, Ok, Err, codes, replicate, refl}
use Rattle.schema_model.specs.declared.fault.ReadFault.TheVariants.{Short, Fractional, TooWide, BadText, BadForm}
use Rattle.schema_model.specs.declared.value.Value.TheVariants.{Whole, Str}
use Rattle.schema_model.specs.declared.scalar.ScalarKind.TheVariants as kind
use Rattle.state_model.specs.declared.row.Row.TheVariants as row
use Rattle.state_model.specs.Rows.{kinds_of}
use Rattle.state_model.proofs.Examples as ex
use Rattle.state_model.proofs.Zoo as z
use Rattle.wire_model.specs.declared.op.OpKey.TheVariants.{Field, Item, Named}
use Rattle.wire_model.specs.declared.op.OpValue.TheVariants.{Scalar, Struct, Coll}
use Rattle.wire_model.specs.declared.op.Op.{Op}
use Rattle.wire_model.specs.declared.op.Op.TheVariants.{Add, Replace, DeleteAdd, Delete, Clear, AddByRef, DeleteByRef}
use Rattle.wire_model.specs.declared.op.Step.{Step}
use Rattle.wire_model.specs.declared.op.Step.TheVariants.{Turn, Do}
use Rattle.wire_model.specs.declared.fault.OpFault.{OpFault}
use Rattle.wire_model.specs.declared.fault.OpFault.TheVariants as fault
use Rattle.wire_model.specs.Grammar.{step_at}
use Rattle.wire_model.proofs.Opened.{reading}

abbrev Answer : Type 0
Answer = Result (Step × ℕ) OpFault

-- the step at the start of bytes, where a row of the zoo is the holder
abbrev at_row : ℕ → List ℕ → Answer
at_row holder bytes = step_at z.zoo (kinds_of z.zoo_rows) holder bytes 0

-- the operation that is done, and the place after it
abbrev doing : Op → ℕ → Answer
doing o next = Ok (Do o, next)

-- ---- switches

a_switch_names_the_new_holder : at_row 0 (0xff ∷ 0x04 ∷ []) ≡ Ok (Turn 4, 2)
unfolding reading
a_switch_names_the_new_holder = refl

an_unknown_holder_is_refused_at_its_number : at_row 0 (0xff ∷ 0x09 ∷ []) ≡ Err (fault.UnknownRef 1)
unfolding reading
an_unknown_holder_is_refused_at_its_number = refl

a_negative_holder_is_no_number : at_row 0 (0xff ∷ 0xff ∷ []) ≡ Err (fault.Scalar (BadForm 1))
unfolding reading
a_negative_holder_is_no_number = refl

a_switch_needs_a_number : map (at_row 0) ((0xff ∷ []) ∷ (0xff ∷ 0xca ∷ []) ∷ [])
    ≡ Err (fault.Scalar (Short 1)) ∷ Err (fault.Scalar (Fractional 1)) ∷ []
unfolding reading
a_switch_needs_a_number = refl

a_step_needs_a_byte : at_row 0 [] ≡ Err (fault.Scalar (Short 0))
unfolding reading
a_step_needs_a_byte = refl

a_holder_that_is_not_known_takes_no_operation : at_row 9 (0x80 ∷ 0x01 ∷ []) ≡ Err (fault.UnknownRef 0)
unfolding reading
a_holder_that_is_not_known_takes_no_operation = refl

-- ---- instances: row 4 is a dog with name, toys and age, row 0 the gate

a_field_gets_a_scalar : map (at_row 4) ((0x80 ∷ 0xa1 ∷ 0x61 ∷ []) ∷ (0x00 ∷ 0xa1 ∷ 0x61 ∷ []) ∷ (0xc0 ∷ 0xa1 ∷ 0x61 ∷ []) ∷ (0x82 ∷ 0xff ∷ []) ∷ [])
    ≡ doing (Add (Field 0) (Scalar kind.Str (Str (codes "a")))) 3 ∷ doing (Replace (Field 0) (Scalar kind.Str (Str (codes "a")))) 3
    ∷ doing (DeleteAdd (Field 0) (Scalar kind.Str (Str (codes "a")))) 3 ∷ doing (Add (Field 2) (Scalar kind.U8 (Whole (pos 255)))) 2 ∷ []
unfolding reading
a_field_gets_a_scalar = refl

-- behind the operation's byte `ff` is the number -1
a_byte_255_behind_an_operation_is_no_switch : at_row 0 (0x84 ∷ 0xff ∷ []) ≡ doing (Add (Field 4) (Scalar kind.Number (Whole (negsuc 0)))) 2
unfolding reading
a_byte_255_behind_an_operation_is_no_switch = refl

a_deleted_field_has_no_value : at_row 4 (0x42 ∷ 0xff ∷ []) ≡ doing (Delete (Field 2)) 1
unfolding reading
a_deleted_field_has_no_value = refl

-- the fourth byte has the greatest index, under REPLACE
a_field_that_the_class_lacks_is_unknown : map (at_row 4) ((0x83 ∷ []) ∷ (0x43 ∷ []) ∷ (0xfe ∷ []) ∷ (0x3f ∷ []) ∷ [])
    ≡ replicate 4 (Err (fault.UnknownField 0))
unfolding reading
a_field_that_the_class_lacks_is_unknown = refl

a_scalar_has_its_faults : map (at_row 4) ((0x80 ∷ []) ∷ (0x80 ∷ 0x05 ∷ []) ∷ (0x80 ∷ 0xa1 ∷ 0xff ∷ []) ∷ (0x02 ∷ []) ∷ [])
    ≡ Err (fault.Scalar (Short 1)) ∷ Err (fault.Scalar (BadForm 1)) ∷ Err (fault.Scalar (BadText 1)) ∷ Err (fault.Scalar (Short 1)) ∷ []
unfolding reading
a_scalar_has_its_faults = refl

a_number_has_its_faults : map (at_row 0) ((0x84 ∷ 0xcb ∷ []) ∷ (0x84 ∷ 0xcf ∷ []) ∷ (0x84 ∷ 0xce ∷ 0xff ∷ 0xff ∷ 0xff ∷ 0xff ∷ [])
    ∷ (0x84 ∷ 0xd1 ∷ 0x00 ∷ []) ∷ [])
    ≡ Err (fault.Scalar (Fractional 1)) ∷ Err (fault.Scalar (TooWide 1)) ∷ Err (fault.Scalar (TooWide 1)) ∷ Err (fault.Scalar (Short 3)) ∷ []
unfolding reading
a_number_has_its_faults = refl

-- ---- collections as values: row 6 has the home of a dog's toys

a_collection_of_the_home_or_a_new_one_is_put : map (at_row 4) ((0x81 ∷ 0x06 ∷ []) ∷ (0x81 ∷ 0x09 ∷ []) ∷ (0x01 ∷ 0x09 ∷ []) ∷ (0xc1 ∷ 0x06 ∷ []) ∷ [])
    ≡ doing (Add (Field 1) (Coll 6)) 2 ∷ doing (Add (Field 1) (Coll 9)) 2 ∷ doing (Replace (Field 1) (Coll 9)) 2
    ∷ doing (DeleteAdd (Field 1) (Coll 6)) 2 ∷ []
unfolding reading
a_collection_of_the_home_or_a_new_one_is_put = refl

a_row_of_another_home_is_of_the_wrong_class : map (at_row 4) ((0x81 ∷ 0x02 ∷ []) ∷ (0x81 ∷ 0x04 ∷ []) ∷ [])
    ≡ Err (fault.WrongClass 1) ∷ Err (fault.WrongClass 1) ∷ []
unfolding reading
a_row_of_another_home_is_of_the_wrong_class = refl

a_reference_is_not_negative : map (at_row 4) ((0x81 ∷ 0xff ∷ []) ∷ (0x81 ∷ []) ∷ [])
    ≡ Err (fault.Scalar (BadForm 1)) ∷ Err (fault.Scalar (Short 1)) ∷ []
unfolding reading
a_reference_is_not_negative = refl

-- a collection has no type mark: the byte 213 is the next operation's
a_collection_has_no_type_mark : at_row 4 (0x81 ∷ 0x09 ∷ 0xd5 ∷ 0x01 ∷ []) ≡ doing (Add (Field 1) (Coll 9)) 2
unfolding reading
a_collection_has_no_type_mark = refl

-- ---- instances as values: the gate's field 3 is a pet, row 5 is one, row 4 is a dog

an_instance_is_put_with_a_mark_or_without : map (at_row 0) ((0x83 ∷ 0x05 ∷ []) ∷ (0x83 ∷ 0x05 ∷ 0xd5 ∷ 0x01 ∷ []) ∷ (0x83 ∷ 0x04 ∷ 0xd5 ∷ 0x02 ∷ [])
    ∷ (0xc3 ∷ 0x05 ∷ 0xd5 ∷ 0x01 ∷ []) ∷ [])
    ≡ doing (Add (Field 3) (Struct 5 None)) 2 ∷ doing (Add (Field 3) (Struct 5 (Some 1))) 4 ∷ doing (Add (Field 3) (Struct 4 (Some 2))) 4
    ∷ doing (DeleteAdd (Field 3) (Struct 5 (Some 1))) 4 ∷ []
unfolding reading
an_instance_is_put_with_a_mark_or_without = refl

a_new_instance_is_of_the_declared_class_or_a_descendant : map (at_row 0) ((0x83 ∷ 0x09 ∷ []) ∷ (0x83 ∷ 0x09 ∷ 0xd5 ∷ 0x01 ∷ [])
    ∷ (0x83 ∷ 0x09 ∷ 0xd5 ∷ 0x02 ∷ []) ∷ [])
    ≡ doing (Add (Field 3) (Struct 9 None)) 2 ∷ doing (Add (Field 3) (Struct 9 (Some 1))) 4 ∷ doing (Add (Field 3) (Struct 9 (Some 2))) 4 ∷ []
unfolding reading
a_new_instance_is_of_the_declared_class_or_a_descendant = refl

-- the type number of 204, 2 has two bytes
a_mark_is_a_number_of_any_form : at_row 0 (0x83 ∷ 0x09 ∷ 0xd5 ∷ 0xcc ∷ 0x02 ∷ []) ≡ doing (Add (Field 3) (Struct 9 (Some 2))) 5
unfolding reading
a_mark_is_a_number_of_any_form = refl

a_mark_of_no_descendant_is_of_the_wrong_class : at_row 0 (0x83 ∷ 0x09 ∷ 0xd5 ∷ 0x00 ∷ []) ≡ Err (fault.WrongClass 1)
unfolding reading
a_mark_of_no_descendant_is_of_the_wrong_class = refl

-- a dog marked as a pet, and a pet marked as a dog
a_mark_gives_a_known_rows_own_class : map (at_row 0) ((0x83 ∷ 0x04 ∷ 0xd5 ∷ 0x01 ∷ []) ∷ (0x83 ∷ 0x05 ∷ 0xd5 ∷ 0x02 ∷ []) ∷ [])
    ≡ Err (fault.WrongClass 1) ∷ Err (fault.WrongClass 1) ∷ []
unfolding reading
a_mark_gives_a_known_rows_own_class = refl

a_mark_that_is_no_class_is_refused_at_its_number : map (at_row 0) ((0x83 ∷ 0x09 ∷ 0xd5 ∷ 0x03 ∷ []) ∷ (0x83 ∷ 0x09 ∷ 0xd5 ∷ 0xff ∷ []) ∷ [])
    ≡ Err (fault.UnknownType 3) ∷ Err (fault.UnknownType 3) ∷ []
unfolding reading
a_mark_that_is_no_class_is_refused_at_its_number = refl

a_mark_needs_a_number : map (at_row 0) ((0x83 ∷ 0x09 ∷ 0xd5 ∷ []) ∷ (0x83 ∷ 0x09 ∷ 0xd5 ∷ 0xca ∷ []) ∷ [])
    ≡ Err (fault.Scalar (Short 3)) ∷ Err (fault.Scalar (Fractional 3)) ∷ []
unfolding reading
a_mark_needs_a_number = refl

-- a map and the gate itself are no pets; this is tested before the mark
a_known_row_is_of_the_declared_class :
    map (at_row 0) ((0x83 ∷ 0x01 ∷ []) ∷ (0x83 ∷ 0x00 ∷ []) ∷ (0x03 ∷ 0x01 ∷ []) ∷ (0x83 ∷ 0x01 ∷ 0xd5 ∷ 0x03 ∷ []) ∷ [])
    ≡ replicate 4 (Err (fault.WrongClass 1))
unfolding reading
a_known_row_is_of_the_declared_class = refl

-- REPLACE adds no instance and has no mark: the byte 213 is the next operation's
a_replaced_link_is_known : map (at_row 0) ((0x03 ∷ 0x05 ∷ 0xd5 ∷ 0x01 ∷ []) ∷ (0x03 ∷ 0x09 ∷ []) ∷ (0x03 ∷ 0xff ∷ []) ∷ [])
    ≡ doing (Replace (Field 3) (Struct 5 None)) 2 ∷ Err (fault.UnknownRef 1) ∷ Err (fault.Scalar (BadForm 1)) ∷ []
unfolding reading
a_replaced_link_is_known = refl

-- ---- maps: row 1 holds pets

a_map_item_has_its_key_under_add : map (at_row 1) ((0x80 ∷ 0x03 ∷ 0xa1 ∷ 0x61 ∷ 0x05 ∷ 0xd5 ∷ 0x01 ∷ []) ∷ (0xc0 ∷ 0x03 ∷ 0xa1 ∷ 0x61 ∷ 0x05 ∷ [])
    ∷ (0x00 ∷ 0x02 ∷ 0x05 ∷ []) ∷ (0x40 ∷ 0x02 ∷ []) ∷ (0x0a ∷ []) ∷ [])
    ≡ doing (Add (Named 3 (codes "a")) (Struct 5 (Some 1))) 7 ∷ doing (DeleteAdd (Named 3 (codes "a")) (Struct 5 None)) 5
    ∷ doing (Replace (Item 2) (Struct 5 None)) 3 ∷ doing (Delete (Item 2)) 2 ∷ doing Clear 1 ∷ []
unfolding reading
a_map_item_has_its_key_under_add = refl

a_map_item_has_its_faults : map (at_row 1)
    ((0x80 ∷ 0xff ∷ []) ∷ (0x80 ∷ []) ∷ (0x80 ∷ 0x03 ∷ 0x05 ∷ []) ∷ (0x80 ∷ 0x03 ∷ 0xa2 ∷ 0x61 ∷ []) ∷ (0x80 ∷ 0x03 ∷ 0xa1 ∷ 0xff ∷ [])
    ∷ (0x80 ∷ 0x03 ∷ 0xa0 ∷ []) ∷ (0x00 ∷ 0x02 ∷ 0x09 ∷ []) ∷ [])
    ≡ Err (fault.Scalar (BadForm 1)) ∷ Err (fault.Scalar (Short 1)) ∷ Err (fault.Scalar (BadForm 2)) ∷ Err (fault.Scalar (Short 4))
    ∷ Err (fault.Scalar (BadText 2)) ∷ Err (fault.Scalar (Short 3)) ∷ Err (fault.UnknownRef 2) ∷ []
unfolding reading
a_map_item_has_its_faults = refl

-- ---- sets and arrays: row 3 holds texts, row 6 numbers

a_set_item_has_no_key : map (at_row 3) ((0x80 ∷ 0x04 ∷ 0xa1 ∷ 0x61 ∷ []) ∷ (0xc0 ∷ 0x04 ∷ 0xa1 ∷ 0x61 ∷ []) ∷ (0x00 ∷ 0x01 ∷ 0xa1 ∷ 0x61 ∷ [])
    ∷ (0x40 ∷ 0x01 ∷ []) ∷ (0x0a ∷ []) ∷ [])
    ≡ doing (Add (Item 4) (Scalar kind.Str (Str (codes "a")))) 4 ∷ doing (DeleteAdd (Item 4) (Scalar kind.Str (Str (codes "a")))) 4
    ∷ doing (Replace (Item 1) (Scalar kind.Str (Str (codes "a")))) 4 ∷ doing (Delete (Item 1)) 2 ∷ doing Clear 1 ∷ []
unfolding reading
a_set_item_has_no_key = refl

-- row 1 is a set of cards, row 2 a card, and row 0 is none
a_set_of_instances_takes_links :
    map (λ bs. step_at z.cards (ex.row 0 (row.Struct 0 []) ∷ ex.row 1 (row.Set (ex.home 0 2) []) ∷ ex.row 2 (row.Struct 1 []) ∷ []) 1 bs 0)
    ((0x80 ∷ 0x00 ∷ 0x02 ∷ 0xd5 ∷ 0x01 ∷ []) ∷ (0x00 ∷ 0x00 ∷ 0x09 ∷ []) ∷ (0x80 ∷ 0x00 ∷ 0x00 ∷ []) ∷ [])
    ≡ doing (Add (Item 0) (Struct 2 (Some 1))) 5 ∷ Err (fault.UnknownRef 2) ∷ Err (fault.WrongClass 2) ∷ []
unfolding reading
a_set_of_instances_takes_links = refl

an_array_item_has_a_position : map (at_row 6) ((0x80 ∷ 0x00 ∷ 0x07 ∷ []) ∷ (0xc0 ∷ 0x01 ∷ 0x07 ∷ []) ∷ (0x00 ∷ 0x05 ∷ 0x07 ∷ []) ∷ (0x40 ∷ 0x09 ∷ [])
    ∷ (0x0a ∷ []) ∷ [])
    ≡ doing (Add (Item 0) (Scalar kind.Number (Whole (pos 7)))) 3 ∷ doing (DeleteAdd (Item 1) (Scalar kind.Number (Whole (pos 7)))) 3
    ∷ doing (Replace (Item 5) (Scalar kind.Number (Whole (pos 7)))) 3 ∷ doing (Delete (Item 9)) 2 ∷ doing Clear 1 ∷ []
unfolding reading
an_array_item_has_a_position = refl

a_position_is_not_negative : map (at_row 6) ((0x40 ∷ 0xff ∷ []) ∷ (0x40 ∷ []) ∷ [])
    ≡ Err (fault.Scalar (BadForm 1)) ∷ Err (fault.Scalar (Short 1)) ∷ []
unfolding reading
a_position_is_not_negative = refl

-- ---- operations by reference: row 2 is an array of pets

-- the number before the value is only read
an_instance_is_added_by_reference : map (at_row 2) ((0x81 ∷ 0x05 ∷ 0x05 ∷ 0xd5 ∷ 0x01 ∷ []) ∷ (0x81 ∷ 0x07 ∷ 0x05 ∷ [])
    ∷ (0x81 ∷ 0x09 ∷ 0x09 ∷ 0xd5 ∷ 0x02 ∷ []) ∷ [])
    ≡ doing (AddByRef (Struct 5 (Some 1))) 5 ∷ doing (AddByRef (Struct 5 None)) 3 ∷ doing (AddByRef (Struct 9 (Some 2))) 5 ∷ []
unfolding reading
an_instance_is_added_by_reference = refl

an_instance_added_by_reference_has_its_faults : map (at_row 2)
    ((0x81 ∷ 0xff ∷ 0x05 ∷ []) ∷ (0x81 ∷ []) ∷ (0x81 ∷ 0x05 ∷ []) ∷ (0x81 ∷ 0x05 ∷ 0xff ∷ []) ∷ (0x81 ∷ 0x05 ∷ 0x01 ∷ [])
    ∷ (0x81 ∷ 0x05 ∷ 0x05 ∷ 0xd5 ∷ 0x02 ∷ []) ∷ (0x81 ∷ 0x05 ∷ 0x05 ∷ 0xd5 ∷ 0x03 ∷ []) ∷ [])
    ≡ Err (fault.Scalar (BadForm 1)) ∷ Err (fault.Scalar (Short 1)) ∷ Err (fault.Scalar (Short 2)) ∷ Err (fault.Scalar (BadForm 2))
    ∷ Err (fault.WrongClass 2) ∷ Err (fault.WrongClass 2) ∷ Err (fault.UnknownType 4) ∷ []
unfolding reading
an_instance_added_by_reference_has_its_faults = refl

-- an unknown number too
an_instance_is_deleted_by_reference : map (at_row 2) ((0x21 ∷ 0x05 ∷ []) ∷ (0x21 ∷ 0x09 ∷ []) ∷ (0x21 ∷ 0xff ∷ []) ∷ (0x21 ∷ []) ∷ [])
    ≡ doing (DeleteByRef 5) 2 ∷ doing (DeleteByRef 9) 2 ∷ Err (fault.Scalar (BadForm 1)) ∷ Err (fault.Scalar (Short 1)) ∷ []
unfolding reading
an_instance_is_deleted_by_reference = refl

-- a map of instances, an array of numbers, a set
only_arrays_of_instances_take_references : map (λ r. map (at_row r) ((0x81 ∷ 0x05 ∷ 0x05 ∷ []) ∷ (0x21 ∷ 0x05 ∷ []) ∷ [])) (1 ∷ 6 ∷ 3 ∷ [])
    ≡ replicate 3 (Err (fault.UnknownOp 0 129) ∷ Err (fault.UnknownOp 0 33) ∷ [])
unfolding reading
only_arrays_of_instances_take_references = refl

-- on an instance the same bytes are operations on the fields 1 and 33
on_an_instance_these_bytes_are_fields : map (at_row 4) ((0x81 ∷ 0x06 ∷ []) ∷ (0x21 ∷ 0x05 ∷ []) ∷ (0x0a ∷ []) ∷ (0x0f ∷ []) ∷ [])
    ≡ doing (Add (Field 1) (Coll 6)) 2 ∷ Err (fault.UnknownField 0) ∷ Err (fault.UnknownField 0) ∷ Err (fault.UnknownField 0) ∷ []
unfolding reading
on_an_instance_these_bytes_are_fields = refl

moving_and_reversing_are_unsupported : map (λ r. map (at_row r) ((0x0f ∷ []) ∷ (0x20 ∷ []) ∷ (0x60 ∷ []) ∷ (0xa0 ∷ []) ∷ [])) (1 ∷ 2 ∷ 3 ∷ [])
    ≡ replicate 3 (Err (fault.Unsupported 0 15) ∷ Err (fault.Unsupported 0 32) ∷ Err (fault.Unsupported 0 96) ∷ Err (fault.Unsupported 0 160) ∷ [])
unfolding reading
moving_and_reversing_are_unsupported = refl

any_other_byte_is_unknown : map (λ r. map (at_row r) ((0x01 ∷ []) ∷ (0x7f ∷ []) ∷ (0xfe ∷ []) ∷ [])) (1 ∷ 2 ∷ 3 ∷ [])
    ≡ replicate 3 (Err (fault.UnknownOp 0 1) ∷ Err (fault.UnknownOp 0 127) ∷ Err (fault.UnknownOp 0 254) ∷ [])
unfolding reading
any_other_byte_is_unknown = refl

-- a row whose home no class declares
a_collection_of_no_home_takes_no_item : step_at z.zoo (ex.row 7 (row.Array (ex.home 2 1) []) ∷ []) 7 (0x80 ∷ 0x00 ∷ 0x05 ∷ []) 0
    ≡ Err (fault.UnknownOp 0 128)
unfolding reading
a_collection_of_no_home_takes_no_item = refl
