-- What steps mean against the rows known so far, and reading as it goes on: each case by an example over the zoo.
use Rattle.std.specs.Prelude.{◌≡◌, ℕ, List, [], ◌∷◌, ◌++◌, map, pos, true, false, Option, Some, None, Ok, Err, codes, replicate, refl}
use Rattle.schema_model.specs.declared.value.Value.TheVariants.{Whole, Str, Truth, Link}
use Rattle.schema_model.specs.declared.scalar.ScalarKind.TheVariants as kind
use Rattle.schema_model.specs.declared.class.Item.TheVariants as item
use Rattle.state_model.specs.declared.row.Row.TheVariants as row
use Rattle.state_model.specs.declared.row.RowEntry.{RowEntry}
use Rattle.state_model.specs.Rows.{kinds_of}
use Rattle.state_model.specs.declared.place.Expected.TheVariants.{Item as AnItem, Collection as ACollection}
use Rattle.state_model.proofs.Examples as ex
use Rattle.state_model.proofs.Zoo as z
use Rattle.wire_model.specs.declared.op.OpKey.TheVariants.{Field, Item, Named}
use Rattle.wire_model.specs.declared.op.OpValue.TheVariants as carried
use Rattle.wire_model.specs.declared.op.Op.TheVariants as op
use Rattle.wire_model.specs.declared.op.Step.TheVariants.{Turn, Do}
use Rattle.wire_model.specs.declared.fault.OpFault.{OpFault}
use Rattle.wire_model.specs.declared.fault.OpFault.TheVariants as fault
use Rattle.wire_model.specs.Edits.{Carried, Plain, Linked, AWhole, AText, ATruth, Edit, Add, Replace, DeleteAdd, Delete, Clear, AddByRef, DeleteByRef}
use Rattle.wire_model.specs.Grammar.{mark_fits, has_mark, link_value, with_value, has_add_bit, is_map, is_array_row, ref_step, is_unsupported, is_item_code, is_ref_code, scalar_of, declared_class, new_instance, new_collection, resolved_value, expects_at, resolved, known_after, PlacedEdit, ReadBlock, Readings, Progress, after_step, advanced, reading_start, read_blocks}
use Rattle.wire_model.proofs.Opened.{reading}

abbrev known : List RowEntry
known = kinds_of z.zoo_rows

-- ---- tests of bytes

a_mark_follows_where_the_operation_adds_and_the_byte_is_213 :
    has_mark true (0x05 ∷ 0xd5 ∷ []) 1 ∷ has_mark true (0x05 ∷ 0xd4 ∷ []) 1 ∷ has_mark true (0x05 ∷ []) 1 ∷ has_mark false (0x05 ∷ 0xd5 ∷ []) 1 ∷ []
    ≡ true ∷ false ∷ false ∷ false ∷ []
a_mark_follows_where_the_operation_adds_and_the_byte_is_213 = refl

-- a descendant, the class itself, no descendant; then against a known pet, dog and map
a_mark_fits_the_declared_class_and_a_known_row :
    map (mark_fits z.zoo 1 None) (2 ∷ 1 ∷ 0 ∷ []) ++ map (λ r. mark_fits z.zoo 1 (Some r) 2) (z.tom ∷ z.rex ∷ z.pets ∷ [])
    ++ mark_fits z.zoo 1 (Some z.gate) 0 ∷ []
    ≡ true ∷ true ∷ false ∷ false ∷ true ∷ false ∷ false ∷ []
a_mark_fits_the_declared_class_and_a_known_row = refl

the_top_bits_choose_the_operation : map (λ c. with_value c (Field 1) (carried.Coll 6)) (128 ∷ 192 ∷ 0 ∷ [])
    ≡ op.Add (Field 1) (carried.Coll 6) ∷ op.DeleteAdd (Field 1) (carried.Coll 6) ∷ op.Replace (Field 1) (carried.Coll 6) ∷ []
the_top_bits_choose_the_operation = refl

two_codes_have_the_add_bit : map has_add_bit (128 ∷ 192 ∷ 0 ∷ 64 ∷ []) ≡ true ∷ true ∷ false ∷ false ∷ []
two_codes_have_the_add_bit = refl

four_codes_have_an_item_number : map is_item_code (128 ∷ 0 ∷ 64 ∷ 192 ∷ 10 ∷ 33 ∷ 129 ∷ []) ≡ true ∷ true ∷ true ∷ true ∷ false ∷ false ∷ false ∷ []
four_codes_have_an_item_number = refl

four_codes_are_unsupported : map is_unsupported (15 ∷ 32 ∷ 96 ∷ 160 ∷ 10 ∷ 128 ∷ []) ≡ true ∷ true ∷ true ∷ true ∷ false ∷ false ∷ []
four_codes_are_unsupported = refl

-- the parade, then the pets, the toys, and a set of pets
two_codes_go_by_reference_on_arrays_of_instances :
    map (is_ref_code z.zoo z.parade (ex.home 0 1)) (129 ∷ 33 ∷ 128 ∷ []) ++ is_ref_code z.zoo z.pets (ex.home 0 0) 129
    ∷ is_ref_code z.zoo z.toys (ex.home 1 1) 129 ∷ is_ref_code z.zoo z.signs (ex.home 0 1) 33 ∷ []
    ≡ true ∷ true ∷ false ∷ false ∷ false ∷ false ∷ []
two_codes_go_by_reference_on_arrays_of_instances = refl

each_shape_is_told_apart : map is_map (z.tom ∷ z.pets ∷ z.toys ∷ z.signs ∷ []) ++ map is_array_row (z.tom ∷ z.pets ∷ z.toys ∷ z.signs ∷ [])
    ≡ false ∷ true ∷ false ∷ false ∷ false ∷ false ∷ true ∷ false ∷ []
each_shape_is_told_apart = refl

-- these two don't come from bytes: a scalar is read otherwise, and an array of instances has a declared home
a_scalar_is_no_link : link_value z.zoo known true [] 4 (AnItem (item.Scalar kind.Number)) (5, 6) ≡ Err (fault.WrongClass 4)
a_scalar_is_no_link = refl

nothing_goes_by_reference_where_nothing_is_declared : ref_step z.zoo known [] 4 33 None (5, 6) ≡ Err (fault.UnknownOp 4 33)
nothing_goes_by_reference_where_nothing_is_declared = refl

-- ---- what a value leads to

a_value_is_carried_as_a_scalar : map scalar_of (Whole (pos 3) ∷ Str (codes "a") ∷ Truth true ∷ Link 5 ∷ [])
    ≡ AWhole (pos 3) ∷ AText (codes "a") ∷ ATruth true ∷ AWhole (pos 5) ∷ []
a_value_is_carried_as_a_scalar = refl

only_a_place_of_instances_declares_a_class : map declared_class (Some (AnItem (item.Class 2)) ∷ Some (AnItem (item.Scalar kind.Str))
    ∷ Some (ACollection (ex.home 0 1)) ∷ None ∷ [])
    ≡ 2 ∷ 0 ∷ 0 ∷ 0 ∷ []
only_a_place_of_instances_declares_a_class = refl

a_new_instance_is_of_the_marked_class_or_the_declared_one : map (λ m. new_instance m (Some (AnItem (item.Class 1)))) (Some 2 ∷ None ∷ [])
    ≡ row.Struct 2 [] ∷ row.Struct 1 [] ∷ []
a_new_instance_is_of_the_marked_class_or_the_declared_one = refl

a_new_collection_has_the_home_that_is_expected : map (λ h. new_collection z.zoo (Some (ACollection h))) (ex.home 0 0 ∷ ex.home 0 1 ∷ ex.home 0 2
    ∷ ex.home 2 1 ∷ [])
    ≡ row.Map (ex.home 0 0) [] ∷ row.Array (ex.home 0 1) [] ∷ row.Set (ex.home 0 2) [] ∷ row.Array (ex.home 2 1) [] ∷ []
a_new_collection_has_the_home_that_is_expected = refl

-- what no bytes give
a_new_collection_is_expected_by_a_place_of_collections : map (new_collection z.zoo) (Some (AnItem (item.Class 2)) ∷ None ∷ [])
    ≡ row.Struct 0 [] ∷ row.Struct 0 [] ∷ []
a_new_collection_is_expected_by_a_place_of_collections = refl

-- a known row keeps its kind, an unknown one gets the mark's or the declared one
a_link_leads_to_a_row_of_its_kind : map (resolved_value z.zoo known (Some (AnItem (item.Class 1)))) (carried.Struct 4 (Some 2) ∷ carried.Struct 4 None
    ∷ carried.Struct 9 (Some 2) ∷ carried.Struct 9 None ∷ [])
    ≡ Linked 4 (row.Struct 2 []) ∷ Linked 4 (row.Struct 2 []) ∷ Linked 9 (row.Struct 2 []) ∷ Linked 9 (row.Struct 1 []) ∷ []
a_link_leads_to_a_row_of_its_kind = refl

-- reading refuses a known row of another home, such as row 1; here it would stay what it is
a_collection_leads_to_a_row_of_its_home : map (resolved_value z.zoo known (Some (ACollection (ex.home 0 2)))) (carried.Coll 3 ∷ carried.Coll 9
    ∷ carried.Coll 1 ∷ [])
    ≡ Linked 3 (row.Set (ex.home 0 2) []) ∷ Linked 9 (row.Set (ex.home 0 2) []) ∷ Linked 1 (row.Map (ex.home 0 0) []) ∷ []
a_collection_leads_to_a_row_of_its_home = refl

a_scalar_leads_nowhere : resolved_value z.zoo known None (carried.Scalar kind.Bool (Truth false)) ≡ Plain kind.Bool (ATruth false)
a_scalar_leads_nowhere = refl

-- ---- what an operation means

a_key_expects_what_its_place_is_declared_to_hold :
    expects_at z.zoo z.gate (Field 3) ∷ expects_at z.zoo z.gate (Field 6) ∷ expects_at z.zoo z.gate (Item 3) ∷ expects_at z.zoo z.pets (Item 3)
    ∷ expects_at z.zoo z.pets (Named 3 []) ∷ expects_at z.zoo z.toys (Item 0) ∷ expects_at z.zoo z.signs (Field 0) ∷ []
    ≡ Some (AnItem (item.Class 1)) ∷ None ∷ None ∷ Some (AnItem (item.Class 1)) ∷ Some (AnItem (item.Class 1))
    ∷ Some (AnItem (item.Scalar kind.Number)) ∷ Some (AnItem (item.Scalar kind.Str)) ∷ []
a_key_expects_what_its_place_is_declared_to_hold = refl

operations_on_an_instance_are_resolved : map (resolved z.zoo known z.gate)
    (op.Add (Field 3) (carried.Struct 9 None) ∷ op.Replace (Field 3) (carried.Struct 5 None) ∷ op.Replace (Field 2) (carried.Coll 9)
    ∷ op.DeleteAdd (Field 1) (carried.Coll 9) ∷ op.Delete (Field 4) ∷ [])
    ≡ Add (Field 3) (Linked 9 (row.Struct 1 [])) ∷ Replace (Field 3) (Linked 5 (row.Struct 1 []))
    ∷ Replace (Field 2) (Linked 9 (row.Set (ex.home 0 2) []))
    ∷ DeleteAdd (Field 1) (Linked 9 (row.Array (ex.home 0 1) [])) ∷ Delete (Field 4) ∷ []
operations_on_an_instance_are_resolved = refl

operations_on_an_array_are_resolved : map (resolved z.zoo known z.parade) (op.Clear ∷ op.AddByRef (carried.Struct 9 None) ∷ op.DeleteByRef 5 ∷ [])
    ≡ Clear ∷ AddByRef (Linked 9 (row.Struct 1 [])) ∷ DeleteByRef 5 ∷ []
operations_on_an_array_are_resolved = refl

-- a dog 9
abbrev a_dog : Carried
a_dog = Linked 9 (row.Struct 2 [])

a_link_makes_its_row_known : map (λ e. known_after e (ex.row 0 (row.Struct 0 []) ∷ [])) (Add (Field 3) a_dog ∷ Replace (Field 3) a_dog
    ∷ DeleteAdd (Field 3) a_dog ∷ AddByRef a_dog ∷ [])
    ≡ replicate 4 (ex.row 0 (row.Struct 0 []) ∷ ex.row 9 (row.Struct 2 []) ∷ [])
a_link_makes_its_row_known = refl

nothing_else_makes_a_row_known : map (λ e. known_after e (ex.row 0 (row.Struct 0 []) ∷ [])) (Add (Field 4) (Plain kind.Number (AWhole (pos 9)))
    ∷ Delete (Field 3) ∷ Clear ∷ DeleteByRef 9 ∷ [])
    ≡ replicate 4 (ex.row 0 (row.Struct 0 []) ∷ [])
nothing_else_makes_a_row_known = refl

-- ---- reading as it goes on

abbrev placed : ℕ → Edit → PlacedEdit
placed n e = record { edit = e; number_place = n }

abbrev block : ℕ → List PlacedEdit → ReadBlock
block n es = record { holder = n; edits = es }

abbrev read : List ℕ → Readings
read bytes = read_blocks z.zoo z.zoo_rows bytes

abbrev readings : List ReadBlock → Option OpFault → Readings
readings bs f = record { blocks = bs; fault = f }

reading_begins_at_row_0 : reading_start (ex.one_player 7)
    ≡ record {
      known = ex.row 0 (row.Struct 0 []) ∷ ex.row 1 (row.Map (ex.home 0 0) []) ∷ ex.row 2 (row.Struct 1 [])
          ∷ [];
      done = [];
      block = block 0 [];
      at = 0;
      fault = None;
    }
reading_begins_at_row_0 = refl

no_bytes_are_an_empty_block : read [] ≡ readings (block 0 [] ∷ []) None
no_bytes_are_an_empty_block = refl

-- the gate gets a new dog 9, whose age is set; then row 4 loses its name. The place is behind the operation's byte
a_new_row_is_known_by_its_mark : read (0x83 ∷ 0x09 ∷ 0xd5 ∷ 0x02 ∷ 0xff ∷ 0x09 ∷ 0x82 ∷ 0x03 ∷ 0xff ∷ 0x04 ∷ 0x40 ∷ [])
    ≡ readings (block 0 (placed 1 (Add (Field 3) a_dog) ∷ []) ∷ block 9 (placed 7 (Add (Field 2) (Plain kind.U8 (AWhole (pos 3)))) ∷ [])
    ∷ block 4 (placed 11 (Delete (Field 0)) ∷ []) ∷ []) None
unfolding reading
a_new_row_is_known_by_its_mark = refl

-- as a pet it has no age
a_new_row_is_of_the_declared_class_without_a_mark : read (0x83 ∷ 0x09 ∷ 0xff ∷ 0x09 ∷ 0x82 ∷ 0x03 ∷ [])
    ≡ readings (block 0 (placed 1 (Add (Field 3) (Linked 9 (row.Struct 1 []))) ∷ []) ∷ block 9 [] ∷ []) (Some (fault.UnknownField 4))
unfolding reading
a_new_row_is_of_the_declared_class_without_a_mark = refl

a_new_collection_is_known_by_its_home : read (0x81 ∷ 0x09 ∷ 0xff ∷ 0x09 ∷ 0x21 ∷ 0x05 ∷ [])
    ≡ readings (block 0 (placed 1 (Add (Field 1) (Linked 9 (row.Array (ex.home 0 1) []))) ∷ []) ∷ block 9 (placed 5 (DeleteByRef 5) ∷ []) ∷ []) None
unfolding reading
a_new_collection_is_known_by_its_home = refl

-- what stands before the fault stays, what stands behind it isn't read
reading_ends_at_the_first_fault : read (0x44 ∷ 0x46 ∷ 0x43 ∷ 0x47 ∷ [])
    ≡ readings (block 0 (placed 1 (Delete (Field 4)) ∷ []) ∷ []) (Some (fault.UnknownField 1))
unfolding reading
reading_ends_at_the_first_fault = refl

several_operations_join_one_block : read (0x44 ∷ 0x43 ∷ 0x80 ∷ 0x01 ∷ [])
    ≡ readings (block 0
    (placed 1 (Delete (Field 4)) ∷ placed 2 (Delete (Field 3)) ∷ placed 3 (Add (Field 0) (Linked 1 (row.Map (ex.home 0 0) []))) ∷ []) ∷ []) None
unfolding reading
several_operations_join_one_block = refl

-- ---- one step of reading

-- at the fifth byte, where row 4 is the holder
abbrev so_far : Option OpFault → Progress
so_far f = record { known = known; done = block 0 [] ∷ []; block = block 4 []; at = 4; fault = f }

a_fault_stops_reading_where_it_stands : after_step z.zoo (so_far None) (Err (fault.UnknownField 4)) ≡ so_far (Some (fault.UnknownField 4))
a_fault_stops_reading_where_it_stands = refl

a_switch_ends_a_block : after_step z.zoo (so_far None) (Ok (Turn 6, 7))
    ≡ record { known = known; done = block 0 [] ∷ block 4 [] ∷ []; block = block 6 []; at = 7; fault = None }
a_switch_ends_a_block = refl

an_operation_joins_its_block : after_step z.zoo (so_far None) (Ok (Do (op.Delete (Field 2)), 5))
    ≡ record { known = known; done = block 0 [] ∷ []; block = block 4 (placed 5 (Delete (Field 2)) ∷ []); at = 5; fault = None }
an_operation_joins_its_block = refl

-- reading never comes to a holder that isn't known; it would be taken as the first class
an_unknown_holder_is_of_the_first_class : after_step z.zoo (record { known = []; done = []; block = block 9 []; at = 4; fault = None })
    (Ok (Do (op.Add (Field 3) (carried.Struct 5 None)), 6))
    ≡ record {
      known = ex.row 5 (row.Struct 1 []) ∷ [];
      done = [];
      block = block 9 (placed 5 (Add (Field 3) (Linked 5 (row.Struct 1 [])))
          ∷ []);
      at = 6;
      fault = None;
    }
an_unknown_holder_is_of_the_first_class = refl

nothing_is_read_past_the_end_or_after_a_fault :
    advanced z.zoo (0x44 ∷ 0x43 ∷ 0x40 ∷ 0x40 ∷ []) (so_far None) ∷ advanced z.zoo (replicate 9 0x40) (so_far (Some (fault.UnknownField 4))) ∷ []
    ≡ so_far None ∷ so_far (Some (fault.UnknownField 4)) ∷ []
unfolding reading
nothing_is_read_past_the_end_or_after_a_fault = refl
