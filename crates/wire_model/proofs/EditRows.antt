-- Operations as they are told and as bytes: every operation, key and value by an example.
use Rattle.std.specs.Prelude.{◌≡◌, ℕ, List, [], ◌∷◌, map, pos, negsuc, true, false, Some, None, codes, refl}
use Rattle.schema_model.specs.declared.value.Value.TheVariants as value
use Rattle.schema_model.specs.declared.scalar.ScalarKind.TheVariants as kind
use Rattle.state_model.specs.declared.row.Row.TheVariants as row
use Rattle.state_model.proofs.Examples as ex
use Rattle.wire_model.specs.declared.op.OpKey.TheVariants.{Field, Item, Named}
use Rattle.wire_model.specs.declared.op.OpValue.{OpValue}
use Rattle.wire_model.specs.declared.op.OpValue.TheVariants as carried
use Rattle.wire_model.specs.declared.op.Op.{Op}
use Rattle.wire_model.specs.declared.op.Op.TheVariants as op
use Rattle.wire_model.specs.declared.op.Block.{Block}
use Rattle.wire_model.specs.Edits.{AWhole, AText, ATruth, Carried, Plain, Linked, Edit, Add, Replace, DeleteAdd, Delete, Clear, AddByRef, DeleteByRef, EditBlock, scalar_value, carried_value, encoded_link, encoded_value, encoded, encoded_block, encoded_blocks}
use Rattle.wire_model.specs.OpBytes.{count_bytes, mark_bytes, value_bytes, head_bytes, link_number, op_bytes, switch_bytes, whole_block, first_block, block_bytes}

-- ---- as they are told

-- a number, an instance 4 of class 2, and a collection 6
abbrev seven : Carried
seven = Plain kind.Number (AWhole (pos 7))

abbrev instance : Carried
instance = Linked 4 (row.Struct 2 [])

abbrev collection : Carried
collection = Linked 6 (row.Array (ex.home 1 1) [])

a_scalar_is_a_value : map scalar_value (AWhole (negsuc 0) ∷ AText (codes "a") ∷ ATruth true ∷ [])
    ≡ value.Whole (negsuc 0) ∷ value.Str (codes "a") ∷ value.Truth true ∷ []
a_scalar_is_a_value = refl

what_is_carried_is_a_value : map carried_value (seven ∷ instance ∷ collection ∷ []) ≡ value.Whole (pos 7) ∷ value.Link 4 ∷ value.Link 6 ∷ []
what_is_carried_is_a_value = refl

a_mark_is_told_where_the_operation_adds :
    encoded_link true 4 (Some 2) ∷ encoded_link false 4 (Some 2) ∷ encoded_link true 6 None ∷ encoded_link false 6 None ∷ [] ≡ carried.Struct 4 (Some 2)
    ∷ carried.Struct 4 None ∷ carried.Coll 6 ∷ carried.Coll 6 ∷ []
a_mark_is_told_where_the_operation_adds = refl

a_value_is_told_by_its_form : map (encoded_value true) (seven ∷ instance ∷ collection ∷ Linked 1 (row.Map (ex.home 0 0) [])
    ∷ Linked 3 (row.Set (ex.home 0 2) []) ∷ [])
    ≡ carried.Scalar kind.Number (value.Whole (pos 7)) ∷ carried.Struct 4 (Some 2) ∷ carried.Coll 6 ∷ carried.Coll 1 ∷ carried.Coll 3 ∷ []
a_value_is_told_by_its_form = refl

a_value_that_is_not_added_has_no_mark : map (encoded_value false) (seven ∷ instance ∷ [])
    ≡ carried.Scalar kind.Number (value.Whole (pos 7)) ∷ carried.Struct 4 None ∷ []
a_value_that_is_not_added_has_no_mark = refl

each_operation_is_told : map encoded
    (Add (Field 3) instance ∷ Replace (Item 2) instance ∷ DeleteAdd (Named 2 (codes "a")) instance ∷ Delete (Item 5) ∷ Clear ∷ AddByRef instance
    ∷ DeleteByRef 4 ∷ [])
    ≡ op.Add (Field 3) (carried.Struct 4 (Some 2)) ∷ op.Replace (Item 2) (carried.Struct 4 None)
    ∷ op.DeleteAdd (Named 2 (codes "a")) (carried.Struct 4 (Some 2))
    ∷ op.Delete (Item 5) ∷ op.Clear ∷ op.AddByRef (carried.Struct 4 (Some 2)) ∷ op.DeleteByRef 4 ∷ []
each_operation_is_told = refl

abbrev edits : ℕ → List Edit → EditBlock
edits n es = record { holder = n; edits = es }

abbrev block : ℕ → List Op → Block
block n os = record { holder = n; ops = os }

a_block_is_told_with_its_holder : encoded_block (edits 6 (Clear ∷ Add (Item 0) seven ∷ []))
    ≡ block 6 (op.Clear ∷ op.Add (Item 0) (carried.Scalar kind.Number (value.Whole (pos 7))) ∷ [])
a_block_is_told_with_its_holder = refl

blocks_are_told_in_order : encoded_blocks (edits 6 (Clear ∷ []) ∷ edits 1 (Delete (Item 2) ∷ []) ∷ [])
    ≡ block 6 (op.Clear ∷ []) ∷ block 1 (op.Delete (Item 2) ∷ []) ∷ []
blocks_are_told_in_order = refl

-- ---- as bytes

a_count_is_a_number : map count_bytes (5 ∷ 128 ∷ 256 ∷ []) ≡ (0x05 ∷ []) ∷ (0xcc ∷ 0x80 ∷ []) ∷ (0xcd ∷ 0x00 ∷ 0x01 ∷ []) ∷ []
a_count_is_a_number = refl

a_mark_is_byte_213_and_the_type : map mark_bytes (None ∷ Some 2 ∷ Some 200 ∷ []) ≡ [] ∷ (0xd5 ∷ 0x02 ∷ []) ∷ (0xd5 ∷ 0xcc ∷ 0xc8 ∷ []) ∷ []
a_mark_is_byte_213_and_the_type = refl

a_value_is_its_spelling_or_its_number : map value_bytes (carried.Scalar kind.U16 (value.Whole (pos 513)) ∷ carried.Struct 4 None
    ∷ carried.Struct 4 (Some 2) ∷ carried.Coll 6 ∷ [])
    ≡ (0x01 ∷ 0x02 ∷ []) ∷ (0x04 ∷ []) ∷ (0x04 ∷ 0xd5 ∷ 0x02 ∷ []) ∷ (0x06 ∷ []) ∷ []
a_value_is_its_spelling_or_its_number = refl

a_head_is_one_byte_for_a_field_alone : map (head_bytes 128) (Field 3 ∷ Item 2 ∷ Named 2 (codes "ab") ∷ [])
    ≡ (0x83 ∷ []) ∷ (0x80 ∷ 0x02 ∷ []) ∷ (0x80 ∷ 0x02 ∷ 0xa2 ∷ 0x61 ∷ 0x62 ∷ []) ∷ []
a_head_is_one_byte_for_a_field_alone = refl

a_link_has_a_number : map link_number (carried.Struct 4 (Some 2) ∷ carried.Coll 6 ∷ carried.Scalar kind.Number (value.Whole (pos 7)) ∷ [])
    ≡ 4 ∷ 6 ∷ 0 ∷ []
a_link_has_a_number = refl

-- a number, an instance and its mark, a collection
abbrev number : OpValue
number = carried.Scalar kind.Number (value.Whole (pos 7))

abbrev marked : OpValue
marked = carried.Struct 4 (Some 2)

abbrev unmarked : OpValue
unmarked = carried.Struct 4 None

operations_on_fields : map op_bytes (op.Add (Field 3) marked ∷ op.Replace (Field 4) number ∷ op.DeleteAdd (Field 3) marked ∷ op.Delete (Field 4) ∷ [])
    ≡ (0x83 ∷ 0x04 ∷ 0xd5 ∷ 0x02 ∷ []) ∷ (0x04 ∷ 0x07 ∷ []) ∷ (0xc3 ∷ 0x04 ∷ 0xd5 ∷ 0x02 ∷ []) ∷ (0x44 ∷ []) ∷ []
operations_on_fields = refl

operations_on_items : map op_bytes (op.Add (Item 0) number ∷ op.Replace (Item 1) number ∷ op.DeleteAdd (Item 2) marked ∷ op.Delete (Item 128) ∷ [])
    ≡ (0x80 ∷ 0x00 ∷ 0x07 ∷ []) ∷ (0x00 ∷ 0x01 ∷ 0x07 ∷ []) ∷ (0xc0 ∷ 0x02 ∷ 0x04 ∷ 0xd5 ∷ 0x02 ∷ []) ∷ (0x40 ∷ 0xcc ∷ 0x80 ∷ []) ∷ []
operations_on_items = refl

operations_with_a_key : map op_bytes (op.Add (Named 0 (codes "s1")) marked ∷ op.DeleteAdd (Named 2 []) unmarked ∷ [])
    ≡ (0x80 ∷ 0x00 ∷ 0xa2 ∷ 0x73 ∷ 0x31 ∷ 0x04 ∷ 0xd5 ∷ 0x02 ∷ []) ∷ (0xc0 ∷ 0x02 ∷ 0xa0 ∷ 0x04 ∷ []) ∷ []
operations_with_a_key = refl

-- the number, then the value, which is the number again
operations_on_whole_collections_and_by_reference : map op_bytes (op.Clear ∷ op.AddByRef marked ∷ op.DeleteByRef 4 ∷ [])
    ≡ (0x0a ∷ []) ∷ (0x81 ∷ 0x04 ∷ 0x04 ∷ 0xd5 ∷ 0x02 ∷ []) ∷ (0x21 ∷ 0x04 ∷ []) ∷ []
operations_on_whole_collections_and_by_reference = refl

the_last_field_has_the_byte_before_the_switch : op_bytes (op.DeleteAdd (Field 62) (carried.Scalar kind.U8 (value.Whole (pos 5)))) ≡ 0xfe ∷ 0x05 ∷ []
the_last_field_has_the_byte_before_the_switch = refl

a_switch_is_byte_255_and_the_holder : map switch_bytes (4 ∷ 200 ∷ []) ≡ (0xff ∷ 0x04 ∷ []) ∷ (0xff ∷ 0xcc ∷ 0xc8 ∷ []) ∷ []
a_switch_is_byte_255_and_the_holder = refl

-- ---- blocks as bytes

a_whole_block_begins_with_its_switch : whole_block (block 6 (op.Clear ∷ op.Add (Item 0) number ∷ [])) ≡ 0xff ∷ 0x06 ∷ 0x0a ∷ 0x80 ∷ 0x00 ∷ 0x07 ∷ []
a_whole_block_begins_with_its_switch = refl

only_a_bare_block_of_the_root_has_no_switch :
    first_block true (block 0 (op.Delete (Field 4) ∷ [])) ∷ first_block false (block 0 (op.Delete (Field 4) ∷ []))
    ∷ first_block true (block 6 (op.Clear ∷ [])) ∷ first_block false (block 6 (op.Clear ∷ [])) ∷ []
    ≡ (0x44 ∷ []) ∷ (0xff ∷ 0x00 ∷ 0x44 ∷ []) ∷ (0xff ∷ 0x06 ∷ 0x0a ∷ []) ∷ (0xff ∷ 0x06 ∷ 0x0a ∷ []) ∷ []
only_a_bare_block_of_the_root_has_no_switch = refl

no_blocks_are_no_bytes : map (block_bytes []) (true ∷ false ∷ []) ≡ [] ∷ [] ∷ []
no_blocks_are_no_bytes = refl

-- a later block of the root has its switch
abbrev three_blocks : List Block
three_blocks = block 0 (op.Delete (Field 4) ∷ []) ∷ block 6 (op.Clear ∷ []) ∷ block 0 (op.Delete (Field 3) ∷ []) ∷ []

only_a_first_block_may_be_bare : map (block_bytes three_blocks) (true ∷ false ∷ [])
    ≡ (0x44 ∷ 0xff ∷ 0x06 ∷ 0x0a ∷ 0xff ∷ 0x00 ∷ 0x43 ∷ []) ∷ (0xff ∷ 0x00 ∷ 0x44 ∷ 0xff ∷ 0x06 ∷ 0x0a ∷ 0xff ∷ 0x00 ∷ 0x43 ∷ []) ∷ []
only_a_first_block_may_be_bare = refl

a_first_block_of_another_holder_has_its_switch : block_bytes (block 6 (op.Clear ∷ []) ∷ block 0 (op.Delete (Field 3) ∷ []) ∷ []) true
    ≡ 0xff ∷ 0x06 ∷ 0x0a ∷ 0xff ∷ 0x00 ∷ 0x43 ∷ []
a_first_block_of_another_holder_has_its_switch = refl
