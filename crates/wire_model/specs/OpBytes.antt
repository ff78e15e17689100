-- The bytes of blocks. Our profile, after `@colyseus/schema` 3.
use Rattle.std.specs.Prelude.{ℕ, ◌+◌, Bool, List, [], ◌∷◌, ◌++◌, pos, Option, Some, None, if◌then◌else◌, ◌==◌, ◌&&◌}
use Rattle.std.specs.List.{flat_map}
use Rattle.schema_model.specs.Spelling.{number_bytes, text_bytes, spelling}
use Rattle.wire_model.specs.declared.op.OpKey.{OpKey}
use Rattle.wire_model.specs.declared.op.OpKey.TheVariants.{Field, Item, Named}
use Rattle.wire_model.specs.declared.op.OpValue.{OpValue}
use Rattle.wire_model.specs.declared.op.OpValue.TheVariants as carried
use Rattle.wire_model.specs.declared.op.Op.{Op}
use Rattle.wire_model.specs.declared.op.Op.TheVariants as op
use Rattle.wire_model.specs.declared.op.Block.{Block}

-- a reference, item, position or type number
abbrev pub count_bytes : ℕ → List ℕ
count_bytes n = number_bytes (pos n)

-- a type mark: byte 213 and the type number
abbrev pub mark_bytes : Option ℕ → List ℕ
mark_bytes None = []
mark_bytes (Some class) = 213 ∷ count_bytes class

-- a carried value
abbrev pub value_bytes : OpValue → List ℕ
value_bytes (carried.Scalar k v) = spelling k v
value_bytes (carried.Struct n class) = count_bytes n ++ mark_bytes class
value_bytes (carried.Coll n) = count_bytes n

-- the operation's byte with its place: on an instance the two are one byte, on a collection the byte, the number and the key of a new map item
abbrev pub head_bytes : ℕ → OpKey → List ℕ
head_bytes code (Field i) = (code + i) ∷ []
head_bytes code (Item n) = code ∷ count_bytes n
head_bytes code (Named n key) = code ∷ (count_bytes n ++ text_bytes key)

-- the number that a by-reference operation writes first
abbrev pub link_number : OpValue → ℕ
link_number (carried.Scalar k v) = 0
link_number (carried.Struct n class) = n
link_number (carried.Coll n) = n

-- an operation: ADD 128, REPLACE 0, DELETE_AND_ADD 192, DELETE 64, CLEAR 10, ADD_BY_REFID 129, DELETE_BY_REFID 33
abbrev pub op_bytes : Op → List ℕ
op_bytes (op.Add k v) = head_bytes 128 k ++ value_bytes v
op_bytes (op.Replace k v) = head_bytes 0 k ++ value_bytes v
op_bytes (op.DeleteAdd k v) = head_bytes 192 k ++ value_bytes v
op_bytes (op.Delete k) = head_bytes 64 k
op_bytes op.Clear = 10 ∷ []
op_bytes (op.AddByRef v) = 129 ∷ (count_bytes (link_number v) ++ value_bytes v)
op_bytes (op.DeleteByRef n) = 33 ∷ count_bytes n

-- a switch to a holder: byte 255 and its number
abbrev pub switch_bytes : ℕ → List ℕ
switch_bytes n = 255 ∷ count_bytes n

-- a block with its switch
abbrev pub whole_block : Block → List ℕ
whole_block b = switch_bytes b.holder ++ flat_map op_bytes b.ops

-- the first block, without its switch where it is the root's and may be bare
abbrev pub first_block : Bool → Block → List ℕ
first_block bare b = if bare && (b.holder == 0) then flat_map op_bytes b.ops else whole_block b

-- blocks; with `bare`, a first block of holder 0 has no switch
abbrev pub block_bytes : List Block → Bool → List ℕ
block_bytes [] bare = []
block_bytes (b ∷ bs) bare = first_block bare b ++ flat_map whole_block bs
