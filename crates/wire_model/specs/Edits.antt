-- Operations with what their links lead to, so that applying them needs no schema; and the operations as they are told to others.
use Rattle.std.specs.Prelude.{ℕ, Bool, true, false, List, map, ℤ, Option, Some, None}
use Rattle.schema_model.specs.declared.scalar.ScalarKind.{ScalarKind}
use Rattle.schema_model.specs.declared.value.Value.{Value}
use Rattle.schema_model.specs.declared.value.Value.TheVariants as value
use Rattle.state_model.specs.declared.row.Row.{Row}
use Rattle.state_model.specs.Places.{row_class}
use Rattle.wire_model.specs.declared.op.OpKey.{OpKey}
use Rattle.wire_model.specs.declared.op.OpValue.{OpValue}
use Rattle.wire_model.specs.declared.op.OpValue.TheVariants as carried
use Rattle.wire_model.specs.declared.op.Op.{Op}
use Rattle.wire_model.specs.declared.op.Op.TheVariants as op
use Rattle.wire_model.specs.declared.op.Block.{Block}

-- a value that is no link
pub data Scalar : Type 0 where
  AWhole : (whole : ℤ) → Scalar
  AText : (text : List ℕ) → Scalar
  ATruth : (truth : Bool) → Scalar

-- what an operation carries: a scalar of a kind, or a link with the row of its kind, which has no places
pub data Carried : Type 0 where
  Plain : (kind : ScalarKind) (scalar : Scalar) → Carried
  Linked : (who : ℕ) (empty : Row) → Carried

-- an operation on a holder
pub data Edit : Type 0 where
  Add : (key : OpKey) (value : Carried) → Edit
  Replace : (key : OpKey) (value : Carried) → Edit
  DeleteAdd : (key : OpKey) (value : Carried) → Edit
  Delete : (key : OpKey) → Edit
  Clear : Edit
  AddByRef : (value : Carried) → Edit
  DeleteByRef : (who : ℕ) → Edit

-- the operations on one holder
pub record EditBlock : Type 0 where
  pub holder : ℕ
  pub edits : List Edit

-- a scalar as a value of a place
abbrev pub scalar_value : Scalar → Value
scalar_value (AWhole z) = value.Whole z
scalar_value (AText t) = value.Str t
scalar_value (ATruth b) = value.Truth b

-- what an operation carries, as a value of a place
abbrev pub carried_value : Carried → Value
carried_value (Plain k s) = scalar_value s
carried_value (Linked n empty) = value.Link n

-- a link as it is told, with the type mark where the operation has the ADD bit
abbrev pub encoded_link : Bool → ℕ → Option ℕ → OpValue
encoded_link adds n None = carried.Coll n
encoded_link true n (Some class) = carried.Struct n (Some class)
encoded_link false n (Some class) = carried.Struct n None

-- a value as it is told
abbrev pub encoded_value : Bool → Carried → OpValue
encoded_value adds (Plain k s) = carried.Scalar k (scalar_value s)
encoded_value adds (Linked n empty) = encoded_link adds n (row_class empty)

-- an operation as it is told
abbrev pub encoded : Edit → Op
encoded (Add k v) = op.Add k (encoded_value true v)
encoded (Replace k v) = op.Replace k (encoded_value false v)
encoded (DeleteAdd k v) = op.DeleteAdd k (encoded_value true v)
encoded (Delete k) = op.Delete k
encoded Clear = op.Clear
encoded (AddByRef v) = op.AddByRef (encoded_value true v)
encoded (DeleteByRef n) = op.DeleteByRef n

-- a block as it is told
abbrev pub encoded_block : EditBlock → Block
encoded_block b = record { holder = b.holder; ops = map encoded b.edits }

-- blocks as they are told
abbrev pub encoded_blocks : List EditBlock → List Block
encoded_blocks bs = map encoded_block bs
