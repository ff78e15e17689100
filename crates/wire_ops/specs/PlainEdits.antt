-- Operations as edits, where it doesn't matter what their links lead to; and the holders that edits are done on.
use Rattle.std.specs.Prelude.{[]}
use Rattle.state_model.specs.declared.row.Row.TheVariants as row
use Rattle.wire_model.specs.declared.op.OpValue.{OpValue}
use Rattle.wire_model.specs.declared.op.OpValue.TheVariants as carried
use Rattle.wire_model.specs.declared.op.Op.{Op}
use Rattle.wire_model.specs.declared.op.Op.TheVariants as op
use Rattle.wire_model.specs.Edits.{Edit, Add, Replace, DeleteAdd, Delete, Clear, AddByRef, DeleteByRef, Carried, Plain, Linked}
use Rattle.wire_model.specs.Grammar.{scalar_of}

-- a carried value; what its link leads to is left open
abbrev pub plain_value : OpValue → Carried
plain_value (carried.Scalar kind v) = Plain kind (scalar_of v)
plain_value (carried.Struct n mark) = Linked n (row.Struct 0 [])
plain_value (carried.Coll n) = Linked n (row.Struct 0 [])

-- an operation; what its link leads to is left open
abbrev pub plain_edit : Op → Edit
plain_edit (op.Add k v) = Add k (plain_value v)
plain_edit (op.Replace k v) = Replace k (plain_value v)
plain_edit (op.DeleteAdd k v) = DeleteAdd k (plain_value v)
plain_edit (op.Delete k) = Delete k
plain_edit op.Clear = Clear
plain_edit (op.AddByRef v) = AddByRef (plain_value v)
plain_edit (op.DeleteByRef n) = DeleteByRef n
