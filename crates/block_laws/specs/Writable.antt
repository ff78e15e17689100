-- Blocks that have bytes: what the writer asks of its caller.
use Rattle.std.specs.Prelude.{ℕ, ◌^◌, Bool, true, false, not, ◌&&◌, List, length, Option, Some, None, nat_lt, is_some}
use Rattle.std.specs.List.{list_all}
use Rattle.schema_model.specs.Classes.{most_fields}
use Rattle.schema_model.specs.Fits.{fits}
pub use Rattle.state_model.specs.Spelled.{is_count}
use Rattle.wire_model.specs.declared.op.OpKey.{OpKey}
use Rattle.wire_model.specs.declared.op.OpKey.TheVariants as key
use Rattle.wire_model.specs.declared.op.OpValue.{OpValue}
use Rattle.wire_model.specs.declared.op.OpValue.TheVariants as carried
use Rattle.wire_model.specs.declared.op.Op.{Op}
use Rattle.wire_model.specs.declared.op.Op.TheVariants as op
use Rattle.wire_model.specs.declared.op.Block.{Block}

-- a type number, where there is one
abbrev pub is_type : Option ℕ → Bool
is_type None = true
is_type (Some class) = is_count class

-- a field is below the most that a class has, a number is in range, a key is shorter than 2^32 bytes
abbrev pub is_place : OpKey → Bool
is_place (key.Field index) = nat_lt index most_fields
is_place (key.Item number) = is_count number
is_place (key.Named number name) = is_count number && nat_lt (length name) (2 ^ 32)

-- a place with a key
abbrev pub is_named : OpKey → Bool
is_named (key.Field index) = false
is_named (key.Item number) = false
is_named (key.Named number name) = true

-- a scalar fits its kind, numbers are in range
abbrev pub is_carried : OpValue → Bool
is_carried (carried.Scalar kind value) = fits kind value
is_carried (carried.Struct who class) = is_count who && is_type class
is_carried (carried.Coll who) = is_count who

-- an instance has a type
abbrev pub is_marked : OpValue → Bool
is_marked (carried.Scalar kind value) = true
is_marked (carried.Struct who class) = is_some class
is_marked (carried.Coll who) = true

-- an instance has no type
abbrev pub is_unmarked : OpValue → Bool
is_unmarked (carried.Scalar kind value) = true
is_unmarked (carried.Struct who class) = not (is_some class)
is_unmarked (carried.Coll who) = true

-- the value is an instance
abbrev pub is_instance : OpValue → Bool
is_instance (carried.Scalar kind value) = false
is_instance (carried.Struct who class) = true
is_instance (carried.Coll who) = false

-- a key stands under Add and DeleteAdd alone; an instance has a type exactly under these two and AddByRef
abbrev pub is_writable_op : Op → Bool
is_writable_op (op.Add k v) = is_place k && (is_carried v && is_marked v)
is_writable_op (op.Replace k v) = (is_place k && not (is_named k)) && (is_carried v && is_unmarked v)
is_writable_op (op.DeleteAdd k v) = is_place k && (is_carried v && is_marked v)
is_writable_op (op.Delete k) = is_place k && not (is_named k)
is_writable_op op.Clear = true
is_writable_op (op.AddByRef v) = is_instance v && (is_carried v && is_marked v)
is_writable_op (op.DeleteByRef who) = is_count who

-- a holder's number is in range, and each operation on it has bytes
abbrev pub is_writable : Block → Bool
is_writable b = is_count b.holder && list_all is_writable_op b.ops

-- each block has bytes
abbrev pub are_writable : List Block → Bool
are_writable bs = list_all is_writable bs
