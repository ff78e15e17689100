-- Blocks as they are told: the numbers that they name, and that none is without operations.
use Rattle.std.specs.Prelude.{ℕ, List, [], ◌∷◌}
use Rattle.std.specs.List.{flat_map}
use Rattle.wire_model.specs.declared.op.OpValue.{OpValue}
use Rattle.wire_model.specs.declared.op.OpValue.TheVariants.{Scalar, Struct, Coll}
use Rattle.wire_model.specs.declared.op.Op.{Op}
use Rattle.wire_model.specs.declared.op.Op.TheVariants.{Add, Replace, DeleteAdd, Delete, Clear, AddByRef, DeleteByRef}
use Rattle.wire_model.specs.declared.op.Block.{Block}

-- the number that a told value links to
abbrev pub named_by_value : OpValue → List ℕ
named_by_value (Scalar k v) = []
named_by_value (Struct n class) = n ∷ []
named_by_value (Coll n) = n ∷ []

-- the number that a told operation names
abbrev pub named_by_op : Op → List ℕ
named_by_op (Add k v) = named_by_value v
named_by_op (Replace k v) = named_by_value v
named_by_op (DeleteAdd k v) = named_by_value v
named_by_op (Delete k) = []
named_by_op Clear = []
named_by_op (AddByRef v) = named_by_value v
named_by_op (DeleteByRef n) = []

-- the numbers that told operations name, in order
abbrev pub named_by_ops : List Op → List ℕ
named_by_ops ops = flat_map named_by_op ops

-- the numbers that told blocks name, in order
abbrev pub named_by_encoded : List Block → List ℕ
named_by_encoded blocks = flat_map (λ (b : Block). named_by_ops b.ops) blocks

-- a told block, where it has an operation
abbrev pub block_encoded : ℕ → List Op → List Block
block_encoded n [] = []
block_encoded n (o ∷ os) = record { holder = n; ops = o ∷ os } ∷ []
