-- The bytes of the operations that put a value.
use Rattle.std.specs.Prelude.{ℕ}
use Rattle.op_reader.specs.declared.put.Put.{Put}
use Rattle.op_reader.specs.declared.put.Put.TheVariants as put

-- the byte of an operation, without a field
abbrev pub code_of : Put → ℕ
code_of put.Add = 128
code_of put.Replace = 0
code_of put.DeleteAdd = 192
