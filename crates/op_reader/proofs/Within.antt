-- A number that is read ends within the bytes.
use Rattle.std.proofs.Common.{◌≡◌, ℕ, ◌≤◌, List, length, Result, Ok, Err}
use Rattle.std.specs.Prelude.{ℤ}
use Rattle.schema_model.specs.declared.fault.ReadFault.{ReadFault}
use Rattle.schema_model.specs.Reading.{number_at}
use Rattle.schema_model.proofs.Within as scalar
use Rattle.wire_model.specs.Grammar.{as_op_fault}

-- where a number was read, it ends within the bytes
pub number_ends : (bytes : List ℕ) (at : ℕ) (z : ℤ) (next : ℕ) → as_op_fault (number_at bytes at) ≡ Ok (z, next) → next ≤ length bytes
number_ends bytes at z next is = scalar.number_ends bytes at z next (by (number_at bytes at) is) where
  by : (r : Result (ℤ × ℕ) ReadFault) → as_op_fault r ≡ Ok (z, next) → r ≡ Ok (z, next)
  by (Ok x) h = cc
  by (Err e) h = absurd (cc)
