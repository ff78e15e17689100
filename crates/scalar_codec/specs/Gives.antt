-- What a reading call gives of what the bytes are.
use Rattle.std.specs.Prelude.{◌≡◌, ℕ, Result, Ok, Err, IsOk}
use Rattle.schema_model.specs.declared.value.Value.{Value}
use Rattle.schema_model.specs.declared.fault.ReadFault.{ReadFault}
use Rattle.schema_model.specs.declared.fault.ScalarFault.{ScalarFault}
use Rattle.schema_model.specs.declared.fault.ScalarFault.TheVariants.{Read, Memory}

-- exactly the value or the fault that the bytes are, or out of memory where they are a value
abbrev pub GivesScalar : Result (Value × ℕ) ScalarFault → Result (Value × ℕ) ReadFault → Type 0
GivesScalar (Ok read) there = there ≡ Ok read
GivesScalar (Err (Read fault)) there = there ≡ Err fault
GivesScalar (Err Memory) there = IsOk there
