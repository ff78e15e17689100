-- A command leaves the schema as it was, whatever it answers.
use Rattle.std.proofs.Common.{◌≡◌, ℕ, Option, Result, Ok, Err, ap}
use Rattle.schema_model.specs.Classes.{Schema}
use Rattle.state_model.specs.State.{State}
use Rattle.state_model.specs.declared.command.TableFault.{TableFault}
use Rattle.state_model.specs.declared.command.TableFault.TheVariants as fault
use Rattle.instance_table.specs.Table.{Answers, TableState}

-- the schema of a table
abbrev of : TableState → Schema
of t = t.schema

pub schema_stays : (does : Result (State × Option ℕ) TableFault) (old new : TableState) (result : Result (Option ℕ) TableFault) → Answers does old new result → of new ≡ of old
schema_stays does old new (Ok made) (did, is) = ap of is
schema_stays does old new (Err fault.Memory) is = ap of is
schema_stays does old new (Err fault.NoRef) (did, is) = ap of is
schema_stays does old new (Err fault.NoField) (did, is) = ap of is
schema_stays does old new (Err fault.NoItem) (did, is) = ap of is
schema_stays does old new (Err fault.WrongType) (did, is) = ap of is
schema_stays does old new (Err fault.OutOfRange) (did, is) = ap of is
schema_stays does old new (Err fault.Cycle) (did, is) = ap of is
schema_stays does old new (Err fault.Duplicate) (did, is) = ap of is
schema_stays does old new (Err fault.InstancesFull) (did, is) = ap of is
schema_stays does old new (Err fault.PlacesFull) (did, is) = ap of is
schema_stays does old new (Err fault.TextFull) (did, is) = ap of is
schema_stays does old new (Err fault.TextTooLong) (did, is) = ap of is
schema_stays does old new (Err fault.RefsSpent) (did, is) = ap of is
schema_stays does old new (Err fault.NumbersSpent) (did, is) = ap of is
schema_stays does old new (Err fault.Present) (did, is) = ap of is
