use Rattle.std.proofs.Common.{◌≡◌, ◌+◌, Some, [], length}
use Rattle.schema_model.specs.Classes.{inherited, fields_from}
use Rattle.schema_model.proofs.FieldTables.{height}
use Rattle.schema_model.proofs.lookup.field_count.Given as goal

abbrev pub invariant-loop-class : goal.invariant-loop-class
invariant-loop-class l = length (inherited (fields_from [] l.classes) (Some l.fn.class)) ≡ l.count + length (inherited (fields_from [] l.classes) l.line)

abbrev pub decreases-loop-class : goal.decreases-loop-class
decreases-loop-class l = height l.line
