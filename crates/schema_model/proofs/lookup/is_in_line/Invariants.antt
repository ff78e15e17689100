use Rattle.std.proofs.Common.{◌≡◌, Some}
use Rattle.schema_model.proofs.FieldTables.{height}
use Rattle.schema_model.proofs.KindLines.{is_in}
use Rattle.schema_model.proofs.lookup.is_in_line.Given as goal

abbrev pub invariant-loop-line : goal.invariant-loop-line
invariant-loop-line l = is_in l.classes (Some l.fn.sub) l.sup ≡ is_in l.classes l.line l.sup

abbrev pub decreases-loop-line : goal.decreases-loop-line
decreases-loop-line l = height l.line
