use Rattle.std.proofs.Common.{length}
use Rattle.schedule_text.proofs.PartLaws.{IsRead}
use Rattle.schedule_text.proofs.part.schema_end.Given as goal

abbrev pub invariant-loop-line : goal.invariant-loop-line
invariant-loop-line l = IsRead l.text l.lines l.rest

abbrev pub decreases-loop-line : goal.decreases-loop-line
decreases-loop-line l = length l.rest
