use Rattle.std.proofs.Common.{◌≡◌, [], take, drop}
use Rattle.schema_model.proofs.FieldCounts.{small_from}
use Rattle.schema_model.proofs.kept.are_classes_small.Given as goal

abbrev pub invariant-loop-number : goal.invariant-loop-number
invariant-loop-number l = small_from [] l.classes ≡ small_from (take l.number l.counts) (drop l.number l.classes)
