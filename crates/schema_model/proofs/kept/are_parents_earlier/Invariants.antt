use Rattle.std.proofs.Common.{◌≡◌, drop}
use Rattle.schema_model.specs.Classes.{parents_earlier}
use Rattle.schema_model.proofs.kept.are_parents_earlier.Given as goal

abbrev pub invariant-loop-number : goal.invariant-loop-number
invariant-loop-number l = parents_earlier 0 l.classes ≡ parents_earlier l.number (drop l.number l.classes)
