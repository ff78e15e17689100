use Rattle.std.proofs.Common.{length}
use Rattle.room_model.proofs.definition.+are_different.Given as goal

-- the rest is shorter
abbrev pub decreases-are_different : goal.decreases-are_different
decreases-are_different l = length l.names.now
