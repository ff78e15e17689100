use Rattle.std.proofs.Common.{length}
use Rattle.hub_core.proofs.defs.+are_different.Given as goal

-- the rest is shorter
abbrev pub decreases-are_different : goal.decreases-are_different
decreases-are_different l = length l.defs.now
