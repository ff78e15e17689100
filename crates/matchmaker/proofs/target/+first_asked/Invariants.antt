use Rattle.std.proofs.Common.{length}
use Rattle.matchmaker.proofs.target.+first_asked.Given as goal

abbrev pub decreases-first_asked : goal.decreases-first_asked
decreases-first_asked l = length l.methods.now
