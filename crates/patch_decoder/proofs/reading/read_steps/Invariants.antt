use Rattle.std.proofs.Common.{length, ◌-◌}
use Rattle.patch_decoder.proofs.Going.{Goes}
use Rattle.patch_decoder.proofs.reading.read_steps.Given as goal

-- the rows stand for what was read so far
abbrev pub invariant-loop-at : goal.invariant-loop-at
invariant-loop-at l = Goes l.schema l.rows l.bytes l.run l.at

-- less is left
abbrev pub decreases-loop-at : goal.decreases-loop-at
decreases-loop-at l = length l.bytes - l.at
