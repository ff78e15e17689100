use Rattle.std.proofs.Common.{◌≤◌, ◌-◌, length}
use Rattle.wire_ops.specs.Places.{count_passed}
use Rattle.wire_ops.proofs.slots.index_of.Given as goal

-- the number is one of those that are left
abbrev pub invariant-loop-low : goal.invariant-loop-low
invariant-loop-low l = (l.low ≤ count_passed l.closed l.start) × (count_passed l.closed l.start ≤ l.high) × (l.high ≤ length l.closed)

-- fewer are left
abbrev pub decreases-loop-low : goal.decreases-loop-low
decreases-loop-low l = l.high - l.low
