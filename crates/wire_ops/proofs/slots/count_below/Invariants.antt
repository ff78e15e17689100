use Rattle.std.proofs.Common.{◌≤◌, ◌-◌, length}
use Rattle.wire_ops.specs.Places.{count_below}
use Rattle.wire_ops.proofs.slots.count_below.Given as goal

-- the number is one of those that are left
abbrev pub invariant-loop-low : goal.invariant-loop-low
invariant-loop-low l = (l.low ≤ count_below l.closed l.place) × (count_below l.closed l.place ≤ l.high) × (l.high ≤ length l.closed)

-- fewer are left
abbrev pub decreases-loop-low : goal.decreases-loop-low
decreases-loop-low l = l.high - l.low
