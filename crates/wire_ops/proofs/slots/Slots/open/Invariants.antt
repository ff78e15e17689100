use Rattle.std.proofs.Common.{◌≡◌, map, Some}
use Rattle.wire_ops.proofs.slots.Slots.open.Given as goal

-- what stands there is what was taken
abbrev pub invariant-loop-value : goal.invariant-loop-value
invariant-loop-value l = l.slots ≡ map Some l.yielded
