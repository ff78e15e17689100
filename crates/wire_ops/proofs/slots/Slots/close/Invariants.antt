use Rattle.std.proofs.Common.{◌≡◌}
use Rattle.wire_model.specs.Effect.{closed_slots}
use Rattle.wire_ops.specs.Slots.{shown}
use Rattle.wire_ops.proofs.slots.Slots.close.Given as goal

-- the values are those of the slots that were taken
abbrev pub invariant-loop-slot : goal.invariant-loop-slot
invariant-loop-slot l = l.values ≡ closed_slots (shown l.yielded)
