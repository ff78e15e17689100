use Rattle.std.proofs.Common.{◌≡◌}
use Rattle.wire_model.specs.Effect.{closed_slots}
use Rattle.wire_ops.specs.Slots.{shown, IsKept}
use Rattle.wire_ops.proofs.slots.Slots.rest.Given as goal

-- the values are as they were, and every hole stands at a place that is left
abbrev pub invariant-loop-place : goal.invariant-loop-place
invariant-loop-place l = record {
  values : closed_slots (shown l.slots.items) ≡ closed_slots l.fn.self;
  kept : IsKept l.slots.items l.self-inside.first l.self-inside.links l.closed.items l.place-iterator.rest.items;
}
