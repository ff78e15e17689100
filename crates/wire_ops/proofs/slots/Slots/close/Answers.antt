use Rattle.std.proofs.Common.{refl, inl, inr}
use Rattle.wire_ops.specs.declared.slots.Slot.TheVariants.{Hole, Closed}
use Rattle.wire_ops.proofs.RestLaws.{closed_value, closed_other}
use Rattle.wire_ops.proofs.slots.Slots.close.Goals as goal

pub loop-slot-preserved-in-Continue-1 : goal.loop-slot-preserved-in-Continue-1
loop-slot-preserved-in-Continue-1 c = rw (c.in-Held.is, closed_value c.loop-slot.yielded c.in-Held.value, ← c.loop-slot.invariant) c.in_ok-push-in-Held.ensures

pub loop-slot-preserved : goal.loop-slot-preserved
loop-slot-preserved c = elim c.in-Hole.is [
  | inl e ↦ rw (e, closed_other c.loop-slot.yielded Hole refl) c.loop-slot.invariant
  | inr e ↦ rw (e, closed_other c.loop-slot.yielded Closed refl) c.loop-slot.invariant
]
