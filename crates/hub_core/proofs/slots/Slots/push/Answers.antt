use Rattle.std.proofs.Common.{◌∙◌, None, Some, ap}
use Rattle.slab.specs.Slab.{get}
use Rattle.lists.specs.Rising.{IsAbove}
use Rattle.hub_core.specs.RoomEntry.{serial_of}
use Rattle.hub_core.specs.Slots.{in_slots}
use Rattle.hub_core.proofs.SlotLaws.{IsSet, pushed_are, pushed_slots, undone_are}
use Rattle.hub_core.proofs.slots.Slots.push.Goals as goal

pub invariant_of-self : goal.invariant_of-self
invariant_of-self g c = rw (c.in_err-slot.ensures.err) c.self.invariant

pub invariant_of-self-in-Ok : goal.invariant_of-self-in-Ok
invariant_of-self-in-Ok g c =
    let old = get c.self.inside.slots in
    let set : IsSet old (get c.insert.new.self) c.in_ok-slot.slot (Some c.args.boxed) = record { here = c.in_ok-slot.ensures.updates.changed; others = c.in_ok-slot.ensures.updates.others } in
    let above : IsAbove serial_of c.args.boxed.serial (in_slots old c.self.inside.by_serial.entries) = rw (← c.self.view_is) at c.requires in
    rw (rw c.get.ensures at c.in-Ok.ensures.entries) (pushed_are old (get c.insert.new.self) c.in_ok-slot.slot c.args.boxed c.self.inside.by_serial.entries c.self.invariant c.in_ok-slot.ensures.was_vacant set above)

pub invariant_of-self-in-Err : goal.invariant_of-self-in-Err
invariant_of-self-in-Err g c =
    let old = get c.self.inside.slots in
    let set : IsSet old (get c.insert.new.self) c.in_ok-slot.slot (Some c.args.boxed) = record { here = c.in_ok-slot.ensures.updates.changed; others = c.in_ok-slot.ensures.updates.others } in
    let out : IsSet (get c.insert.new.self) (get c.try_remove.new.self) c.in_ok-slot.slot None = record { here = c.try_remove.ensures.updates.changed; others = c.try_remove.ensures.updates.others } in
    rw (c.in-Err.ensures.err) ((undone_are old (get c.insert.new.self) c.in_ok-slot.slot c.args.boxed c.self.inside.by_serial.entries c.self.invariant c.in_ok-slot.ensures.was_vacant set (get c.try_remove.new.self) out).0)

pub returns-in-Ok-clause-rooms : goal.returns-in-Ok-clause-rooms
returns-in-Ok-clause-rooms g c =
    let old = get c.self.inside.slots in
    let set : IsSet old (get c.insert.new.self) c.in_ok-slot.slot (Some c.args.boxed) = record { here = c.in_ok-slot.ensures.updates.changed; others = c.in_ok-slot.ensures.updates.others } in
    let above : IsAbove serial_of c.args.boxed.serial (in_slots old c.self.inside.by_serial.entries) = rw (← c.self.view_is) at c.requires in
    rw (← c.self.view_is) (ap (in_slots (get c.insert.new.self)) (rw c.get.ensures at c.in-Ok.ensures.entries)
    ∙ pushed_slots old (get c.insert.new.self) c.in_ok-slot.slot c.args.boxed c.self.inside.by_serial.entries c.self.invariant c.in_ok-slot.ensures.was_vacant set above)
