use Rattle.std.proofs.Common.{◌≡◌, ◌∙◌, None, sym, ap}
use Rattle.std.specs.BTreeMap.{is_at}
use Rattle.std.specs.Map.{lookup}
use Rattle.std.specs.Option.{option_and_then}
use Rattle.std.specs.Ordering.{nat_cmp}
use Rattle.slab.specs.Slab.{get}
use Rattle.lists.specs.Rising.{find as find_by}
use Rattle.lists.proofs.RisingLaws.{remove_missing}
use Rattle.hub_core.specs.RoomEntry.{serial_of}
use Rattle.hub_core.specs.Slots.{in_slots}
use Rattle.hub_core.proofs.SlotLaws.{IsSet, find_slot, removed_are, removed_found, removed_slots}
use Rattle.hub_core.proofs.slots.Slots.remove.Goals as goal

pub returns-in_err-slot-clause-found : goal.returns-in_err-slot-clause-found
returns-in_err-slot-clause-found g c =
    let old = get c.self.inside.slots in
    let none : None ≡ lookup (is_at (nat_cmp c.args.at.serial)) c.self.inside.by_serial.entries = c.in_err-slot.ensures.value in
    rw (← c.self.view_is, c.from_residual.ensures) (sym (find_slot old c.self.inside.by_serial.entries c.args.at.serial c.self.invariant.filled ∙ ap (option_and_then old) (sym none)))

pub returns-in_err-slot-clause-rest : goal.returns-in_err-slot-clause-rest
returns-in_err-slot-clause-rest g c =
    let old = get c.self.inside.slots in
    let none : None ≡ lookup (is_at (nat_cmp c.args.at.serial)) c.self.inside.by_serial.entries = c.in_err-slot.ensures.value in
    let missing : find_by serial_of c.args.at.serial (in_slots old c.self.inside.by_serial.entries) ≡ None = find_slot old c.self.inside.by_serial.entries c.args.at.serial c.self.invariant.filled ∙ ap (option_and_then old) (sym none) in
    rw (← c.self.view_is) (ap (in_slots old) c.in_err-slot.ensures.unchanged ∙ sym (remove_missing serial_of c.args.at.serial (in_slots old c.self.inside.by_serial.entries) missing))

pub invariant_of-self-2 : goal.invariant_of-self-2
invariant_of-self-2 g c =
    let old = get c.self.inside.slots in
    let set : IsSet old (get c.try_remove.new.self) c.in_ok-slot.slot None = record { here = c.try_remove.ensures.updates.changed; others = c.try_remove.ensures.updates.others } in
    rw (c.remove.ensures.entries) (removed_are old (get c.try_remove.new.self) c.in_ok-slot.slot c.args.at.serial c.self.inside.by_serial.entries c.self.invariant (sym c.in_ok-slot.ensures.value) set)

pub returns-clause-found : goal.returns-clause-found
returns-clause-found g c =
    let old = get c.self.inside.slots in
    let set : IsSet old (get c.try_remove.new.self) c.in_ok-slot.slot None = record { here = c.try_remove.ensures.updates.changed; others = c.try_remove.ensures.updates.others } in
    c.try_remove.ensures.value ∙ rw (← c.self.view_is) (removed_found old (get c.try_remove.new.self) c.in_ok-slot.slot c.args.at.serial c.self.inside.by_serial.entries c.self.invariant (sym c.in_ok-slot.ensures.value) set)

pub returns-clause-rest : goal.returns-clause-rest
returns-clause-rest g c =
    let old = get c.self.inside.slots in
    let set : IsSet old (get c.try_remove.new.self) c.in_ok-slot.slot None = record { here = c.try_remove.ensures.updates.changed; others = c.try_remove.ensures.updates.others } in
    rw (← c.self.view_is) (ap (in_slots (get c.try_remove.new.self)) c.remove.ensures.entries
    ∙ removed_slots old (get c.try_remove.new.self) c.in_ok-slot.slot c.args.at.serial c.self.inside.by_serial.entries c.self.invariant (sym c.in_ok-slot.ensures.value) set)
