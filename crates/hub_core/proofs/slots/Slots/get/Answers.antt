use Rattle.std.proofs.Common.{◌≡◌, ◌∙◌, Some, sym, ap}
use Rattle.slab.specs.Slab.{get}
use Rattle.hub_core.proofs.SlotLaws.{found_there}
use Rattle.hub_core.proofs.slots.Slots.get.Goals as goal

pub returns-in-Some : goal.returns-in-Some
returns-in-Some g c =
    let at : get c.self.inside.slots c.in_ok-slot.slot ≡ Some c.in-Some.boxed.now = sym c.in-Some.ensures in
    ap Some c.get-in-Some.ensures ∙ rw (← c.self.view_is) (sym (found_there (get c.self.inside.slots) c.self.inside.by_serial.entries c.args.at.serial c.in_ok-slot.slot c.in-Some.boxed.now c.self.invariant at c.in_ok-slot.ensures))
