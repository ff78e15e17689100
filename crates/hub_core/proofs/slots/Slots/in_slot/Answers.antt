use Rattle.std.proofs.Common.{◌≡◌, Some, sym, ap}
use Rattle.slab.specs.Slab.{get}
use Rattle.hub_core.specs.RoomEntry.{serial_of}
use Rattle.hub_core.proofs.SlotLaws.{found_there}
use Rattle.std.specs.Option.{option_map}
use Rattle.hub_core.proofs.slots.Slots.in_slot.Goals as goal

pub returns-in-Some : goal.returns-in-Some
returns-in-Some g c =
    let at : get c.self.inside.slots c.args.slot ≡ Some c.in-Some.boxed.now = sym c.in-Some.ensures in
    rw (c.get-in-Some.ensures, ← c.self.view_is) (found_there (get c.self.inside.slots) c.self.inside.by_serial.entries c.in-Some.boxed.now.serial c.args.slot c.in-Some.boxed.now c.self.invariant at (ap (option_map serial_of) at))
