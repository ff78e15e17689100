use Rattle.slab.specs.Slab.{get}
use Rattle.hub_core.proofs.SlotLaws.{rises_slots}
use Rattle.hub_core.proofs.slots.Slots.know.Goals as goal

pub returns : goal.returns
returns g c = rw (← c.self.view_is) (rises_slots (get c.self.inside.slots) 0 c.self.inside.by_serial.entries c.self.invariant.filled c.self.invariant.rises)
