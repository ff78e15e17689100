use Rattle.std.proofs.Common.{◌∙◌}
use Rattle.slab.specs.Slab.{get}
use Rattle.hub_core.proofs.SlotLaws.{slot_by_entry}
use Rattle.hub_core.proofs.slots.slot_of.Goals as goal

pub returns-in_default : goal.returns-in_default
returns-in_default g c = slot_by_entry (get c.args.slots.now) c.args.by_serial.now.entries c.args.at.serial c.copied.result c.requires (c.copied.ensures ∙ c.get-in_default.ensures.value)
