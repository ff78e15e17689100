use Rattle.std.proofs.Common.{◌∙◌, sym}
use Rattle.wire_ops.proofs.SlotLaws.{drop_some, drop_none}
use Rattle.wire_ops.proofs.slots.Slots.drop_link.Goals as goal

pub returns-in_ok-make_hole : goal.returns-in_ok-make_hole
returns-in_ok-make_hole c = c.in_ok-make_hole.ensures ∙ sym (drop_some c.args.self.now c.args.who c.in-Some.at (sym c.in-Some.ensures))

pub returns-in_default : goal.returns-in_default
returns-in_default c = sym (drop_none c.args.self.now c.args.who (sym c.in_default.ensures))
