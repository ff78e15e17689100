use Rattle.std.proofs.Common.{is_some, sym, ap, ◌∙◌}
use Rattle.wire_ops.proofs.SlotLaws.{push_new, push_known}
use Rattle.wire_ops.proofs.slots.Slots.push_link.Goals as goal

pub returns-then-is_some : goal.returns-then-is_some
returns-then-is_some c =
    let found = c.if-is_some.ensures ∙ ap is_some c.position.ensures in
    sym (push_known c.args.self.now c.args.value c.in-Link.who c.in-Link.is (sym found))

pub returns : goal.returns
returns c =
    let found = c.if-is_some.ensures ∙ ap is_some c.position.ensures in
    rw (push_new c.args.self.now c.args.value c.in-Link.who c.in-Link.is (sym found)) c.push.ensures
