use Rattle.std.proofs.Common.{◌≡◌, length, ◌∙◌}
use Rattle.wire_ops.proofs.SlotLaws.{shown_behind}
use Rattle.wire_ops.proofs.KeptLaws.{kept_behind}
use Rattle.wire_ops.proofs.slots.Slots.push.Goals as goal

pub invariant_of-self-2 : goal.invariant_of-self-2
invariant_of-self-2 c =
    let s = c.self.inside in
    let n : c.len.result ≡ length s.slots.items = c.len.ensures ∙ (c.in_ok-reserve.ensures.len ∙ s.slots.ok.0) in
    rw (c.push_back_reserved.ensures.items, c.in_ok-reserve.ensures.items) (kept_behind s c.self.invariant c.add.new.self c.args.value (rw n at c.in_ok-add.ensures.ok))

pub returns : goal.returns
returns c = rw (c.push_back_reserved.ensures.items, c.in_ok-reserve.ensures.items, ← c.self.view_is) (shown_behind c.self.inside.slots.items c.args.value)
