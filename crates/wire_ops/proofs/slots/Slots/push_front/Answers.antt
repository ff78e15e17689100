use Rattle.wire_ops.proofs.KeptLaws.{kept_in_front}
use Rattle.wire_ops.proofs.slots.Slots.push_front.Goals as goal

pub invariant_of-self-2 : goal.invariant_of-self-2
invariant_of-self-2 c =
    rw (c.push_front_reserved.ensures.items, c.in_ok-reserve.ensures.items) (kept_in_front c.self.inside c.self.invariant c.add.new.self c.args.value c.in_ok-add.ensures.ok)
