use Rattle.std.proofs.Common.{arith}
use Rattle.lists.proofs.Places.{next_is_above}
use Rattle.lists.proofs.rising.Rising.copy.Goals as goal

pub push-requires : goal.push-requires
push-requires g c =
    next_is_above g.T.Keyed.key c.args.self.now c.as_slice-item-items.result.now _ c.loop-item.item-index c.item-item.result _
    c.is_empty.ensures.rises c.as_slice-item-items.ensures c.loop-item.invariant (omega arith) c.item-item.is c.in_ok-copy.ensures
