use Rattle.std.proofs.Common.{◌∙◌, sym, arith}
use Rattle.trees.specs.Slots.{item_of, items_in}
use Rattle.trees.proofs.SlotLaws.{item_agrees, length-missed, length-taken}
use Rattle.trees.proofs.numbered.Numbered.remove.Goals as goal

pub invariant_of-self : goal.invariant_of-self
invariant_of-self g c =
    let take = c.take_out.ensures in
    let same = length-missed item_of item_agrees g.T.Keyed.key 0 c.args.number (items_in c.self.inside.slots.items) take.before (sym take.found ∙ c.in_err-item.was) in
    (take.rises, take.own, rw take.rest (c.self.invariant.2 ∙ sym same))

pub invariant_of-self-then-len-self : goal.invariant_of-self-then-len-self
invariant_of-self-then-len-self g c =
    let take = c.take_out.ensures in
    let close = c.close_holes.ensures in
    let less = length-taken item_of item_agrees g.T.Keyed.key 0 c.args.number (items_in c.self.inside.slots.items) c.in_ok-item.item take.before (sym take.found ∙ c.in_ok-item.was) in
    (close.rises, close.own g.T.Keyed.key take.own, rw (close.items, take.rest) (omega (arith, c.self.invariant.2, less)))

pub invariant_of-self-else-len-self : goal.invariant_of-self-else-len-self
invariant_of-self-else-len-self g c =
    let take = c.take_out.ensures in
    let less = length-taken item_of item_agrees g.T.Keyed.key 0 c.args.number (items_in c.self.inside.slots.items) c.in_ok-item.item take.before (sym take.found ∙ c.in_ok-item.was) in
    (take.rises, take.own, rw take.rest (omega (arith, c.self.invariant.2, less)))
