use Rattle.std.proofs.Common.{◌∙◌, sym, ap, length}
use Rattle.trees.specs.Slots.{item_of, items_in}
use Rattle.trees.proofs.SlotLaws.{item_agrees, length-exchanged}
use Rattle.trees.proofs.numbered.Numbered.replace.Goals as goal

pub invariant_of-self : goal.invariant_of-self
invariant_of-self g c =
    let done = c.exchange.ensures in
    let same = length-exchanged item_of item_agrees g.T.Keyed.key 0 c.args.item (items_in c.self.inside.slots.items) done.before in
    (done.rises, done.own, c.self.invariant.2 ∙ sym (ap length done.items ∙ same))
