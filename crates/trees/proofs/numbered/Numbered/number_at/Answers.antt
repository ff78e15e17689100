use Rattle.std.proofs.Common.{Some, ap}
use Rattle.std.proofs.lemmas.Option.{slice_get-map}
use Rattle.trees.specs.Slots.{item_of, items_in}
use Rattle.trees.proofs.SlotLaws.{item_agrees, items_rise}
use Rattle.trees.proofs.numbered.Numbered.number_at.Goals as goal

pub returns-in_err-item-clause-rises : goal.returns-in_err-item-clause-rises
returns-in_err-item-clause-rises g c = rw (← c.self.view_is) (items_rise item_of item_agrees g.T.Keyed.key 0 c.self.inside.slots.items c.self.invariant.0 c.self.invariant.1)

pub returns-clause-number : goal.returns-clause-number
returns-clause-number g c =
    let all = slice_get-map g.T.Keyed.key (items_in c.self.inside.slots.items) c.args.place in
    let here = rw c.as_slice.ensures.value at c.nth_item.ensures in
    let was = c.in_ok-item.was in
    let key = c.key.ensures in
    rw (← c.self.view_is, all, ← here, was) (ap (λ n. Some n) key)

pub returns-clause-rises : goal.returns-clause-rises
returns-clause-rises g c = rw (← c.self.view_is) (items_rise item_of item_agrees g.T.Keyed.key 0 c.self.inside.slots.items c.self.invariant.0 c.self.invariant.1)
