use Rattle.std.proofs.Common.{[], ◌∷◌, Some, refl, sym, zero-le, arith}
use Rattle.std.proofs.lemmas.List.{length-append}
use Rattle.lists.proofs.RisingLaws.{RisesFrom-push}
use Rattle.trees.specs.declared.slot.Slot.{Slot}
use Rattle.trees.specs.Slots.{item_of, items_in, slot_number}
use Rattle.trees.proofs.SlotLaws.{item_agrees, items-push, items_fewer, own-push, slots_above}
use Rattle.trees.proofs.numbered.Numbered.push_or_return.Goals as goal

pub overflow_add-self : goal.overflow_add-self
overflow_add-self g c =
    let slots = c.self.inside.slots in
    omega (arith, items_fewer item_of item_agrees slots.items, c.self.invariant.2, slots.ok, slots.small)

pub invariant_of-self-2 : goal.invariant_of-self-2
invariant_of-self-2 g c =
    let key = g.T.Keyed.key in
    let es = c.drop_last_holes.new.slots.items in
    let kept = c.drop_last_holes.ensures in
    let slot : Slot g.row.T.Denot = record { number = c.key-number.result; item = Some c.args.item } in
    let above = rw (← c.self.view_is, ← kept.items, ← c.key-number.ensures) at c.requires in
    let slots = slots_above item_of item_agrees key 0 c.key-number.result es kept.rises (kept.own g.T.Keyed.key c.self.invariant.1) kept.full above in
    rw (c.push_reserved.ensures.items, c.reserve.ensures.items) (
      RisesFrom-push slot_number 0 es slot kept.rises slots zero-le,
      own-push item_of item_agrees key es slot (kept.own g.T.Keyed.key c.self.invariant.1) (sym c.key-number.ensures),
      rw (items-push item_of item_agrees es slot, kept.items) (omega (arith, c.self.invariant.2, length-append (items_in c.self.inside.slots.items) (c.args.item ∷ []))),
    )

pub returns-clause-items : goal.returns-clause-items
returns-clause-items g c =
    let es = c.drop_last_holes.new.slots.items in
    let slot : Slot g.row.T.Denot = record { number = c.key-number.result; item = Some c.args.item } in
    rw (c.push_reserved.ensures.items, c.reserve.ensures.items, items-push item_of item_agrees es slot, c.drop_last_holes.ensures.items, ← c.self.view_is) refl

pub invariant_of-self : goal.invariant_of-self
invariant_of-self g c =
    let kept = c.drop_last_holes.ensures in
    rw (c.reserve.ensures.items, kept.items) (kept.rises, kept.own g.T.Keyed.key c.self.invariant.1, c.self.invariant.2)
