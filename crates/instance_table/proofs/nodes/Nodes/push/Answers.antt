use Rattle.std.proofs.Common.{Some, [], ◌∷◌, length-append, zero-le, refl, arith}
use Rattle.lists.proofs.RisingLaws.{RisesFrom-push}
use Rattle.trees.specs.declared.slot.Slot.{Slot}
use Rattle.trees.specs.Slots.{entries_in, entry_of, slot_number}
use Rattle.trees.proofs.SlotLaws.{entry_agrees, items_fewer, items-push, slots_above}
use Rattle.instance_table.specs.declared.node.Node.{Node}
use Rattle.instance_table.specs.Nodes.{number_of}
use Rattle.instance_table.proofs.NodeLaws.{entries_own}
use Rattle.instance_table.proofs.nodes.Nodes.push.Goals as goal

pub overflow_add-self : goal.overflow_add-self
overflow_add-self c =
    let slots = c.self.inside.slots in
    omega (arith, items_fewer entry_of entry_agrees slots.items, c.self.invariant.1, slots.ok, slots.small)

pub invariant_of-self-2 : goal.invariant_of-self-2
invariant_of-self-2 c =
    let es = c.drop_last_holes.new.slots.items in
    let kept = c.drop_last_holes.ensures in
    let slot : Slot Node = record { number = c.who.inside.0; item = Some c.args.node } in
    let above = rw (← c.self.view_is, ← c.who.view_is, ← kept.entries) at c.requires in
    let slots = slots_above entry_of entry_agrees number_of 0 c.who.inside.0 es kept.rises (entries_own es) kept.full above in
    rw c.in_ok-push_exact.ensures (
      RisesFrom-push slot_number 0 es slot kept.rises slots zero-le,
      rw (items-push entry_of entry_agrees es slot, kept.entries) (omega (arith, c.self.invariant.1, length-append (entries_in c.self.inside.slots.items) ((c.who.inside.0, c.args.node) ∷ []))),
    )

pub returns : goal.returns
returns c =
    let es = c.drop_last_holes.new.slots.items in
    let slot : Slot Node = record { number = c.who.inside.0; item = Some c.args.node } in
    rw (c.in_ok-push_exact.ensures, items-push entry_of entry_agrees es slot, c.drop_last_holes.ensures.entries, ← c.self.view_is, ← c.who.view_is) refl

pub invariant_of-self : goal.invariant_of-self
invariant_of-self c =
    let kept = c.drop_last_holes.ensures in
    rw (c.in_err-push_exact.ensures, kept.entries) (kept.rises, c.self.invariant.1)
