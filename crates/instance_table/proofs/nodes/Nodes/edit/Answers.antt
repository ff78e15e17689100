use Rattle.std.proofs.Common.{◌∙◌, ◌≡◌, Option, IfSome, cond, is_ok, sym, ap, ap₂, subst}
use Rattle.lists.specs.Rising.{RisesFrom}
use Rattle.trees.specs.declared.slot.Slot.{Slot}
use Rattle.trees.specs.Slots.{entries_in}
use Rattle.instance_table.specs.declared.node.Node.{Node}
use Rattle.instance_table.specs.Bodies.{CanEdit, row_of}
use Rattle.instance_table.specs.Changes.{edited_node}
use Rattle.instance_table.specs.Found.{item_number}
use Rattle.instance_table.specs.Nodes.{at_node, node_at, number_of}
use Rattle.instance_table.proofs.NodeLaws.{at_missing, entries_rise, slot_found, slot_missing, slots_edited}
use Rattle.instance_table.proofs.nodes.Nodes.edit.Goals as goal

pub returns-in_default-clause-after : goal.returns-in_default-clause-after
returns-in_default-clause-after c =
    let sides = rw c.as_slice.ensures.value at c.in_default.ensures.missing in
    let none = slot_missing c.who.inside.0 c.self.inside.slots.items c.in_default.field-0 c.self.invariant.0 sides.1 sides.2 in
    let same = at_missing c.who.inside.0 (edited_node c.args.command.now) (entries_in c.self.inside.slots.items) none in
    sym c.self.view_is ∙ (sym same ∙ ap₂ (λ k es. at_node k (edited_node c.args.command.now) es) c.who.view_is c.self.view_is)

pub returns-in_default-clause-rises : goal.returns-in_default-clause-rises
returns-in_default-clause-rises c = subst (RisesFrom number_of 0) c.self.view_is (entries_rise 0 c.self.inside.slots.items c.self.invariant.0)

pub invariant_of-self : goal.invariant_of-self
invariant_of-self c =
    let here = rw c.as_slice.ensures.value at c.in-Ok.ensures.found in
    let law = slots_edited (is_ok c.edit.result) (edited_node c.args.command.now)
    c.who.inside.0 c.self.inside.slots.items c.in-Ok.at c.index_mut.result.now c.edit.new.slot c.self.inside.len c.self.invariant.0 c.self.invariant.1 here.0 here.1 c.index_mut.ensures.value c.edit.ensures.after in
    law.0

pub returns-clause-after : goal.returns-clause-after
returns-clause-after c =
    let here = rw c.as_slice.ensures.value at c.in-Ok.ensures.found in
    let law = slots_edited (is_ok c.edit.result) (edited_node c.args.command.now)
    c.who.inside.0 c.self.inside.slots.items c.in-Ok.at c.index_mut.result.now c.edit.new.slot c.self.inside.len c.self.invariant.0 c.self.invariant.1 here.0 here.1 c.index_mut.ensures.value c.edit.ensures.after in
    law.1 ∙ ap₂ (λ k es. cond (is_ok c.edit.result) (at_node k (edited_node c.args.command.now) es) es) c.who.view_is c.self.view_is

pub returns-clause-rises : goal.returns-clause-rises
returns-clause-rises c = subst (RisesFrom number_of 0) c.self.view_is (entries_rise 0 c.self.inside.slots.items c.self.invariant.0)

-- the row in the slot is that of the number
there : (c : goal.After-edit-arg-1) → node_at c.args.self.now c.args.who ≡ c.index_mut.result.now.item
there c =
    let here = rw c.as_slice.ensures.value at c.in-Ok.ensures.found in
    let found = slot_found c.who.inside.0 c.self.inside.slots.items c.in-Ok.at c.index_mut.result.now c.self.invariant.0 here.0 (here.1 c.index_mut.result.now) in
    sym (ap₂ node_at c.self.view_is c.who.view_is) ∙ (found ∙ ap (λ (s : Slot Node). s.item) (sym c.index_mut.ensures.value))

pub edit-requires-clause-number : goal.edit-requires-clause-number
edit-requires-clause-number c = subst (λ (o : Option Node). IfSome o (λ n. c.args.located.now.number ≡ item_number c.args.command.now (row_of n.body))) (there c) c.requires.number

pub edit-requires-clause-can : goal.edit-requires-clause-can
edit-requires-clause-can c = subst (λ (o : Option Node). IfSome o (λ n. CanEdit c.args.command.now n.body)) (there c) c.requires.can
