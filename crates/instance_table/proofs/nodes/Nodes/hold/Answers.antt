use Rattle.std.proofs.Common.{◌∙◌, cond, is_ok, sym, ap₂, subst}
use Rattle.lists.specs.Rising.{RisesFrom}
use Rattle.trees.specs.Slots.{entries_in}
use Rattle.instance_table.specs.Nodes.{at_node, held_more, number_of}
use Rattle.instance_table.proofs.NodeLaws.{at_missing, entries_rise, slot_missing, slots_edited}
use Rattle.instance_table.proofs.nodes.Nodes.hold.Goals as goal

pub returns-in_default-clause-after : goal.returns-in_default-clause-after
returns-in_default-clause-after c =
    let sides = rw c.as_slice.ensures.value at c.in_default.ensures.missing in
    let none = slot_missing c.who.inside.0 c.self.inside.slots.items c.in_default.field-0 c.self.invariant.0 sides.1 sides.2 in
    let same = at_missing c.who.inside.0 (held_more c.args.holder) (entries_in c.self.inside.slots.items) none in
    sym c.self.view_is ∙ (sym same ∙ ap₂ (λ k es. at_node k (held_more c.args.holder) es) c.who.view_is c.self.view_is)

pub returns-in_default-clause-rises : goal.returns-in_default-clause-rises
returns-in_default-clause-rises c = subst (RisesFrom number_of 0) c.self.view_is (entries_rise 0 c.self.inside.slots.items c.self.invariant.0)

pub invariant_of-self : goal.invariant_of-self
invariant_of-self c =
    let here = rw c.as_slice.ensures.value at c.in-Ok.ensures.found in
    let law = slots_edited (is_ok c.hold.result) (held_more c.args.holder)
    c.who.inside.0 c.self.inside.slots.items c.in-Ok.at c.index_mut.result.now c.hold.new.slot c.self.inside.len c.self.invariant.0 c.self.invariant.1 here.0 here.1 c.index_mut.ensures.value c.hold.ensures in
    law.0

pub returns-clause-after : goal.returns-clause-after
returns-clause-after c =
    let here = rw c.as_slice.ensures.value at c.in-Ok.ensures.found in
    let law = slots_edited (is_ok c.hold.result) (held_more c.args.holder)
    c.who.inside.0 c.self.inside.slots.items c.in-Ok.at c.index_mut.result.now c.hold.new.slot c.self.inside.len c.self.invariant.0 c.self.invariant.1 here.0 here.1 c.index_mut.ensures.value c.hold.ensures in
    law.1 ∙ ap₂ (λ k es. cond (is_ok c.hold.result) (at_node k (held_more c.args.holder) es) es) c.who.view_is c.self.view_is

pub returns-clause-rises : goal.returns-clause-rises
returns-clause-rises c = subst (RisesFrom number_of 0) c.self.view_is (entries_rise 0 c.self.inside.slots.items c.self.invariant.0)
