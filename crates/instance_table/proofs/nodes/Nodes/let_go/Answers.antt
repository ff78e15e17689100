use Rattle.std.proofs.Common.{◌∙◌, Bool, Option, true, false, sym, ap, ap₂, subst}
use Rattle.std.specs.Option.{option_map, option_map_or}
use Rattle.lists.specs.Rising.{RisesFrom}
use Rattle.trees.specs.declared.slot.Slot.{Slot}
use Rattle.trees.specs.Slots.{entries_in}
use Rattle.instance_table.specs.declared.node.Node.{Node}
use Rattle.instance_table.specs.Holders.{without_one}
use Rattle.instance_table.specs.Nodes.{at_node, held_less, node_at, number_of, wakes}
use Rattle.instance_table.proofs.NodeLaws.{at_missing, entries_rise, slot_found, slot_missing, slots_edited}
use Rattle.instance_table.proofs.nodes.Nodes.let_go.Goals as goal

pub returns-in_default-clause-after : goal.returns-in_default-clause-after
returns-in_default-clause-after c =
    let sides = rw c.as_slice.ensures.value at c.in_default.ensures.missing in
    let none = slot_missing c.who.inside.0 c.self.inside.slots.items c.in_default.field-0 c.self.invariant.0 sides.1 sides.2 in
    let same = at_missing c.who.inside.0 (held_less c.args.holder) (entries_in c.self.inside.slots.items) none in
    sym c.self.view_is ∙ (sym same ∙ ap₂ (λ k es. at_node k (held_less c.args.holder) es) c.who.view_is c.self.view_is)

pub returns-in_default-clause-rises : goal.returns-in_default-clause-rises
returns-in_default-clause-rises c = subst (RisesFrom number_of 0) c.self.view_is (entries_rise 0 c.self.inside.slots.items c.self.invariant.0)

pub invariant_of-self : goal.invariant_of-self
invariant_of-self c =
    let here = rw c.as_slice.ensures.value at c.in-Ok.ensures.found in
    let law = slots_edited true (held_less c.args.holder) c.who.inside.0 c.self.inside.slots.items c.in-Ok.at c.index_mut.result.now c.let_go.new.slot c.self.inside.len c.self.invariant.0
    c.self.invariant.1 here.0 here.1 c.index_mut.ensures.value c.let_go.ensures.after in
    law.0

pub returns-clause-after : goal.returns-clause-after
returns-clause-after c =
    let here = rw c.as_slice.ensures.value at c.in-Ok.ensures.found in
    let law = slots_edited true (held_less c.args.holder) c.who.inside.0 c.self.inside.slots.items c.in-Ok.at c.index_mut.result.now c.let_go.new.slot c.self.inside.len c.self.invariant.0
    c.self.invariant.1 here.0 here.1 c.index_mut.ensures.value c.let_go.ensures.after in
    law.1 ∙ ap₂ (λ k es. at_node k (held_less c.args.holder) es) c.who.view_is c.self.view_is

pub returns-clause-rises : goal.returns-clause-rises
returns-clause-rises c = subst (RisesFrom number_of 0) c.self.view_is (entries_rise 0 c.self.inside.slots.items c.self.invariant.0)

pub returns-in_default-clause-value : goal.returns-in_default-clause-value
returns-in_default-clause-value c =
    let sides = rw c.as_slice.ensures.value at c.in_default.ensures.missing in
    let none = slot_missing c.who.inside.0 c.self.inside.slots.items c.in_default.field-0 c.self.invariant.0 sides.1 sides.2 in
    let test : Option Node → Bool = λ o. option_map_or (λ (n : Node). wakes (without_one c.args.holder n.holders) n.waits) o false in
    sym (ap test (sym (ap₂ node_at c.self.view_is c.who.view_is) ∙ ap (option_map (λ e. e.1)) none))

pub returns-clause-value : goal.returns-clause-value
returns-clause-value c =
    let here = rw c.as_slice.ensures.value at c.in-Ok.ensures.found in
    let found = slot_found c.who.inside.0 c.self.inside.slots.items c.in-Ok.at c.index_mut.result.now c.self.invariant.0 here.0 (here.1 c.index_mut.result.now) in
    let test : Option Node → Bool = λ o. option_map_or (λ (n : Node). wakes (without_one c.args.holder n.holders) n.waits) o false in
    c.let_go.ensures.value ∙ ap test (ap (λ (s : Slot Node). s.item) c.index_mut.ensures.value ∙ (sym found ∙ ap₂ node_at c.self.view_is c.who.view_is))
