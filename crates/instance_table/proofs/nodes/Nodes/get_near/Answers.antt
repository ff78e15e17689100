use Rattle.std.proofs.Common.{◌∙◌, ap, ap₂, sym}
use Rattle.std.specs.Option.{option_map}
use Rattle.trees.specs.declared.slot.Slot.{Slot}
use Rattle.instance_table.specs.declared.node.Node.{Node}
use Rattle.instance_table.specs.Nodes.{node_at}
use Rattle.instance_table.proofs.NodeLaws.{slot_found, slot_missing}
use Rattle.instance_table.proofs.nodes.Nodes.get_near.Goals as goal

pub returns-in-Ok : goal.returns-in-Ok
returns-in-Ok c =
    let here = rw c.as_slice.ensures.value at c.in-Ok.ensures.found in
    let found = slot_found c.who.inside.0 c.self.inside.slots.items c.in-Ok.at c.index.result.now c.self.invariant.0 here.0 (here.1 c.index.result.now) in
    c.as_ref.ensures.value ∙ ap (λ (s : Slot Node). s.item) c.index.ensures ∙ sym found ∙ ap₂ node_at c.self.view_is c.who.view_is

pub returns-in-Err : goal.returns-in-Err
returns-in-Err c =
    let sides = rw c.as_slice.ensures.value at c.in-Err.ensures.missing in
    let none = slot_missing c.who.inside.0 c.self.inside.slots.items c.in-Err.field-0 c.self.invariant.0 sides.1 sides.2 in
    sym (sym (ap₂ node_at c.self.view_is c.who.view_is) ∙ ap (option_map (λ e. e.1)) none)
