use Rattle.std.proofs.Common.{◌≡◌, None, ◌∙◌, sym, ap}
use Rattle.std.specs.Option.{option_map}
use Rattle.lists.specs.Rising.{find}
use Rattle.lists.proofs.RisingLaws.{remove_missing}
use Rattle.trees.specs.declared.slot.Slot.{Slot}
use Rattle.trees.specs.Slots.{entries_in, entry_of, slot_number}
use Rattle.trees.proofs.SlotLaws.{entry_agrees, items-hole, rises-set}
use Rattle.instance_table.specs.declared.node.Node.{Node}
use Rattle.instance_table.specs.Nodes.{number_of}
use Rattle.instance_table.proofs.NodeLaws.{entries_own, entries_rise, slot_found, slot_missing}
use Rattle.instance_table.proofs.nodes.take_out.Goals as goal

none_there : (c : goal.In_default) → find number_of c.args.number (entries_in c.args.slots.now.items) ≡ None
none_there c =
    let sides = rw c.as_slice.ensures.value at c.in_default.ensures.missing in
    slot_missing c.args.number c.args.slots.now.items c.in_default.field-0 c.requires sides.1 sides.2

pub returns-in_default-clause-found : goal.returns-in_default-clause-found
returns-in_default-clause-found c = sym (ap (option_map (λ e. e.1)) (none_there c))

pub returns-in_default-clause-rest : goal.returns-in_default-clause-rest
returns-in_default-clause-rest c = sym (remove_missing number_of c.args.number (entries_in c.args.slots.now.items) (none_there c))

pub returns-in_default-clause-before : goal.returns-in_default-clause-before
returns-in_default-clause-before c = entries_rise 0 c.args.slots.now.items c.requires

pub returns-clause-found : goal.returns-clause-found
returns-clause-found c =
    let here = rw c.as_slice.ensures.value at c.in-Ok.ensures.found in
    let found = slot_found c.args.number c.args.slots.now.items c.in-Ok.at c.index_mut.result.now c.requires here.0 (here.1 c.index_mut.result.now) in
    ap (λ (s : Slot Node). s.item) (c.replace.ensures.value ∙ c.index_mut.ensures.value) ∙ sym found

pub returns-clause-rest : goal.returns-clause-rest
returns-clause-rest c =
    let here = rw c.as_slice.ensures.value at c.in-Ok.ensures.found in
    rw c.replace.ensures.after
    (items-hole entry_of entry_agrees number_of 0 c.args.number c.args.slots.now.items c.in-Ok.at c.index_mut.result.now c.requires (entries_own c.args.slots.now.items) here.0 (here.1 c.index_mut.result.now))

pub returns-clause-rises : goal.returns-clause-rises
returns-clause-rises c =
    let here = rw c.as_slice.ensures.value at c.in-Ok.ensures.found in
    rises-set 0 c.args.slots.now.items c.in-Ok.at c.replace.new.dest c.index_mut.result.now c.requires here.0 (ap slot_number c.replace.ensures.after ∙ sym (here.1 c.index_mut.result.now))

pub returns-clause-before : goal.returns-clause-before
returns-clause-before c = entries_rise 0 c.args.slots.now.items c.requires
