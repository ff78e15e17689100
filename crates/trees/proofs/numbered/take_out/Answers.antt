use Rattle.std.proofs.Common.{◌≡◌, None, ◌∙◌, sym, ap}
use Rattle.lists.specs.Rising.{find}
use Rattle.lists.proofs.RisingLaws.{remove_missing}
use Rattle.trees.specs.Slots.{item_of, items_in, slot_number}
use Rattle.trees.proofs.SlotLaws.{find_at_slot, find_no_slot, item_agrees, items-hole, items_rise, own-set, rises-set}
use Rattle.trees.proofs.numbered.take_out.Given.{Over}
use Rattle.trees.proofs.numbered.take_out.Goals as goal

none_there : (g : Over) (c : goal.In_default g) → find g.T.Keyed.key c.args.number (items_in c.args.slots.now.items) ≡ None
none_there g c =
    let sides = rw c.as_slice.ensures.value at c.in_default.ensures.missing in
    find_no_slot item_of item_agrees g.T.Keyed.key c.args.number c.args.slots.now.items c.in_default.field-0 c.requires.rises c.requires.own sides.1 sides.2

pub returns-in_default-clause-found : goal.returns-in_default-clause-found
returns-in_default-clause-found g c = sym (none_there g c)

pub returns-in_default-clause-rest : goal.returns-in_default-clause-rest
returns-in_default-clause-rest g c = sym (remove_missing g.T.Keyed.key c.args.number (items_in c.args.slots.now.items) (none_there g c))

pub returns-in_default-clause-before : goal.returns-in_default-clause-before
returns-in_default-clause-before g c = items_rise item_of item_agrees g.T.Keyed.key 0 c.args.slots.now.items c.requires.rises c.requires.own

pub returns-clause-found : goal.returns-clause-found
returns-clause-found g c =
    let here = rw c.as_slice.ensures.value at c.in-Ok.ensures.found in
    let found = find_at_slot item_of item_agrees g.T.Keyed.key c.args.number c.args.slots.now.items c.in-Ok.at c.index_mut.result.now c.requires.rises c.requires.own here.0 (here.1 c.index_mut.result.now) in
    ap (λ s. s.item) (c.replace.ensures.value ∙ c.index_mut.ensures.value) ∙ sym found

pub returns-clause-rest : goal.returns-clause-rest
returns-clause-rest g c =
    let here = rw c.as_slice.ensures.value at c.in-Ok.ensures.found in
    rw c.replace.ensures.after
    (items-hole item_of item_agrees g.T.Keyed.key 0 c.args.number c.args.slots.now.items c.in-Ok.at c.index_mut.result.now c.requires.rises c.requires.own here.0 (here.1 c.index_mut.result.now))

pub returns-clause-rises : goal.returns-clause-rises
returns-clause-rises g c =
    let here = rw c.as_slice.ensures.value at c.in-Ok.ensures.found in
    rises-set 0 c.args.slots.now.items c.in-Ok.at c.replace.new.dest c.index_mut.result.now c.requires.rises here.0 (ap slot_number c.replace.ensures.after ∙ sym (here.1 c.index_mut.result.now))

pub returns-clause-own : goal.returns-clause-own
returns-clause-own g c = own-set item_of item_agrees g.T.Keyed.key c.args.slots.now.items c.in-Ok.at c.replace.new.dest c.requires.own (rw c.replace.ensures.after tt)

pub returns-clause-before : goal.returns-clause-before
returns-clause-before g c = items_rise item_of item_agrees g.T.Keyed.key 0 c.args.slots.now.items c.requires.rises c.requires.own
