use Rattle.std.proofs.Common.{sym}
use Rattle.trees.specs.Slots.{item_of}
use Rattle.trees.proofs.SlotLaws.{find_at_slot, find_no_slot, item_agrees, items_rise}
use Rattle.trees.proofs.numbered.found.Goals as goal

pub returns-in-Ok-clause-value : goal.returns-in-Ok-clause-value
returns-in-Ok-clause-value g c =
    let here = c.in-Ok.ensures.found in
    let found = find_at_slot item_of item_agrees g.T.Keyed.key c.args.number c.args.slots.now c.in-Ok.at c.index-slots-at.result c.requires.rises c.requires.own here.0 (here.1 c.index-slots-at.result) in
    cc

pub returns-in-Ok-clause-rises : goal.returns-in-Ok-clause-rises
returns-in-Ok-clause-rises g c = items_rise item_of item_agrees g.T.Keyed.key 0 c.args.slots.now c.requires.rises c.requires.own

pub returns-in-Err-clause-value : goal.returns-in-Err-clause-value
returns-in-Err-clause-value g c =
    let sides = c.in-Err.ensures.missing in
    sym (find_no_slot item_of item_agrees g.T.Keyed.key c.args.number c.args.slots.now c.in-Err.field-0 c.requires.rises c.requires.own sides.1 sides.2)

pub returns-in-Err-clause-rises : goal.returns-in-Err-clause-rises
returns-in-Err-clause-rises g c = items_rise item_of item_agrees g.T.Keyed.key 0 c.args.slots.now c.requires.rises c.requires.own
