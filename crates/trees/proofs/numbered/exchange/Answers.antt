use Rattle.std.proofs.Common.{◌≡◌, ◌∙◌, Some, cond, true, not, is_some, refl, sym, ap}
use Rattle.lists.specs.Rising.{find, put}
use Rattle.trees.specs.declared.slot.Slot.{Slot}
use Rattle.trees.specs.Slots.{item_of, items_in, slot_number}
use Rattle.trees.proofs.SlotLaws.{find_at_slot, find_no_slot, item_agrees, items-put, items_rise, none_if, own-set, rises-set}
use Rattle.trees.proofs.numbered.exchange.Goals as goal

pub returns-in_default-clause-found : goal.returns-in_default-clause-found
returns-in_default-clause-found g c =
    let sides = rw (c.as_slice.ensures.value, c.key-number.ensures) at c.in_default.ensures.missing in
    sym (find_no_slot item_of item_agrees g.T.Keyed.key (g.T.Keyed.key c.args.item) c.args.slots.now.items c.in_default.field-0 c.requires.rises c.requires.own sides.1 sides.2)

pub returns-in_default-clause-items : goal.returns-in_default-clause-items
returns-in_default-clause-items g c =
    let items = items_in c.args.slots.now.items in
    let sides = rw (c.as_slice.ensures.value, c.key-number.ensures) at c.in_default.ensures.missing in
    let none = find_no_slot item_of item_agrees g.T.Keyed.key (g.T.Keyed.key c.args.item) c.args.slots.now.items c.in_default.field-0 c.requires.rises c.requires.own sides.1 sides.2 in
    sym (ap (λ o. cond (is_some o) (put g.T.Keyed.key c.args.item items) items) none)

pub returns-in_default-clause-before : goal.returns-in_default-clause-before
returns-in_default-clause-before g c = items_rise item_of item_agrees g.T.Keyed.key 0 c.args.slots.now.items c.requires.rises c.requires.own

pub returns-then-is_none-clause-found : goal.returns-then-is_none-clause-found
returns-then-is_none-clause-found g c =
    let here = rw (c.as_slice.ensures.value, c.key-number.ensures) at c.in-Ok.ensures.found in
    let found = find_at_slot item_of item_agrees g.T.Keyed.key (g.T.Keyed.key c.args.item) c.args.slots.now.items c.in-Ok.at c.index.result.now c.requires.rises c.requires.own here.0 (here.1 c.index.result.now) in
    sym (found ∙ ap (λ s. s.item) (sym c.index.ensures) ∙ none_if c.index.result.now.item c.is_none.result c.is_none.ensures c.if-is_none.true)

pub returns-then-is_none-clause-items : goal.returns-then-is_none-clause-items
returns-then-is_none-clause-items g c =
    let items = items_in c.args.slots.now.items in
    let here = rw (c.as_slice.ensures.value, c.key-number.ensures) at c.in-Ok.ensures.found in
    let found = find_at_slot item_of item_agrees g.T.Keyed.key (g.T.Keyed.key c.args.item) c.args.slots.now.items c.in-Ok.at c.index.result.now c.requires.rises c.requires.own here.0 (here.1 c.index.result.now) in
    let none = found ∙ ap (λ s. s.item) (sym c.index.ensures) ∙ none_if c.index.result.now.item c.is_none.result c.is_none.ensures c.if-is_none.true in
    sym (ap (λ o. cond (is_some o) (put g.T.Keyed.key c.args.item items) items) none)

pub returns-then-is_none-clause-before : goal.returns-then-is_none-clause-before
returns-then-is_none-clause-before g c = items_rise item_of item_agrees g.T.Keyed.key 0 c.args.slots.now.items c.requires.rises c.requires.own

pub returns-clause-found : goal.returns-clause-found
returns-clause-found g c =
    let here = rw (c.as_slice.ensures.value, c.key-number.ensures) at c.in-Ok.ensures.found in
    let found = find_at_slot item_of item_agrees g.T.Keyed.key (g.T.Keyed.key c.args.item) c.args.slots.now.items c.in-Ok.at c.index_mut.result.now c.requires.rises c.requires.own here.0 (here.1 c.index_mut.result.now) in
    ap (λ s. s.item) (c.replace.ensures.value ∙ c.index_mut.ensures.value) ∙ sym found

pub returns-clause-items : goal.returns-clause-items
returns-clause-items g c =
    let items = items_in c.args.slots.now.items in
    let here = rw (c.as_slice.ensures.value, c.key-number.ensures) at c.in-Ok.ensures.found in
    let found = find_at_slot item_of item_agrees g.T.Keyed.key (g.T.Keyed.key c.args.item) c.args.slots.now.items c.in-Ok.at c.index.result.now c.requires.rises c.requires.own here.0 (here.1 c.index.result.now) in
    let some : is_some (find g.T.Keyed.key (g.T.Keyed.key c.args.item) items) ≡ true = ap is_some (found ∙ ap (λ s. s.item) (sym c.index.ensures)) ∙ (c.is_none.ensures ∙ ap not c.if-is_none.false) in
    let slot : Slot g.row.T.Denot = record { number = g.T.Keyed.key c.args.item; item = Some c.args.item } in
    rw (c.replace.ensures.after, c.key-number.ensures, some)
    (items-put item_of item_agrees g.T.Keyed.key 0 c.args.item slot c.args.slots.now.items c.in-Ok.at c.index.result.now refl c.requires.rises c.requires.own here.0 (here.1 c.index.result.now)
    (ap (λ s. is_some s.item) (sym c.index.ensures) ∙ (c.is_none.ensures ∙ ap not c.if-is_none.false)))

pub returns-clause-rises : goal.returns-clause-rises
returns-clause-rises g c =
    let here = rw (c.as_slice.ensures.value, c.key-number.ensures) at c.in-Ok.ensures.found in
    rises-set 0 c.args.slots.now.items c.in-Ok.at c.replace.new.dest c.index.result.now c.requires.rises here.0 (ap slot_number c.replace.ensures.after ∙ (c.key-number.ensures ∙ sym (here.1 c.index.result.now)))

pub returns-clause-own : goal.returns-clause-own
returns-clause-own g c = own-set item_of item_agrees g.T.Keyed.key c.args.slots.now.items c.in-Ok.at c.replace.new.dest c.requires.own (rw c.replace.ensures.after (sym c.key-number.ensures))

pub returns-clause-before : goal.returns-clause-before
returns-clause-before g c = items_rise item_of item_agrees g.T.Keyed.key 0 c.args.slots.now.items c.requires.rises c.requires.own
