use Rattle.std.proofs.Common.{◌≡◌, ◌+◌, ◌-◌, ◌<◌, length, sym, ap, subst, ◌∙◌, arith}
use Rattle.lists.specs.Rising.{RisesFrom}
use Rattle.wire_ops.specs.Places.{count_below}
use Rattle.wire_ops.specs.Slots.{is_hole}
use Rattle.wire_ops.proofs.CountLaws.{below_most}
use Rattle.wire_ops.proofs.SlotLaws.{closed_rise}
use Rattle.wire_ops.proofs.RestLaws.{set_is_closed, closed_between, not_closed}
use Rattle.wire_ops.proofs.slots.Slots.close_hole.Goals as goal

pub count_below-requires : goal.count_below-requires
count_below-requires c = subst (RisesFrom (λ p. p) 0) (sym (c.deref.ensures.value ∙ c.requires.closed)) (closed_rise 0 c.args.first c.args.slots.now.items (omega arith))

pub insert-requires : goal.insert-requires
insert-requires c = omega (arith, c.count_below.ensures, c.deref.ensures.len, below_most c.args.place c.deref.result.now)

pub returns-in_ok-insert-clause-slots : goal.returns-in_ok-insert-clause-slots
returns-in_ok-insert-clause-slots c =
    let slots = c.args.slots.now.items in
    let i = c.args.place - c.args.first in
    let below : i < length slots = omega (arith, c.requires.within) in
    let there = ap is_hole (sym c.index.ensures) ∙ (sym c.is_hole.ensures ∙ c.if-is_hole.true) in
    set_is_closed slots i c.index.result.now below there

pub returns-in_ok-insert-clause-closed : goal.returns-in_ok-insert-clause-closed
returns-in_ok-insert-clause-closed c =
    let slots = c.args.slots.now.items in
    let i = c.args.place - c.args.first in
    let below : i < length slots = omega (arith, c.requires.within) in
    let there = ap is_hole (sym c.index.ensures) ∙ (sym c.is_hole.ensures ∙ c.if-is_hole.true) in
    let place : c.args.first + i ≡ c.args.place = omega (arith, c.requires.within) in
    let between = rw place at (closed_between c.args.first slots i c.index.result.now below there) in
    let at = c.count_below.ensures ∙ ap (λ ps. count_below ps c.args.place) (c.deref.ensures.value ∙ c.requires.closed) in
    rw (c.in_ok-insert.ensures.items, at, c.requires.closed, set_is_closed slots i c.index.result.now below there) (sym between)

pub returns-else-is_hole-clause-slots : goal.returns-else-is_hole-clause-slots
returns-else-is_hole-clause-slots c =
    let there = ap is_hole (sym c.index.ensures) ∙ (sym c.is_hole.ensures ∙ c.if-is_hole.false) in
    sym (not_closed c.args.slots.now.items (c.args.place - c.args.first) c.index.result.now there)
