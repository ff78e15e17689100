use Rattle.std.proofs.Common.{◌∙◌, sym, ap, arith}
use Rattle.wire_ops.specs.Places.{count_below}
use Rattle.wire_ops.proofs.SlotLaws.{first_within, place_position, position_some, position_none}
use Rattle.wire_ops.proofs.KeptLaws.{rises}
use Rattle.wire_ops.proofs.slots.Slots.position.Goals as goal

pub returns-in_err-place : goal.returns-in_err-place
returns-in_err-place c =
    let s = c.self.inside in
    let none = position_none s.links s.first s.slots.items c.self.invariant.links c.who.inside.0 c.in_err-place.ensures in
    c.from_residual.ensures ∙ sym (rw (c.self.view_is, c.who.view_is) at none)

pub overflow_sub-result : goal.overflow_sub-result
overflow_sub-result c =
    let s = c.self.inside in
    first_within s.links s.first s.slots.items c.self.invariant.links c.who.inside.0 c.in_ok-place.place c.in_ok-place.ensures

pub count_below-requires : goal.count_below-requires
count_below-requires c = rises c.self.inside c.self.invariant c.deref.result.now c.deref.ensures.value

pub overflow_sub-result-2 : goal.overflow_sub-result-2
overflow_sub-result-2 c =
    let s = c.self.inside in
    let same = c.count_below.ensures ∙ ap (λ ps. count_below ps c.in_ok-place.place) (c.deref.ensures.value ∙ c.self.invariant.places) in
    omega (arith, same, place_position s.links s.first s.slots.items c.self.invariant.links c.who.inside.0 c.in_ok-place.place c.in_ok-place.ensures)

pub returns : goal.returns
returns c =
    let s = c.self.inside in
    let same = c.count_below.ensures ∙ ap (λ ps. count_below ps c.in_ok-place.place) (c.deref.ensures.value ∙ c.self.invariant.places) in
    let found = position_some s.links s.first s.slots.items c.self.invariant.links c.who.inside.0 c.in_ok-place.place c.in_ok-place.ensures in
    rw same (sym (rw (c.self.view_is, c.who.view_is) at found))
