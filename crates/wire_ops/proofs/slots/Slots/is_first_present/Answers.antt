use Rattle.std.proofs.Common.{◌<◌, length, is_some, sym, ap, ◌∙◌, arith}
use Rattle.wire_ops.specs.Slots.{shown, held}
use Rattle.wire_ops.proofs.SlotLaws.{first_present}
use Rattle.wire_ops.proofs.KeptLaws.{rises, index_is, index_below}
use Rattle.wire_ops.proofs.slots.Slots.is_first_present.Goals as goal

pub index_of-requires-clause-rising : goal.index_of-requires-clause-rising
index_of-requires-clause-rising c = rises c.self.inside c.self.invariant c.deref.result.now c.deref.ensures.value

pub index-requires : goal.index-requires
index-requires c =
    let s = c.self.inside in
    let within : 0 < length (shown s.slots.items) = rw c.self.view_is (omega (arith, c.len.ensures, c.if-len-gt0.true)) in
    omega (arith, s.slots.ok.0, index_below s c.self.invariant 0 within c.deref.result.now c.deref.ensures.value c.index_of.result c.index_of.ensures)

pub returns-then-len-gt0 : goal.returns-then-len-gt0
returns-then-len-gt0 c =
    let s = c.self.inside in
    let within : 0 < length (shown s.slots.items) = rw c.self.view_is (omega (arith, c.len.ensures, c.if-len-gt0.true)) in
    let is = index_is s c.self.invariant 0 within c.deref.result.now c.deref.ensures.value c.index_of.result c.index_of.ensures in
    let there = rw is at c.index.ensures in
    rw (← c.self.view_is) (c.is_held.ensures ∙ (ap (λ x. is_some (held x)) there ∙ sym (first_present s.slots.items c.index.result.now within)))
