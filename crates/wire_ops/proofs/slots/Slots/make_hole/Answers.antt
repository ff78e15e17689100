use Rattle.std.proofs.Common.{None, refl, arith}
use Rattle.wire_ops.specs.declared.slots.Slot.TheVariants.{Hole}
use Rattle.wire_ops.proofs.SlotLaws.{set_shown}
use Rattle.wire_ops.proofs.KeptLaws.{kept_hole, rises, index_fits, index_is, index_below}
use Rattle.wire_ops.proofs.slots.Slots.make_hole.Goals as goal

pub index_of-index-requires-clause-rising : goal.index_of-index-requires-clause-rising
index_of-index-requires-clause-rising c = rises c.self.inside c.self.invariant c.deref.result.now c.deref.ensures.value

pub index_of-index-requires-clause-fits : goal.index_of-index-requires-clause-fits
index_of-index-requires-clause-fits c = rw c.deref.ensures.value (index_fits c.self.inside c.self.invariant c.args.at (rw (← c.self.view_is) at c.requires))

pub overflow_add-place : goal.overflow_add-place
overflow_add-place c =
    let s = c.self.inside in
    let within = rw (← c.self.view_is) at c.requires in
    let below = index_below s c.self.invariant c.args.at within c.deref.result.now c.deref.ensures.value c.index_of-index.result c.index_of-index.ensures in
    omega (arith, below, c.self.invariant.wide.0, s.slots.ok.0, s.slots.small)

pub index_mut-requires : goal.index_mut-requires
index_mut-requires c =
    let s = c.self.inside in
    let within = rw (← c.self.view_is) at c.requires in
    let below = index_below s c.self.invariant c.args.at within c.deref.result.now c.deref.ensures.value c.index_of-index.result c.index_of-index.ensures in
    omega (arith, below, s.slots.ok.0)

pub invariant_of-self-2 : goal.invariant_of-self-2
invariant_of-self-2 c =
    let s = c.self.inside in
    let within = rw (← c.self.view_is) at c.requires in
    let kept = kept_hole s c.self.invariant c.args.at within c.deref.result.now c.deref.ensures.value c.index_of-index.result c.index_of-index.ensures in
    rw (c.replace.ensures.after, c.in_ok-push.ensures.items) (kept c.leave.new.links c.replace.result (rw c.replace.ensures.value c.index_mut.ensures.value) c.leave.ensures)

pub returns : goal.returns
returns c =
    let s = c.self.inside in
    let within = rw (← c.self.view_is) at c.requires in
    let is = index_is s c.self.invariant c.args.at within c.deref.result.now c.deref.ensures.value c.index_of-index.result c.index_of-index.ensures in
    rw (c.replace.ensures.after, is, ← c.self.view_is) (set_shown Hole None (λ ss. refl) s.slots.items c.args.at)
