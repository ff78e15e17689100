use Rattle.std.proofs.Common.{Some, refl, arith}
use Rattle.wire_ops.specs.declared.slots.Slot.TheVariants.{Held}
use Rattle.wire_ops.proofs.SlotLaws.{set_shown}
use Rattle.wire_ops.proofs.KeptLaws.{noted_there, kept_value, rises, index_fits, index_is, index_below}
use Rattle.wire_ops.proofs.slots.Slots.set.Goals as goal

pub index_of-index-requires-clause-rising : goal.index_of-index-requires-clause-rising
index_of-index-requires-clause-rising c = rises c.self.inside c.self.invariant c.deref.result.now c.deref.ensures.value

pub index_of-index-requires-clause-fits : goal.index_of-index-requires-clause-fits
index_of-index-requires-clause-fits c = rw c.deref.ensures.value (index_fits c.self.inside c.self.invariant c.args.at (rw (← c.self.view_is) at c.requires))

pub overflow_add-place : goal.overflow_add-place
overflow_add-place c =
    let s = c.self.inside in
    let within = rw (← c.self.view_is) at c.requires in
    let below = index_below s c.self.invariant c.args.at within c.deref.result.now c.deref.ensures.value c.index_of-index.result c.index_of-index.ensures in
    omega (arith, below, c.self.invariant.wide.0, s.slots.ok.0, s.slots.small)

pub index-requires : goal.index-requires
index-requires c =
    let s = c.self.inside in
    let within = rw (← c.self.view_is) at c.requires in
    let below = index_below s c.self.invariant c.args.at within c.deref.result.now c.deref.ensures.value c.index_of-index.result c.index_of-index.ensures in
    omega (arith, below, s.slots.ok.0)

pub make_way-requires : goal.make_way-requires
make_way-requires c =
    let s = c.self.inside in
    let within = rw (← c.self.view_is) at c.requires in
    noted_there s c.self.invariant c.args.at within c.deref.result.now c.deref.ensures.value c.index_of-index.result c.index_of-index.ensures c.index.result.now c.index.ensures

pub index_mut-requires : goal.index_mut-requires
index_mut-requires c =
    let s = c.self.inside in
    let within = rw (← c.self.view_is) at c.requires in
    let below = index_below s c.self.invariant c.args.at within c.deref.result.now c.deref.ensures.value c.index_of-index.result c.index_of-index.ensures in
    omega (arith, below, s.slots.ok.0)

pub invariant_of-self-2 : goal.invariant_of-self-2
invariant_of-self-2 c =
    let s = c.self.inside in
    let within = rw (← c.self.view_is) at c.requires in
    kept_value s c.self.invariant c.args.at within c.deref.result.now c.deref.ensures.value c.index_of-index.result c.index_of-index.ensures c.make_way.new.links c.args.value c.in_ok-make_way.ensures.ok

pub returns : goal.returns
returns c =
    let s = c.self.inside in
    let within = rw (← c.self.view_is) at c.requires in
    let is = index_is s c.self.invariant c.args.at within c.deref.result.now c.deref.ensures.value c.index_of-index.result c.index_of-index.ensures in
    rw (is, ← c.self.view_is) (set_shown (Held c.args.value) (Some c.args.value) (λ ss. refl) s.slots.items c.args.at)
