use Rattle.std.proofs.Common.{◌∙◌, ◌+◌, ◌-◌, ◌/◌, ap, sym, arith, length}
use Rattle.seat_ledger.proofs.KeyedLaws.{keyed_length}
use Rattle.seat_ledger.proofs.SearchLaws.{all_open, low_moved, high_moved, searched}
use Rattle.seat_ledger.proofs.slots.Slots.place_of.Goals as goal

pub loop-low-init : goal.loop-low-init
loop-low-init c =
    all_open c.args.self.now.slots c.args.slot c.len-high.result
    (omega (arith, c.len-high.ensures, ap (λ i. length i.slots) c.self.view_is, keyed_length c.self.inside.keys.items c.self.inside.places.items, c.self.inside.places.ok.0))

pub loop-low-preserved-then-is_before : goal.loop-low-preserved-then-is_before
loop-low-preserved-then-is_before c =
    let low = c.loop-low.low in
    let high = c.loop-low.high in
    low_moved c.args.self.now.slots c.args.slot low high (low + (high - low) / 2) c.requires c.loop-low.invariant (omega (arith, c.loop-low-test.true)) (λ s h. sym (c.is_before.ensures s h) ∙ c.if-is_before.true)

pub loop-low-preserved : goal.loop-low-preserved
loop-low-preserved c =
    let low = c.loop-low.low in
    let high = c.loop-low.high in
    high_moved c.args.self.now.slots c.args.slot low high (low + (high - low) / 2) c.requires c.loop-low.invariant (omega arith) (omega (arith, c.loop-low-test.true)) (λ s h. sym (c.is_before.ensures s h) ∙ c.if-is_before.false)

pub returns : goal.returns
returns c = searched c.args.self.now.slots c.args.slot c.loop-low.low c.loop-low.high c.loop-low.invariant c.loop-low-test.false
