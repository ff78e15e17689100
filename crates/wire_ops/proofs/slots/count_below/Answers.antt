use Rattle.std.proofs.Common.{◌+◌, ◌-◌, ◌/◌, ◌<◌, length, arith}
use Rattle.wire_ops.proofs.CountLaws.{below_most, below_more, below_less}
use Rattle.wire_ops.proofs.slots.count_below.Goals as goal

pub loop-low-init : goal.loop-low-init
loop-low-init c = (omega arith, below_most c.args.place c.args.closed.now, omega arith)

pub loop-low-preserved-then-closed-middle : goal.loop-low-preserved-then-closed-middle
loop-low-preserved-then-closed-middle c =
    let l = c.loop-low in
    let middle = l.low + (l.high - l.low) / 2 in
    let within : middle < length c.args.closed.now = omega (arith, c.loop-low-test.true, l.invariant) in
    let more = below_more 0 c.args.place c.args.closed.now middle 0 c.requires within (omega (arith, c.if-closed-middle.true)) in
    (omega (arith, more), l.invariant.1, l.invariant.2)

pub loop-low-preserved : goal.loop-low-preserved
loop-low-preserved c =
    let l = c.loop-low in
    let middle = l.low + (l.high - l.low) / 2 in
    let within : middle < length c.args.closed.now = omega (arith, c.loop-low-test.true, l.invariant) in
    let less = below_less c.args.place c.args.closed.now middle 0 within (omega (arith, c.if-closed-middle.false)) in
    (l.invariant.0, less, omega (arith, within))
