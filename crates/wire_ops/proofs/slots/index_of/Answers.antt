use Rattle.std.proofs.Common.{◌+◌, ◌-◌, ◌/◌, ◌<◌, length, arith}
use Rattle.wire_ops.proofs.CountLaws.{passed_most, passed_more, passed_less}
use Rattle.wire_ops.proofs.slots.index_of.Goals as goal

pub loop-low-init : goal.loop-low-init
loop-low-init c = (omega arith, passed_most (c.args.first + c.args.at) c.args.closed.now, omega arith)

pub loop-low-preserved-then-closed-middle : goal.loop-low-preserved-then-closed-middle
loop-low-preserved-then-closed-middle c =
    let l = c.loop-low in
    let middle = l.low + (l.high - l.low) / 2 in
    let within : middle < length c.args.closed.now = omega (arith, c.loop-low-test.true, l.invariant) in
    let more = passed_more 0 (c.args.first + c.args.at) c.args.closed.now middle 0 c.requires.rising within (omega (arith, c.if-closed-middle.true)) in
    (omega (arith, more), l.invariant.1, l.invariant.2)

pub loop-low-preserved : goal.loop-low-preserved
loop-low-preserved c =
    let l = c.loop-low in
    let middle = l.low + (l.high - l.low) / 2 in
    let within : middle < length c.args.closed.now = omega (arith, c.loop-low-test.true, l.invariant) in
    let less = passed_less (c.args.first + c.args.at) c.args.closed.now middle 0 within (omega (arith, c.if-closed-middle.false)) in
    (l.invariant.0, less, omega (arith, within))
