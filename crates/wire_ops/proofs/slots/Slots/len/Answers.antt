use Rattle.std.proofs.Common.{length, ap, arith}
use Rattle.wire_ops.proofs.SlotLaws.{length_shown}
use Rattle.wire_ops.proofs.slots.Slots.len.Goals as goal

pub overflow_sub-result : goal.overflow_sub-result
overflow_sub-result c =
    let s = c.self.inside in
    omega (arith, c.len.ensures, c.len-2.ensures, s.slots.ok.0, s.closed.ok.0, length_shown s.first s.slots.items, ap length c.self.invariant.places)

pub returns : goal.returns
returns c =
    let s = c.self.inside in
    rw (← c.self.view_is) (omega (arith, c.len.ensures, c.len-2.ensures, s.slots.ok.0, s.closed.ok.0, length_shown s.first s.slots.items, ap length c.self.invariant.places))
