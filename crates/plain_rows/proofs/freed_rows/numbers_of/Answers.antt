use Rattle.std.proofs.Common.{arith}
use Rattle.plain_rows.proofs.Freeing.{next_live}
use Rattle.plain_rows.proofs.freed_rows.numbers_of.Goals as goal

pub loop-entry-preserved : goal.loop-entry-preserved
loop-entry-preserved c = λ k. next_live c.as_slice-entry-items.result.now c.loop-entry.numbers c.insert.new.self c.loop-entry.entry-index c.entry-item.result k (omega arith) c.entry-item.is c.in_ok-insert.ensures.numbers (c.loop-entry.invariant k)
