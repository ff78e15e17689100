use Rattle.std.proofs.Common.{◌≡◌, drop}
use Rattle.room_server.specs.Summaries.{with_outs}
use Rattle.room_server.proofs.summary.Tally.with_outs.Given as goal

abbrev pub invariant-loop-out : goal.invariant-loop-out
invariant-loop-out l = with_outs l.tally (drop l.out-index l.out-items) ≡ with_outs l.fn.self l.outs
