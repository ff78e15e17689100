use Rattle.std.proofs.Common.{[]}
use Rattle.outside.specs.Streams.{Takes}
use Rattle.outside.proofs.std_sink.write_some.Given as goal

abbrev pub invariant-loop : goal.invariant-loop
invariant-loop g l = record { none : Takes (g.W.Write.contents l.fn.writer) (g.W.Write.contents l.writer) [] }
