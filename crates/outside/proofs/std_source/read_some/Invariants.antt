use Rattle.outside.specs.Streams.{Keeps}
use Rattle.outside.proofs.std_source.read_some.Given as goal

abbrev pub invariant-loop : goal.invariant-loop
invariant-loop g l = record {
  kept : Keeps (g.R.Read.remaining l.fn.reader) (g.R.Read.remaining l.reader);
}
