use Rattle.outside.proofs.StdLaws.{consumes_hands, keeps_more, keeps_self}
use Rattle.outside.proofs.std_source.read_some.Goals as goal

pub loop-init : goal.loop-init
loop-init g c = record { kept = keeps_self (g.R.Read.remaining c.args.reader.now) }

pub returns-in-Ok-clause-bytes : goal.returns-in-Ok-clause-bytes
returns-in-Ok-clause-bytes g c =
    consumes_hands (g.R.Read.remaining c.args.reader.now) _ _ _ _ c.loop.invariant.kept c.in-Ok.ensures.bytes.0 c.in-Ok.ensures.bytes.1

pub returns-then-ne-clause-none : goal.returns-then-ne-clause-none
returns-then-ne-clause-none g c = λ none. keeps_more (g.R.Read.remaining c.args.reader.now) _ _ c.loop.invariant.kept c.in-Err.ensures.bytes

pub loop-preserved : goal.loop-preserved
loop-preserved g c = record { kept = keeps_more (g.R.Read.remaining c.args.reader.now) _ _ c.loop.invariant.kept c.in-Err.ensures.bytes }

pub returns-clause-none : goal.returns-clause-none
returns-clause-none g c = λ none. c.loop.invariant.kept
