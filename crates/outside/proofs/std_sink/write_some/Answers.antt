use Rattle.std.proofs.Common.{[]}
use Rattle.outside.proofs.TakeLaws.{takes_none}
use Rattle.outside.proofs.StdLaws.{appends_takes, takes_kept}
use Rattle.outside.proofs.std_sink.write_some.Goals as goal

pub loop-init : goal.loop-init
loop-init g c = record { none = takes_none (g.W.Write.contents c.args.writer.now) }

pub returns-in-Ok-clause-taken : goal.returns-in-Ok-clause-taken
returns-in-Ok-clause-taken g c = appends_takes (g.W.Write.contents c.args.writer.now) _ _ _ c.loop.invariant.none c.in-Ok.ensures.bytes

pub returns-then-ne-clause-none : goal.returns-then-ne-clause-none
returns-then-ne-clause-none g c = λ none. takes_kept (g.W.Write.contents c.args.writer.now) _ _ [] c.loop.invariant.none c.in-Err.ensures.bytes

pub loop-preserved : goal.loop-preserved
loop-preserved g c = record { none = takes_kept (g.W.Write.contents c.args.writer.now) _ _ [] c.loop.invariant.none c.in-Err.ensures.bytes }

pub returns-clause-none : goal.returns-clause-none
returns-clause-none g c = λ none. c.loop.invariant.none
