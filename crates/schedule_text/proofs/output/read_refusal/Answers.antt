use Rattle.std.proofs.Common.{◌∙◌, sym}
use Rattle.schedule_text.proofs.RefusalLaws.{refusal_more}
use Rattle.schedule_text.proofs.output.read_refusal.Goals as goal

pub loop-refusal-preserved : goal.loop-refusal-preserved
loop-refusal-preserved c =
    sym (refusal_more c.args.word.now c.loop-refusal.refusal-index _ c.refusal_text.result.now c.loop-refusal-test.true c.refusal_text.ensures (sym c.is_word.ensures ∙ c.if-is_word.false)) ∙ c.loop-refusal.invariant
