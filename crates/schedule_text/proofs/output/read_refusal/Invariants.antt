use Rattle.std.proofs.Common.{◌≡◌, drop}
use Rattle.std.specs.List.{find}
use Rattle.text_model.specs.Lines.{is_word}
use Rattle.text_model.specs.OutLines.{refusal_of, refusals}
use Rattle.text_model.specs.Outputs.{refusal_word}
use Rattle.schedule_text.proofs.output.read_refusal.Given as goal

abbrev pub invariant-loop-refusal : goal.invariant-loop-refusal
invariant-loop-refusal l = find (λ r. is_word (refusal_word r) l.word) (drop l.refusal-index refusals) ≡ refusal_of l.word
