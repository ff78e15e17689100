use Rattle.std.proofs.Common.{◌≡◌, ◌∙◌, ap, rules, subst, take}
use Rattle.text_model.specs.Schedules.{process_of}
use Rattle.text_model.specs.Lines.{words_of}
use Rattle.text_words.specs.Words.{bytes_of}
use Rattle.schedule_text.specs.Reads.{Reads}
use Rattle.schedule_text.proofs.Forms.{process_taken}
use Rattle.schedule_text.proofs.schedule.read_process.Goals as goal

pub returns : goal.returns
returns c =
    let words : bytes_of c.in_ok-words.words.items ≡ take 3 (words_of c.args.line.now) = search rules in
    subst (λ o. Reads c.process_in.result o) (ap (process_of) (ap bytes_of c.deref.ensures.value ∙ words) ∙ process_taken (words_of c.args.line.now)) c.process_in.ensures
