use Rattle.std.proofs.Common.{◌≡◌, ◌∙◌, ap, rules, subst, take}
use Rattle.text_model.specs.DefLines.{next_def}
use Rattle.text_model.specs.Lines.{words_of}
use Rattle.text_words.specs.Words.{bytes_of}
use Rattle.schedule_text.specs.Reads.{Reads}
use Rattle.schedule_text.proofs.Forms.{next_taken}
use Rattle.schedule_text.proofs.schedule.read_room.Goals as goal

pub returns : goal.returns
returns c =
    let words : bytes_of c.in_ok-words.words.items ≡ take 13 (words_of c.args.line.now) = search rules in
    subst (λ o. Reads c.next_def.result o) (ap (next_def c.args.defs.now) (ap bytes_of c.deref.ensures.value ∙ words) ∙ next_taken c.args.defs.now (words_of c.args.line.now)) c.next_def.ensures
