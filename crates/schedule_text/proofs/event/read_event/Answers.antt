use Rattle.std.proofs.Common.{◌≡◌, ◌∙◌, ap, rules, subst, take}
use Rattle.text_model.specs.Events.{event_of}
use Rattle.text_model.specs.Lines.{words_of}
use Rattle.text_words.specs.Words.{bytes_of}
use Rattle.schedule_text.specs.Reads.{Reads}
use Rattle.schedule_text.proofs.Forms.{event_taken}
use Rattle.schedule_text.proofs.event.read_event.Goals as goal

pub returns : goal.returns
returns c =
    let words : bytes_of c.in_ok-words.words.items ≡ take 7 (words_of c.args.line.now) = search rules in
    subst (λ o. Reads c.read_words.result o) (ap event_of (ap bytes_of c.deref.ensures.value ∙ words) ∙ event_taken (words_of c.args.line.now)) c.read_words.ensures
