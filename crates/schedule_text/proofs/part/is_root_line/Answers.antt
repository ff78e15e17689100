use Rattle.std.proofs.Common.{◌≡◌, ◌∙◌, ap, refl, rules, take}
use Rattle.text_model.specs.Lines.{words_of}
use Rattle.text_model.specs.Schedules.{is_root_form}
use Rattle.text_model.specs.SchemaReading.{line_form}
use Rattle.text_words.specs.Words.{bytes_of}
use Rattle.schema_reader.proofs.LineForms.{first_words_form}
use Rattle.schedule_text.proofs.part.is_root_line.Goals as goal

pub returns : goal.returns
returns c =
    let words : bytes_of c.in_ok-words.words.items ≡ take 7 (words_of c.args.line.now) = search rules in
    c.has_root_form.ensures ∙ ap is_root_form (first_words_form (words_of c.args.line.now) _ (line_form (bytes_of c.deref.result.now)) (ap bytes_of c.deref.ensures.value ∙ words) refl)
