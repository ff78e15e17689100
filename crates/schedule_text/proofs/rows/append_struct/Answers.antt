use Rattle.std.proofs.Common.{◌++◌, ◌∷◌, [], ◌∙◌, ap, codes, map}
use Rattle.std.specs.Fmt.{decimal}
use Rattle.text_words.specs.Words.{behind}
use Rattle.text_model.specs.RowLines.{field_word}
use Rattle.schedule_text.proofs.Prints.{row_done}
use Rattle.schedule_text.proofs.rows.append_struct.Goals as goal

pub returns-clause-ok : goal.returns-clause-ok
returns-clause-ok c =
    row_done c.args.out.now.items c.append_word.new.out.items c.append_numbers.new.out.items c.append_fields.new.out.items (codes "struct") (decimal c.args.who) (decimal c.args.class) (map field_word c.args.fields.now)
    c.in_ok-append_word.ensures.ok (c.in_ok-append_numbers.ensures.ok ∙ ap (λ k. c.append_word.new.out.items ++ behind (decimal c.args.who ∷ decimal k ∷ [])) c.class.view_is)
    (c.in_ok-append_fields.ensures.ok ∙ ap (λ t. c.append_numbers.new.out.items ++ behind (map field_word t)) c.as_slice.ensures)
