use Rattle.std.proofs.Common.{◌++◌, ◌∙◌, ap, codes, map}
use Rattle.std.specs.Fmt.{decimal}
use Rattle.text_words.specs.Words.{behind}
use Rattle.text_model.specs.RowLines.{home_word}
use Rattle.text_model.specs.WordForms.{value_word}
use Rattle.schedule_text.proofs.Prints.{row_done}
use Rattle.schedule_text.proofs.rows.append_array.Goals as goal

pub returns-clause-ok : goal.returns-clause-ok
returns-clause-ok c =
    row_done c.args.out.now.items c.append_word.new.out.items c.append_home.new.out.items c.append_values.new.out.items (codes "array") (decimal c.args.who) (home_word c.args.home) (map value_word c.args.values.now)
    c.in_ok-append_word.ensures.ok (c.in_ok-append_home.ensures.ok) (c.in_ok-append_values.ensures.ok ∙ ap (λ t. c.append_home.new.out.items ++ behind (map value_word t)) c.as_slice.ensures)
