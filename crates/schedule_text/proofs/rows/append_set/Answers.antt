use Rattle.std.proofs.Common.{◌++◌, ◌∙◌, ap, codes, map}
use Rattle.std.specs.Fmt.{decimal}
use Rattle.text_words.specs.Words.{behind}
use Rattle.text_model.specs.RowLines.{home_word, set_item_word}
use Rattle.schedule_text.proofs.Prints.{row_done}
use Rattle.schedule_text.proofs.rows.append_set.Goals as goal

pub returns-clause-ok : goal.returns-clause-ok
returns-clause-ok c =
    row_done c.args.out.now.items c.append_word.new.out.items c.append_home.new.out.items c.append_set_items.new.out.items (codes "set") (decimal c.args.who) (home_word c.args.home) (map set_item_word c.args.items.now)
    c.in_ok-append_word.ensures.ok (c.in_ok-append_home.ensures.ok) (c.in_ok-append_set_items.ensures.ok ∙ ap (λ t. c.append_home.new.out.items ++ behind (map set_item_word t)) c.as_slice.ensures)
