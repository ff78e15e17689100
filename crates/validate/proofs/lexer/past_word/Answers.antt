use Rattle.std.proofs.Common.{true, false, ◌-◌, length, take, drop, get_or, sym, ap, ◌∙◌}
use Rattle.json.specs.Lex.{between, in_word, lex}
use Rattle.validate.proofs.Lexemes.{nothing_lex, word_byte}
use Rattle.validate.proofs.QuotedSteps.{uncons}
use Rattle.validate.proofs.lexer.past_word.Goals as goal

pub returns-then-is_delimiter : goal.returns-then-is_delimiter
returns-then-is_delimiter c =
    let left = c.loop-left.left.now in
    let whole = uncons left c.in-len1-up.len_at_least in
    c.loop-left.invariant ∙ (ap (lex in_word) (sym whole) ∙ (word_byte (get_or left 0 0) (take (length left - 1) (drop 1 left)) true c.if-is_delimiter.ensures ∙ ap (lex between) whole))

pub loop-left-preserved : goal.loop-left-preserved
loop-left-preserved c =
    let left = c.loop-left.left.now in
    c.loop-left.invariant ∙ (ap (lex in_word) (sym (uncons left c.in-len1-up.len_at_least)) ∙ word_byte (get_or left 0 0) (take (length left - 1) (drop 1 left)) false c.if-is_delimiter.ensures)

pub returns : goal.returns
returns c =
    let left = c.loop-left.left.now in
    c.loop-left.invariant ∙ (nothing_lex in_word left c.in_default.len_below ∙ sym (nothing_lex between left c.in_default.len_below))
