use Rattle.std.proofs.Common.{drop, sym, ap, ◌∙◌}
use Rattle.std.proofs.lemmas.List.{take_rest}
use Rattle.std.specs.List.{prefix_len}
use Rattle.std.specs.Char.{is_ascii_digit}
use Rattle.validate.proofs.Lexemes.{past_digit}
use Rattle.validate.proofs.word.past_digits.Goals as goal

pub loop-left-preserved : goal.loop-left-preserved
loop-left-preserved c =
    let left = c.loop-left.left.now in
    c.loop-left.invariant ∙ (past_digit left c.in-len1-up.len_at_least (sym c.if-not-is_ascii_digit.ensures.value) ∙ ap (λ t. drop (prefix_len is_ascii_digit t) t) (sym (take_rest left 1)))
