use Rattle.std.proofs.Common.{◌≡◌, ◌-◌, length, take, drop, get_or, refl, sym, ap, ◌∙◌, arith}
use Rattle.json.specs.Align.{is_good}
use Rattle.json.specs.Lex.{between, class, in_word, lex, other}
use Rattle.json.specs.Text.{content, plain}
use Rattle.json.specs.Word.{word}
use Rattle.validate.proofs.Lexemes.{at_byte, class_other, nothing_lex, text_bad, text_first, word_bad, word_first}
use Rattle.validate.proofs.QuotedSteps.{uncons}
use Rattle.validate.proofs.lexer.lexeme.Goals as goal

pub returns-in_default : goal.returns-in_default
returns-in_default c = sym c.past_spaces-prefix.ensures.same ∙ nothing_lex between c.past_spaces-prefix.result.now c.in_default.len_below

pub returns-in-123 : goal.returns-in-123
unfolding lex
returns-in-123 c = at_byte 123 c.past_spaces-prefix.result.now _ c.past_spaces-prefix.ensures.same c.in-len1-up.len_at_least c.in-123.is

pub returns-in-125 : goal.returns-in-125
unfolding lex
returns-in-125 c = at_byte 125 c.past_spaces-prefix.result.now _ c.past_spaces-prefix.ensures.same c.in-len1-up.len_at_least c.in-125.is

pub returns-in-91 : goal.returns-in-91
unfolding lex
returns-in-91 c = at_byte 91 c.past_spaces-prefix.result.now _ c.past_spaces-prefix.ensures.same c.in-len1-up.len_at_least c.in-91.is

pub returns-in-93 : goal.returns-in-93
unfolding lex
returns-in-93 c = at_byte 93 c.past_spaces-prefix.result.now _ c.past_spaces-prefix.ensures.same c.in-len1-up.len_at_least c.in-93.is

pub returns-in-44 : goal.returns-in-44
unfolding lex
returns-in-44 c = at_byte 44 c.past_spaces-prefix.result.now _ c.past_spaces-prefix.ensures.same c.in-len1-up.len_at_least c.in-44.is

pub returns-in-58 : goal.returns-in-58
unfolding lex
returns-in-58 c = at_byte 58 c.past_spaces-prefix.result.now _ c.past_spaces-prefix.ensures.same c.in-len1-up.len_at_least c.in-58.is

pub returns-in-92 : goal.returns-in-92
unfolding lex
returns-in-92 c =
    let prefix = c.past_spaces-prefix.result.now in
    (lex in_word (take (length prefix - 1) (drop 1 prefix)), at_byte 92 prefix _ c.past_spaces-prefix.ensures.same c.in-len1-up.len_at_least c.in-92.is)

pub returns-in-Some : goal.returns-in-Some
returns-in-Some c =
    let prefix = c.past_spaces-prefix.result.now in
    let rest = take (length prefix - 1) (drop 1 prefix) in
    let whole = at_byte 34 prefix (lex between c.args.text.now) c.past_spaces-prefix.ensures.same c.in-len1-up.len_at_least c.in-34.is in
    text_first rest (lex between c.args.text.now) (lex between c.in-Some.left.now) (content plain rest) whole refl c.in-Some.ensures.0 c.in-Some.ensures.1

pub returns-in-None : goal.returns-in-None
returns-in-None c =
    let prefix = c.past_spaces-prefix.result.now in
    let rest = take (length prefix - 1) (drop 1 prefix) in
    let whole = at_byte 34 prefix (lex between c.args.text.now) c.past_spaces-prefix.ensures.same c.in-len1-up.len_at_least c.in-34.is in
    text_bad rest (lex between c.args.text.now) (lex between rest) (content plain rest) whole refl c.in-None.ensures

pub returns-then-is_word : goal.returns-then-is_word
returns-then-is_word c =
    let prefix = c.past_spaces-prefix.result.now in
    let x = get_or prefix 0 0 in
    let rest = take (length prefix - 1) (drop 1 prefix) in
    let whole = at_byte x prefix (lex between c.args.text.now) c.past_spaces-prefix.ensures.same c.in-len1-up.len_at_least refl in
    let kind : class x ≡ other = class_other x c.past_spaces-prefix.ensures.solid (grind arith) (grind arith) (grind arith) in
    let good = c.if-is_word.ensures ∙ ap (λ t. is_good (word t)) (sym (uncons prefix c.in-len1-up.len_at_least)) in
    word_first x rest (lex between c.args.text.now) (lex between c.past_word.result.now) whole kind good c.past_word.ensures

pub returns-else-is_word : goal.returns-else-is_word
returns-else-is_word c =
    let prefix = c.past_spaces-prefix.result.now in
    let x = get_or prefix 0 0 in
    let rest = take (length prefix - 1) (drop 1 prefix) in
    let whole = at_byte x prefix (lex between c.args.text.now) c.past_spaces-prefix.ensures.same c.in-len1-up.len_at_least refl in
    let kind : class x ≡ other = class_other x c.past_spaces-prefix.ensures.solid (grind arith) (grind arith) (grind arith) in
    let good = c.if-is_word.ensures ∙ ap (λ t. is_good (word t)) (sym (uncons prefix c.in-len1-up.len_at_least)) in
    word_bad x rest (lex between c.args.text.now) (lex between rest) whole kind good
