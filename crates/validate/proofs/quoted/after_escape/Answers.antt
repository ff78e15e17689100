use Rattle.std.proofs.Common.{◌-◌, true, false, length, take, drop, get_or, sym, ap, ◌∙◌, arith}
use Rattle.std.specs.Prelude.{is_some}
use Rattle.json.specs.Lex.{in_escape, in_string, lex}
use Rattle.json.specs.Text.{after_backslash, after_u, content}
use Rattle.validate.proofs.QuotedSteps.{uncons, Passed-from, escape_short, escaped_lex, short_content, unicode_content}
use Rattle.validate.proofs.quoted.after_escape.Goals as goal

pub returns-in_default : goal.returns-in_default
returns-in_default c = escape_short c.args.text.now c.in_default.len_below

pub returns-then-first-eq117 : goal.returns-then-first-eq117
returns-then-first-eq117 c =
    let text = c.args.text.now in
    let x = get_or text 0 0 in
    let rest = take (length text - 1) (drop 1 text) in
    let whole = sym (uncons text c.in-len1-up.len_at_least) in
    Passed-from after_backslash after_u in_escape in_string text rest c.after_unicode.result
    (ap is_some (ap (content after_backslash) whole ∙ unicode_content x rest c.if-first-eq117.true)) (ap (lex in_escape) whole ∙ escaped_lex x rest) (omega (arith, ap length whole)) c.after_unicode.ensures

pub returns-then-is_short : goal.returns-then-is_short
returns-then-is_short c =
    let text = c.args.text.now in
    let x = get_or text 0 0 in
    let rest = take (length text - 1) (drop 1 text) in
    let whole = sym (uncons text c.in-len1-up.len_at_least) in
    (ap (λ t. is_some (content after_backslash t)) whole ∙ short_content x rest true c.if-first-eq117.false c.if-is_short.ensures, ap (lex in_escape) whole ∙ escaped_lex x rest, omega (arith, ap length whole))

pub returns-else-is_short : goal.returns-else-is_short
returns-else-is_short c =
    let text = c.args.text.now in
    let x = get_or text 0 0 in
    let rest = take (length text - 1) (drop 1 text) in
    let whole = sym (uncons text c.in-len1-up.len_at_least) in
    ap (λ t. is_some (content after_backslash t)) whole ∙ short_content x rest false c.if-first-eq117.false c.if-is_short.ensures
