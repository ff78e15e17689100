use Rattle.std.proofs.Common.{◌-◌, length, take, drop, get_or, sym, ap, ◌∙◌, arith}
use Rattle.std.specs.Prelude.{is_some}
use Rattle.json.specs.Lex.{in_string, lex}
use Rattle.json.specs.Text.{content, plain}
use Rattle.validate.proofs.QuotedSteps.{uncons, quote_content, quote_lex, text_short}
use Rattle.validate.proofs.quoted.after_quoted.Goals as goal

pub returns-then-first-eq34 : goal.returns-then-first-eq34
returns-then-first-eq34 c =
    let left = c.loop-left.left.now in
    let x = get_or left 0 0 in
    let rest = take (length left - 1) (drop 1 left) in
    let whole = sym (uncons left c.in-len1-up.len_at_least) in (
      c.loop-left.invariant.0 ∙ (ap (λ t. is_some (content plain t)) whole ∙ quote_content x rest c.if-first-eq34.true),
      c.loop-left.invariant.1 ∙ (ap (lex in_string) whole ∙ quote_lex x rest c.if-first-eq34.true),
    )

pub loop-left-preserved : goal.loop-left-preserved
loop-left-preserved c =
    let left = c.loop-left.left.now in
    let whole = sym (uncons left c.in-len1-up.len_at_least) in (
      c.loop-left.invariant.0 ∙ (ap (λ t. is_some (content plain t)) whole ∙ c.in_ok-left.ensures.0),
      c.loop-left.invariant.1 ∙ (ap (lex in_string) whole ∙ c.in_ok-left.ensures.1),
    )

pub loop-left-smaller : goal.loop-left-smaller
loop-left-smaller c = omega (arith, c.in_ok-left.ensures.2, ap length (uncons c.loop-left.left.now c.in-len1-up.len_at_least))

pub returns : goal.returns
returns c = c.loop-left.invariant.0 ∙ text_short c.loop-left.left.now c.in_default.len_below
