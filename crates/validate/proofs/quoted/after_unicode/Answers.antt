use Rattle.std.proofs.Common.{Some, None, drop, sym, ap, ◌∙◌, subst, arith}
use Rattle.std.proofs.lemmas.List.{length-drop, take_rest}
use Rattle.std.specs.Prelude.{is_some}
use Rattle.json.specs.Lex.{in_string}
use Rattle.json.specs.Text.{after_high, after_u}
use Rattle.validate.specs.Quoted.{Passed}
use Rattle.validate.proofs.QuotedSteps.{Passed-from, unit_short, unit_content, unit_lex, high_unit, low_unit, plain_unit}
use Rattle.validate.proofs.quoted.after_unicode.Goals as goal

pub returns-in_default : goal.returns-in_default
returns-in_default c = ap is_some (unit_short c.args.text.now c.in_default.len_below)

pub returns-in_err-unit : goal.returns-in_err-unit
returns-in_err-unit c = rw c.from_residual.ensures (ap is_some (unit_content c.args.text.now None c.in-len4-up.len_at_least (sym c.in_err-unit.ensures)))

pub returns-then-is_high : goal.returns-then-is_high
returns-then-is_high c =
    let text = c.args.text.now in
    let u = c.in_ok-unit.unit in
    let found = sym c.in_ok-unit.ensures in
    let rest = drop 4 text in
    let inner = subst (λ t. Passed (after_high u) in_string t c.after_low_half.result) (take_rest text 4) (c.after_low_half.ensures u) in
    Passed-from after_u (after_high u) in_string in_string text rest c.after_low_half.result
    (ap is_some (unit_content text (Some u) c.in-len4-up.len_at_least found ∙ high_unit rest u (sym c.if-is_high.ensures))) (unit_lex text u c.in-len4-up.len_at_least found) (omega (arith, length-drop 4 text)) inner

pub returns-then-is_low : goal.returns-then-is_low
returns-then-is_low c =
    let text = c.args.text.now in
    let u = c.in_ok-unit.unit in
    ap is_some (unit_content text (Some u) c.in-len4-up.len_at_least (sym c.in_ok-unit.ensures) ∙ low_unit (drop 4 text) u (sym c.if-is_high.ensures) (sym c.if-is_low.ensures))

pub returns-else-is_low : goal.returns-else-is_low
returns-else-is_low c =
    let text = c.args.text.now in
    let u = c.in_ok-unit.unit in
    let found = sym c.in_ok-unit.ensures in
    rw (take_rest text 4) (
      ap is_some (unit_content text (Some u) c.in-len4-up.len_at_least found) ∙ plain_unit (drop 4 text) u (sym c.if-is_high.ensures) (sym c.if-is_low.ensures),
      unit_lex text u c.in-len4-up.len_at_least found,
      omega (arith, length-drop 4 text),
    )
