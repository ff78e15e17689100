use Rattle.std.proofs.Common.{◌≡◌, Bool, true, false, ◌&&◌, ◌==◌, Some, None, drop, get_or, refl, sym, ap, ap₂, ◌∙◌, arith, eq-eqb}
use Rattle.std.proofs.lemmas.Bool.{ne_eqb}
use Rattle.std.proofs.lemmas.List.{length-drop, take_rest}
use Rattle.std.specs.Prelude.{is_some}
use Rattle.validate.proofs.QuotedSteps.{half_short, half_other, half_content, half_lex, low_half, no_half}
use Rattle.validate.proofs.quoted.after_low_half.Goals as goal
use Rattle.validate.proofs.quoted.after_low_half.Goals.{then-backslash-ne92-via-then-backslash-ne92, then-backslash-ne92-via-else-backslash-ne92+then-letter-ne117}

and_false : (b : Bool) → (b && false) ≡ false
and_false true = refl
and_false false = refl

pub returns-in_default : goal.returns-in_default
returns-in_default c high = ap is_some (half_short high c.args.text.now c.in_default.len_below)

pub returns-then-backslash-ne92 : goal.returns-then-backslash-ne92
returns-then-backslash-ne92 c high =
    let text = c.args.text.now in
    let other : ((get_or text 0 0 == 92) && (get_or text 1 0 == 117)) ≡ false =
    elim c.then-backslash-ne92.branch [
      | then-backslash-ne92-via-then-backslash-ne92 w ↦ ap (λ b. b && (get_or text 1 0 == 117)) (ne_eqb (get_or text 0 0) 92 w.if-backslash-ne92.true)
      | then-backslash-ne92-via-else-backslash-ne92+then-letter-ne117 w ↦ ap (λ b. (get_or text 0 0 == 92) && b) (ne_eqb (get_or text 1 0) 117 w.if-letter-ne117.true) ∙ and_false _
    ] in
    ap is_some (half_other high text c.in-len6-up.len_at_least other)

pub returns-in_err-code_unit : goal.returns-in_err-code_unit
returns-in_err-code_unit c high =
    let text = c.args.text.now in
    let marks : ((get_or text 0 0 == 92) && (get_or text 1 0 == 117)) ≡ true = ap₂ (λ a b. a && b) (eq-eqb _ _ c.if-backslash-ne92.false) (eq-eqb _ _ c.if-letter-ne117.false) in
    rw c.from_residual.ensures (ap is_some (half_content high text None c.in-len6-up.len_at_least marks (sym c.in_err-code_unit.ensures)))

pub returns-then-is_low : goal.returns-then-is_low
returns-then-is_low c high =
    let text = c.args.text.now in
    let l = c.in_ok-code_unit.field-0 in
    let marks : ((get_or text 0 0 == 92) && (get_or text 1 0 == 117)) ≡ true = ap₂ (λ a b. a && b) (eq-eqb _ _ c.if-backslash-ne92.false) (eq-eqb _ _ c.if-letter-ne117.false) in
    rw (take_rest text 6) (
      ap is_some (half_content high text (Some l) c.in-len6-up.len_at_least marks (sym c.in_ok-code_unit.ensures)) ∙ low_half high (drop 6 text) l (sym c.if-is_low.ensures),
      half_lex text l c.in-len6-up.len_at_least marks (sym c.in_ok-code_unit.ensures),
      omega (arith, length-drop 6 text),
    )

pub returns-else-is_low : goal.returns-else-is_low
returns-else-is_low c high =
    let text = c.args.text.now in
    let l = c.in_ok-code_unit.field-0 in
    let marks : ((get_or text 0 0 == 92) && (get_or text 1 0 == 117)) ≡ true = ap₂ (λ a b. a && b) (eq-eqb _ _ c.if-backslash-ne92.false) (eq-eqb _ _ c.if-letter-ne117.false) in
    ap is_some (half_content high text (Some l) c.in-len6-up.len_at_least marks (sym c.in_ok-code_unit.ensures) ∙ no_half high (drop 6 text) l (sym c.if-is_low.ensures))
