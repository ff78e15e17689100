use Rattle.std.proofs.Common.{◌≡◌, ◌++◌, length, take, ap, ◌∙◌, arith, length-append}
use Rattle.std.proofs.lemmas.List.{append-nil, length-take-le}
use Rattle.percent_encoding.specs.Iter.{decoded_bytes}
use Rattle.validate.proofs.Characters.{by_first, not_text}
use Rattle.validate.proofs.escaped.takes_character.Goals as goal

pub returns-in_default-clause-value : goal.returns-in_default-clause-value
returns-in_default-clause-value c =
    let l = c.loop-at in
    let whole = l.invariant.0 ∙ (ap (λ ds. take l.at l.piece ++ ds) c.in_default.ensures.steps.0 ∙ append-nil (take l.at l.piece)) in
    not_text c.args.first (decoded_bytes c.args.bytes.now) (omega (arith, ap length whole, length-take-le l.at l.piece))

pub returns-clause-value : goal.returns-clause-value
returns-clause-value c =
    let l = c.loop-at in
    let len = c.len_by_first-len.result in
    let same : l.at ≡ len = omega (arith, c.len_by_first-len.ensures.value) in
    let whole = l.invariant.0 ∙ ap (λ n. take n l.piece ++ decoded_bytes l.bytes) same in
    by_first c.args.first (decoded_bytes c.args.bytes.now) (take len l.piece) (decoded_bytes l.bytes) c.is_text.result whole
    (length-take-le len l.piece (omega (arith, c.len_by_first-len.ensures.within)) ∙ c.len_by_first-len.ensures.value) c.is_text.ensures

pub returns-in_default-clause-fewer : goal.returns-in_default-clause-fewer
returns-in_default-clause-fewer c = omega (arith, ap length c.in_default.ensures.steps.1)

pub returns-clause-fewer : goal.returns-clause-fewer
returns-clause-fewer c =
    let l = c.loop-at in
    omega (arith, ap length l.invariant.0, length-append (take l.at l.piece) (decoded_bytes l.bytes), length-take-le l.at l.piece (omega (arith, c.len_by_first-len.ensures.within)))
