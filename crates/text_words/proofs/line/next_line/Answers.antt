use Rattle.std.proofs.Common.{◌∙◌, ap, drop}
use Rattle.std.proofs.lemmas.List.{drop-drop, take_rest}
use Rattle.text_words.proofs.CutLaws.{first_line, no_line}
use Rattle.text_words.proofs.line.next_line.Goals as goal

pub returns-in_err-len : goal.returns-in_err-len
returns-in_err-len c = rw (c.from_residual.ensures) (no_line c.args.text.now c.in_err-len.ensures)

pub returns : goal.returns
returns c =
    let behind = take_rest c.split_at.result.1.now 1 ∙ (ap (drop 1) c.split_at.ensures.back ∙ drop-drop 1 c.in_ok-len.len c.args.text.now) in
    rw (c.split_at.ensures.front, behind) (first_line c.args.text.now c.in_ok-len.len c.in_ok-len.ensures)
