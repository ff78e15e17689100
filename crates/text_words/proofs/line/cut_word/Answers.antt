use Rattle.std.proofs.Common.{◌∙◌, ap, drop}
use Rattle.std.proofs.lemmas.List.{drop-drop, take_rest}
use Rattle.text_model.proofs.FirstLine.{cut_at, cut_none}
use Rattle.text_words.proofs.CutLaws.{is_space}
use Rattle.text_words.proofs.line.cut_word.Goals as goal

pub returns-in_err-len : goal.returns-in_err-len
returns-in_err-len c = rw (c.from_residual.ensures) (cut_none is_space c.args.line.now c.in_err-len.ensures)

pub returns : goal.returns
returns c =
    let behind = take_rest c.split_at.result.1.now 1 ∙ (ap (drop 1) c.split_at.ensures.back ∙ drop-drop 1 c.in_ok-len.len c.args.line.now) in
    rw (c.split_at.ensures.front, behind) (cut_at is_space c.args.line.now c.in_ok-len.len c.in_ok-len.ensures)
