use Rattle.std.proofs.Common.{◌+◌, ◌∙◌, ap, sym, arith}
use Rattle.text_model.specs.Lines.{behind_lines, lines_in}
use Rattle.text_model.specs.OutLines.{outs_from}
use Rattle.schedule_text.specs.Tells.{behind_some}
use Rattle.schedule_text.proofs.Texts.{outs_more}
use Rattle.schedule_text.proofs.printed.read_outs.Goals as goal

pub loop-line-preserved : goal.loop-line-preserved
loop-line-preserved c =
    let n = c.loop-line.number in
    let behind = c.in-Some.behind.now in
    let cut = c.in-Some.ensures in
    record {
      whole =
          ap (λ xs. behind_some xs (outs_from (n + 1) (lines_in behind) (behind_lines behind))) c.in_ok-push.ensures
          ∙ (sym (outs_more n c.loop-line.rest.now c.in-Some.line.now behind cut c.loop-line.outs c.in-Ok.out (sym c.is_word.ensures ∙ c.if-is_word.false) c.in-Ok.ensures) ∙ c.loop-line.invariant.whole);
      few = omega (arith, c.loop-line.invariant.few, cut.shorter);
    }
