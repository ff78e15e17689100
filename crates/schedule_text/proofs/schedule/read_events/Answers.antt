use Rattle.std.proofs.Common.{◌+◌, ◌∙◌, ap, sym, arith}
use Rattle.text_model.specs.Lines.{behind_lines, lines_in}
use Rattle.text_model.specs.Schedules.{events_from}
use Rattle.schedule_text.specs.Tells.{behind_some}
use Rattle.schedule_text.proofs.Texts.{events_more}
use Rattle.schedule_text.proofs.schedule.read_events.Goals as goal

pub loop-line-preserved : goal.loop-line-preserved
loop-line-preserved c =
    let n = c.loop-line.number in
    let behind = c.in-Some.behind.now in
    let cut = c.in-Some.ensures in
    record {
      whole =
          ap (λ xs. behind_some xs (events_from (n + 1) (lines_in behind) (behind_lines behind))) c.in_ok-push.ensures
          ∙ (sym (events_more n c.loop-line.rest.now c.in-Some.line.now behind cut c.loop-line.events c.in-Ok.event (sym c.is_word.ensures ∙ c.if-is_word.false) c.in-Ok.ensures) ∙ c.loop-line.invariant.whole);
      few = omega (arith, c.loop-line.invariant.few, cut.shorter);
    }
