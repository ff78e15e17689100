use Rattle.std.proofs.Common.{◌+◌, ◌∙◌, ap, sym, arith}
use Rattle.text_model.specs.DefLines.{next_def}
use Rattle.text_model.specs.Lines.{behind_lines, lines_in, words_of}
use Rattle.text_model.specs.Schedules.{room_word, rooms_from}
use Rattle.schedule_text.proofs.ReadLaws.{told_at}
use Rattle.schedule_text.proofs.Texts.{rooms_more, rooms_stop}
use Rattle.schedule_text.proofs.schedule.read_rooms.Goals as goal

pub returns-in-Err : goal.returns-in-Err
returns-in-Err c =
    let n = c.loop-line.number in
    let defs = c.loop-line.defs in
    let line = c.in-Some.line.now in
    rw (c.fault_of.ensures, c.room_word.ensures)
    (told_at c.in-Err.fault n (room_word defs line) (next_def defs (words_of line)) _ c.in-Err.ensures
    (λ none. sym c.loop-line.invariant.whole ∙ rooms_stop n c.loop-line.rest.now line c.in-Some.behind.now c.in-Some.ensures defs (sym c.is_opened.ensures ∙ c.if-is_opened.false) none))

pub loop-line-preserved : goal.loop-line-preserved
loop-line-preserved c =
    let n = c.loop-line.number in
    let behind = c.in-Some.behind.now in
    let cut = c.in-Some.ensures in
    record {
      whole =
          ap (λ ds. rooms_from (n + 1) ds (lines_in behind) (behind_lines behind)) c.in_ok-push.ensures
          ∙ (sym (rooms_more n c.loop-line.rest.now c.in-Some.line.now behind cut c.loop-line.defs c.in-Ok.def (sym c.is_opened.ensures ∙ c.if-is_opened.false) c.in-Ok.ensures) ∙ c.loop-line.invariant.whole);
      few = omega (arith, c.loop-line.invariant.few, cut.shorter);
    }
