use Rattle.std.proofs.Common.{◌≡◌, ◌+◌, ◌<◌, ◌^◌, length}
use Rattle.text_model.specs.Lines.{behind_lines, lines_in}
use Rattle.text_model.specs.Schedules.{events_from}
use Rattle.schedule_text.specs.Tells.{behind_some}
use Rattle.schedule_text.proofs.schedule.read_events.Given as goal

abbrev pub invariant-loop-line : goal.invariant-loop-line
invariant-loop-line l = record {
  whole : behind_some l.events (events_from l.number (lines_in l.rest) (behind_lines l.rest)) ≡ events_from l.first (lines_in l.text) (behind_lines l.text);
  few : l.number + length l.rest < 2 ^ 32;
}

abbrev pub decreases-loop-line : goal.decreases-loop-line
decreases-loop-line l = length l.rest
