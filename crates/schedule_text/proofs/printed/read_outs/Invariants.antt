use Rattle.std.proofs.Common.{◌≡◌, ◌+◌, ◌<◌, ◌^◌, length}
use Rattle.text_model.specs.Lines.{behind_lines, lines_in}
use Rattle.text_model.specs.OutLines.{outs_from}
use Rattle.schedule_text.specs.Tells.{behind_some}
use Rattle.schedule_text.proofs.printed.read_outs.Given as goal

abbrev pub invariant-loop-line : goal.invariant-loop-line
invariant-loop-line l = record {
  whole : behind_some l.outs (outs_from l.number (lines_in l.rest) (behind_lines l.rest)) ≡ outs_from l.first (lines_in l.text) (behind_lines l.text);
  few : l.number + length l.rest < 2 ^ 32;
}

abbrev pub decreases-loop-line : goal.decreases-loop-line
decreases-loop-line l = length l.rest
