use Rattle.std.proofs.Common.{◌≡◌, ◌≤◌, ◌+◌, ◌-◌, ◌^◌, length}
use Rattle.outside.specs.Reads.{Reads}
use Rattle.outside.proofs.reading.read_text.Given as goal

abbrev pub invariant-loop-text : goal.invariant-loop-text
invariant-loop-text g l = record {
  within : length l.text.items ≤ 2 ^ 24 + 1;
  room : length l.buffer.items ≡ 2 ^ 16;
  read : Reads (g.S.Source.left l.fn.source) (g.S.Source.left l.source) l.text.items;
  quiet : g.S.Source.faults l.source ≡ g.S.Source.faults l.fn.source;
}

abbrev pub decreases-loop-text : goal.decreases-loop-text
decreases-loop-text g l = 2 ^ 24 + 1 - length l.text.items
