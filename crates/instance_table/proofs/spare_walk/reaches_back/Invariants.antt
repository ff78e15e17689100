use Rattle.std.proofs.Common.{◌≤◌, map}
use Rattle.instance_table.specs.Ways.{AreFew, back_row}
use Rattle.instance_table.proofs.SpareWalks.{IsWalked}
use Rattle.instance_table.proofs.spare_walk.reaches_back.Given as goal

abbrev pub invariant-loop-at : goal.invariant-loop-at
invariant-loop-at l = record {
  walked : IsWalked (map back_row l.nodes) l.fn.to l.seen.numbers l.at;
  few : AreFew l.nodes l.seen.numbers;
  kept : l.fn.seen.room ≤ l.seen.room;
}
