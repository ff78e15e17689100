use Rattle.std.proofs.Common.{◌+◌, ◌≤◌, length}
use Rattle.instance_table.proofs.SweepLaws.{IsSwept, rounds}
use Rattle.instance_table.proofs.sweeping.sweep.Given as goal

abbrev pub invariant-loop-who : goal.invariant-loop-who
invariant-loop-who l = record {
  swept : IsSwept l.fn.graph.nodes l.graph.nodes l.totals.places l.totals.text l.gone.numbers;
  room : l.fn.gone.room ≤ l.gone.room;
}

abbrev pub decreases-loop-who : goal.decreases-loop-who
decreases-loop-who l = rounds (length l.graph.nodes) + length l.graph.loose
