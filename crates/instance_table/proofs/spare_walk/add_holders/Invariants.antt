use Rattle.std.proofs.Common.{◌≡◌, ◌≤◌, drop}
use Rattle.instance_table.specs.Ways.{AreFew, with_each}
use Rattle.instance_table.proofs.spare_walk.add_holders.Given as goal

abbrev pub invariant-loop-holder : goal.invariant-loop-holder
invariant-loop-holder l = record {
  rest : with_each l.seen.numbers (drop l.holder-index l.holder-items) ≡ with_each l.fn.seen.numbers l.holder-items;
  few : AreFew l.nodes l.seen.numbers;
  kept : l.fn.seen.room ≤ l.seen.room;
}
