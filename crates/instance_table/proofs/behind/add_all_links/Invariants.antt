use Rattle.std.proofs.Common.{◌≡◌, ◌+◌, ◌++◌}
use Rattle.state_model.specs.Rows.{values_in}
use Rattle.instance_table.specs.Bodies.{IsBehind, row_of}
use Rattle.instance_table.proofs.LinkLaws.{held_first}
use Rattle.instance_table.proofs.behind.add_all_links.Given as goal

abbrev pub invariant-loop-n : goal.invariant-loop-n
invariant-loop-n g l = record {
  links : g.R.WalkRoom.waiting_in l.room ≡ g.R.WalkRoom.waiting_in l.initial.room ++ held_first l.n (values_in (row_of l.body));
  seen : g.R.WalkRoom.seen_in l.room ≡ g.R.WalkRoom.seen_in l.initial.room;
  cost : l.steps ≡ l.initial.steps + l.n;
  behind : IsBehind (row_of l.body) l.n l.behind;
}
