use Rattle.std.proofs.Common.{◌≡◌, sum_by, take}
use Rattle.state_model.specs.Rows.{values_in}
use Rattle.state_model.specs.Values as texts
use Rattle.instance_table.specs.Bodies.{IsBehind, row_of}
use Rattle.instance_table.proofs.amounts.values_size.Given as goal

abbrev pub invariant-loop-n : goal.invariant-loop-n
invariant-loop-n l = record {
  size : l.size ≡ sum_by texts.text_size (take l.n (values_in (row_of l.body)));
  behind : IsBehind (row_of l.body) l.n l.behind;
}
