use Rattle.std.proofs.Common.{◌≡◌, ◌++◌}
use Rattle.plain_rows.proofs.number_set.NumberSet.to_vec.Given as goal

abbrev pub invariant-loop-number : goal.invariant-loop-number
invariant-loop-number l = l.out.items ++ l.number-iterator ≡ l.self
