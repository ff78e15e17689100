use Rattle.std.proofs.Common.{◌≡◌, take}
use Rattle.state_model.proofs.rows.Rows.copy.Given as goal

abbrev pub invariant-loop-entry : goal.invariant-loop-entry
invariant-loop-entry l = l.out ≡ take l.entry-index l.entry-items
