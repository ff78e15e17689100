use Rattle.std.proofs.Common.{◌≡◌, ◌++◌}
use Rattle.lists.specs.Rising.{RisesFrom}
use Rattle.state_model.specs.Rows.{number_of}
use Rattle.patch_decoder.specs.Drafts.{entries_of}
use Rattle.patch_decoder.proofs.drafts.Drafts.into_rows.Given as goal

-- the rows so far, and those that are left
abbrev pub invariant-loop-who : goal.invariant-loop-who
invariant-loop-who l = (l.rows ++ entries_of l.who-iterator ≡ l.fn.self) × RisesFrom number_of 0 l.fn.self
