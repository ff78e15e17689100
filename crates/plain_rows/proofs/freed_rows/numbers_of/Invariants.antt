use Rattle.std.proofs.Common.{◌≡◌, ℕ, take}
use Rattle.state_model.specs.Rows.{is_live}
use Rattle.state_model.specs.Reached.{is_among}
use Rattle.plain_rows.proofs.freed_rows.numbers_of.Given as goal

abbrev pub invariant-loop-entry : goal.invariant-loop-entry
invariant-loop-entry l = (k : ℕ) → is_among k l.numbers ≡ is_live (take l.entry-index l.entry-items) k
