use Rattle.std.proofs.Common.{◌≡◌, ◌+◌, take}
use Rattle.state_model.specs.Rows.{place_count}
use Rattle.view_counts.proofs.reads.count_places.Given as goal

-- a read of each place of the rows so far
abbrev pub invariant-loop-entry : goal.invariant-loop-entry
invariant-loop-entry g l = l.steps ≡ l.fn.steps + place_count (take l.entry-index l.rows)
