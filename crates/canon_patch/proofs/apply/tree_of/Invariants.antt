use Rattle.std.proofs.Common.{◌≡◌, take}
use Rattle.canon_patch.proofs.apply.tree_of.Given as goal

-- the rows so far
abbrev pub invariant-loop-entry : goal.invariant-loop-entry
invariant-loop-entry l = (l.tree ≡ take l.entry-index l.entry-items) × (l.entry-items ≡ l.rows)
