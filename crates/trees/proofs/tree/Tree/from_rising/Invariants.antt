use Rattle.std.proofs.Common.{◌≡◌, ◌++◌, length}
use Rattle.trees.proofs.tree.Tree.from_rising.Given as goal

-- what was moved and what is left
abbrev pub invariant-loop-item : goal.invariant-loop-item
invariant-loop-item g l = l.fn.items ≡ l.items ++ l.tree

-- fewer are left
abbrev pub decreases-loop-item : goal.decreases-loop-item
decreases-loop-item g l = length l.items
