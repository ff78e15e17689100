use Rattle.std.proofs.Common.{◌≡◌, ◌++◌, length}
use Rattle.wire_ops.proofs.items.Items.open.Given as goal

-- what was taken over and what is left
abbrev pub invariant-loop-item : goal.invariant-loop-item
invariant-loop-item l = l.fn.items ≡ l.items ++ l.opened

-- fewer are left
abbrev pub decreases-loop-item : goal.decreases-loop-item
decreases-loop-item l = length l.items
