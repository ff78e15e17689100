use Rattle.std.proofs.Common.{◌≡◌, ℕ, List, ◌++◌, drop}
use Rattle.trees.specs.Slots.{entries_in}
use Rattle.instance_table.specs.declared.node.Node.{Node}
use Rattle.instance_table.specs.Nodes.{rows_in}
use Rattle.instance_table.proofs.nodes.copy_rows.Given as goal

-- the rows so far
abbrev pub invariant-loop-slot : goal.invariant-loop-slot
invariant-loop-slot l = (done : List (ℕ × Node)) × (entries_in l.slots ≡ done ++ entries_in (drop l.slot-index l.slots)) × (l.rows ≡ rows_in done)
