use Rattle.std.proofs.Common.{◌≡◌, drop}
use Rattle.canon_patch.specs.Applying.{with_links}
use Rattle.canon_patch.proofs.linked.add_linked.Given as goal

-- the rows so far, and what is left to add
abbrev pub invariant-loop-op : goal.invariant-loop-op
invariant-loop-op l = with_links l.schema l.holder (drop l.op-index l.op-items) l.rows ≡ with_links l.schema l.holder l.ops l.fn.rows
