use Rattle.std.proofs.Common.{◌≡◌, drop}
use Rattle.lists.specs.Rising.{RisesFrom}
use Rattle.state_model.specs.Rows.{number_of}
use Rattle.wire_model.specs.Resolved.{applied}
use Rattle.canon_patch.proofs.apply.blocks_done.Given as goal

-- the rows so far, and what is left to do
abbrev pub invariant-loop-block : goal.invariant-loop-block
invariant-loop-block l = (applied l.schema l.tree (drop l.block-index l.block-items) ≡ applied l.schema l.rows l.blocks) × RisesFrom number_of 0 l.tree
