use Rattle.std.proofs.Common.{◌≡◌, take}
use Rattle.canon_patch.specs.Names.{named_by_encoded}
use Rattle.canon_patch.proofs.names.names_in_blocks.Given as goal

-- what was named so far
abbrev pub invariant-loop-block : goal.invariant-loop-block
invariant-loop-block l = l.names.items ≡ named_by_encoded (take l.block-index l.blocks)
