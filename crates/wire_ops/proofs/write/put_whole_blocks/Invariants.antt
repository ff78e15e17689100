use Rattle.std.proofs.Common.{◌≡◌, ◌++◌, take}
use Rattle.std.specs.List.{flat_map}
use Rattle.wire_model.specs.OpBytes.{whole_block}
use Rattle.wire_ops.proofs.write.put_whole_blocks.Given as goal

-- what was written so far
abbrev pub invariant-loop-block : goal.invariant-loop-block
invariant-loop-block l = l.out.items ≡ l.fn.out.items ++ flat_map whole_block (take l.block-index l.blocks)
