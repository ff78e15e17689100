use Rattle.std.proofs.Common.{◌≡◌, ◌++◌, take}
use Rattle.std.specs.List.{flat_map}
use Rattle.wire_model.specs.OpBytes.{op_bytes}
use Rattle.wire_ops.proofs.write.put_ops.Given as goal

-- what was written so far
abbrev pub invariant-loop-op : goal.invariant-loop-op
invariant-loop-op l = l.out.items ≡ l.fn.out.items ++ flat_map op_bytes (take l.op-index l.ops)
