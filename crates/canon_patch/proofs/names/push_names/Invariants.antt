use Rattle.std.proofs.Common.{◌≡◌, ◌++◌, take}
use Rattle.std.specs.List.{flat_map}
use Rattle.canon_patch.specs.Names.{named_by_op}
use Rattle.canon_patch.proofs.names.push_names.Given as goal

-- what was named so far
abbrev pub invariant-loop-op : goal.invariant-loop-op
invariant-loop-op l = l.names.items ≡ l.fn.names.items ++ flat_map named_by_op (take l.op-index l.ops)
