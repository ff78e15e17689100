use Rattle.std.proofs.Common.{◌≡◌, ◌++◌, take}
use Rattle.std.specs.List.{flat_map}
use Rattle.canon_patch.specs.ByRef.{gone_encoded}
use Rattle.canon_patch.proofs.by_ref.push_gone.Given as goal

-- the operations so far
abbrev pub invariant-loop-value : goal.invariant-loop-value
invariant-loop-value l = l.ops ≡ l.fn.ops ++ flat_map (gone_encoded l.new) (take l.value-index l.old)
