use Rattle.std.proofs.Common.{◌≡◌, ◌-◌, length, take}
use Rattle.collection_ops.proofs.array_body.ArrayBody.copy_items.Given as goal

-- what was copied so far
abbrev pub invariant-loop-value : goal.invariant-loop-value
invariant-loop-value l = l.out ≡ take (length l.out) l.self

-- fewer are left
abbrev pub decreases-loop-value : goal.decreases-loop-value
decreases-loop-value l = length l.self - length l.out
