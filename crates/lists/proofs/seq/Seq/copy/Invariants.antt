use Rattle.std.proofs.Common.{◌≡◌, take}
use Rattle.lists.proofs.seq.Seq.copy.Given as goal

abbrev pub invariant-loop-item : goal.invariant-loop-item
invariant-loop-item g l = l.out ≡ take l.item-index l.item-items
