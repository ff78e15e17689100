use Rattle.std.proofs.Common.{◌≡◌, drop}
use Rattle.trees.specs.Slots.{items_in}
use Rattle.trees.proofs.numbered.first_item.Given as goal

-- the slots so far are holes
abbrev pub invariant-loop-slot : goal.invariant-loop-slot
invariant-loop-slot g l = items_in l.slots ≡ items_in (drop l.slot-index l.slots)
