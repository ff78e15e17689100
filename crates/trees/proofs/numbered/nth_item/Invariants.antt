use Rattle.std.proofs.Common.{◌≡◌, drop}
use Rattle.std.specs.List.{slice_get}
use Rattle.trees.specs.Slots.{items_in}
use Rattle.trees.proofs.numbered.nth_item.Given as goal

-- the place among the items that are left
abbrev pub invariant-loop-slot : goal.invariant-loop-slot
invariant-loop-slot g l = slice_get (items_in (drop l.slot-index l.slots)) l.left ≡ slice_get (items_in l.slots) l.place
