use Rattle.std.proofs.Common.{◌≡◌, ℕ, length}
use Rattle.lists.specs.Rising.{RisesFrom}
use Rattle.trees.specs.Slots.{AreOwn, entries_in, item_of, items_in, slot_number}
use Rattle.trees.proofs.holes.drop_last_holes.Given as goal

abbrev pub invariant-loop-slots : goal.invariant-loop-slots
invariant-loop-slots g l = record {
  items : items_in l.slots.items ≡ items_in l.fn.slots.items;
  entries : entries_in l.slots.items ≡ entries_in l.fn.slots.items;
  rises : RisesFrom slot_number 0 l.slots.items;
  own : (key : g.row.V.Denot → ℕ) → AreOwn item_of key l.fn.slots.items → AreOwn item_of key l.slots.items;
}

abbrev pub decreases-loop-slots : goal.decreases-loop-slots
decreases-loop-slots g l = length l.slots.items
