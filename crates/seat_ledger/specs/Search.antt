-- How far a search among slots has come.
use Rattle.std.specs.Prelude.{◌≡◌, ℕ, ◌≤◌, ◌<◌, true, false, List, length, get_or}
use Rattle.seat_ledger.specs.declared.slot.Slot.{Slot}
use Rattle.seat_ledger.specs.Slots.{precedes}

-- those before the low end stand before a slot, and those from the high end on don't
pub record IsSearched (ss : List Slot) (x : Slot) (low high : ℕ) : Type 0 where
  pub order : low ≤ high
  pub within : high ≤ length ss
  pub prefix : (i : ℕ) (d : Slot) → i < low → precedes (get_or ss i d) x ≡ true
  pub back : (i : ℕ) (d : Slot) → high ≤ i → i < length ss → precedes (get_or ss i d) x ≡ false
