-- Slots as places of entries whose keys stand at their places.
use Rattle.std.specs.Prelude.{ℕ, ◌<◌, List, [], ◌∷◌, get_or}
use Rattle.seat_ledger.specs.declared.slot.Slot.{Slot}

-- the slots of these places, by the keys of all entries
abbrev pub keyed_places : List ℕ → List ℕ → List Slot
keyed_places keys [] = []
keyed_places keys (at ∷ places) = record { key = get_or keys at 0; at = at } ∷ keyed_places keys places

-- all of these numbers are below one
abbrev pub AreBelow : ℕ → List ℕ → Type 0
AreBelow n [] = Unit {0}
AreBelow n (x ∷ xs) = (x < n) × AreBelow n xs
