-- Rooms in slots, by their numbers.
use Rattle.std.specs.Prelude.{◌≡◌, ℕ, List, [], ◌∷◌, ◌++◌, Option, Some, None}
use Rattle.std.specs.Option.{option_map, option_to_list}
use Rattle.std.specs.BTreeMap.{is_at}
use Rattle.std.specs.Map.{lookup}
use Rattle.std.specs.Ordering.{nat_cmp}
use Rattle.lists.specs.Rising.{RisesFrom, find as find_by}
use Rattle.hub_core.specs.declared.entry.RoomEntry.{RoomEntry}
use Rattle.hub_core.specs.RoomEntry.{serial_of}

-- the number of an entry, whose slot is the other part
abbrev pub entry_number : ℕ × ℕ → ℕ
entry_number e = e.0

-- what stands in the slots of entries, in their order
abbrev pub in_slots : {X : Type 0} → (ℕ → Option X) → List (ℕ × ℕ) → List X
in_slots slot [] = []
in_slots slot (e ∷ es) = option_to_list (slot e.1) ++ in_slots slot es

-- in the slot of each entry stands the room of its number
abbrev pub AreFilled : {R : Type 0} → (ℕ → Option (RoomEntry R)) → List (ℕ × ℕ) → Type 0
AreFilled slot [] = Unit {0}
AreFilled slot (e ∷ es) = (option_map serial_of (slot e.1) ≡ Some e.0) × AreFilled slot es

-- the entries rise, each leads to its room, and each slot that isn't empty is that of an entry
pub record AreSlots {R : Type 0} (slot : ℕ → Option (RoomEntry R)) (es : List (ℕ × ℕ)) : Type 0 where
  pub rises : RisesFrom entry_number 0 es
  pub filled : AreFilled slot es
  pub noted : (k : ℕ) (s : RoomEntry R) → slot k ≡ Some s → lookup (is_at (nat_cmp s.serial)) es ≡ Some k

-- the slot of the room of a number, or there is no such room
abbrev pub IsSlotOf : {R : Type 0} → (ℕ → Option (RoomEntry R)) → List (ℕ × ℕ) → ℕ → Option ℕ → Type 0
IsSlotOf slot es n (Some k) = option_map serial_of (slot k) ≡ Some n
IsSlotOf slot es n None = find_by serial_of n (in_slots slot es) ≡ None
