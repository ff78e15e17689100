-- What a hub notes of its rooms, so that a moment looks at those alone in which something lapses.
use Rattle.std.specs.Prelude.{◌≡◌, ◌==◌, ◌&&◌, ◌||◌, not, ℕ, Bool, false, List, Option, Some, None, is_some}
use Rattle.lists.specs.Rising.{find as find_by}
use Rattle.room_model.specs.Ledger.{IsNextLapse, expire}
use Rattle.room_model.specs.Room.{RoomValue}
use Rattle.hub_core.specs.declared.entry.RoomEntry.{RoomEntry}
use Rattle.hub_core.specs.Lapses.{has_lapse, is_moment}
use Rattle.hub_core.specs.RoomEntry.{serial_of}

-- the next lapse of a room; none where there is no room
abbrev pub IsNextOf : {R : Type 0} → (R → RoomValue) → Option (RoomEntry R) → Option ℕ → Type 0
IsNextOf room None next = next ≡ None
IsNextOf room (Some s) next = IsNextLapse (room s.room).seats next

-- each room's next lapse is there under its number, and nothing else
pub record AreNoted {R : Type 0} (room : R → RoomValue) (ss : List (RoomEntry R)) (ks : List (ℕ × ℕ)) : Type 0 where
  pub next : ℕ → Option ℕ
  pub of : (n : ℕ) → IsNextOf room (find_by serial_of n ss) (next n)
  pub has : (at n : ℕ) → has_lapse ks at n ≡ is_moment at (next n)

-- something lapses in a room by a moment
abbrev pub lapses_in : {R : Type 0} → (R → RoomValue) → ℕ → Option (RoomEntry R) → Bool
lapses_in room now None = false
lapses_in room now (Some s) = is_some (expire (room s.room).seats now)

-- the moments with those of a room exchanged
abbrev pub Exchanged : ℕ → Option ℕ → Option ℕ → List (ℕ × ℕ) → List (ℕ × ℕ) → Type 0
Exchanged n before after ks ls = (at m : ℕ) → has_lapse ls at m ≡ ((is_moment at after && (n == m)) || (not (is_moment at before && (n == m)) && has_lapse ks at m))
