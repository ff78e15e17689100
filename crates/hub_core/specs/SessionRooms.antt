-- Where sessions were reserved. Ours.
use Rattle.std.specs.Prelude.{◌≡◌, ℕ, Bool, true, false, List, Option, Some}
use Rattle.std.specs.BTreeMap.{is_at}
use Rattle.std.specs.Cmp.Lexicographic.{slice_cmp}
use Rattle.std.specs.Map.{lookup}
use Rattle.std.specs.Option.{option_map_or}
use Rattle.std.specs.Ordering.{nat_cmp}
use Rattle.lists.specs.Rising.{find as find_by}
use Rattle.room_model.specs.Room.{RoomValue}
use Rattle.room_laws.specs.Names.{has_session}
use Rattle.hub_core.specs.declared.entry.RoomEntry.{RoomEntry}
use Rattle.hub_core.specs.RoomEntry.{serial_of}

-- the number of the room in which a session was reserved last
abbrev pub room_of_session : List ℕ → List (List ℕ × ℕ) → Option ℕ
room_of_session id session_rooms = lookup (is_at (slice_cmp nat_cmp id)) session_rooms

-- each session of the room leads to it
abbrev pub IsHoused : {R : Type 0} → (R → RoomValue) → List (List ℕ × ℕ) → RoomEntry R → Type 0
IsHoused room session_rooms s = (id : List ℕ) → has_session (room s.room) id ≡ true → room_of_session id session_rooms ≡ Some s.serial

-- the room of a number has a session
abbrev pub has_in : {R : Type 0} → (R → RoomValue) → List (RoomEntry R) → ℕ → List ℕ → Bool
has_in room ss n id = option_map_or (λ s. has_session (room s.room) id) (find_by serial_of n ss) false
