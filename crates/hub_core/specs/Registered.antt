-- The rooms of a hub with what is noted of them.
use Rattle.std.specs.Prelude.{◌≡◌, ◌<◌, ◌++◌, ◌∷◌, [], ℕ, List, length}
use Rattle.room_model.specs.Room.{RoomValue}
use Rattle.hub_core.specs.declared.entry.RoomEntry.{RoomEntry}
use Rattle.hub_core.specs.declared.registry.Registry.{Registry}
use Rattle.hub_core.specs.Noted.{AreNoted}
use Rattle.hub_core.specs.OpenRooms.{AreListed}
use Rattle.hub_core.specs.RoomEntry.{Each}
use Rattle.hub_core.specs.Statuses.{IsStatus}

-- what a room showed last is what it shows
abbrev pub IsShown : {R : Type 0} → (R → RoomValue) → RoomEntry R → Type 0
IsShown room s = IsStatus (room s.room).seats s.status

-- each room's next lapse is noted, and each open room stands with those of its definition
pub record IsKept {R : Type 0} (room : R → RoomValue) (g : Registry R) : Type 0 where
  pub shown : Each (IsShown room) g.rooms
  pub noted : AreNoted room g.rooms g.lapses
  pub listed : AreListed room g.rooms g.open_rooms.items
  pub defs : Each (λ s. s.def < length g.open_rooms.items) g.rooms

-- a room of a number was added behind the others
pub record IsAdded {R : Type 0} (room : R) (id : List ℕ) (def : ℕ) (criteria : List (List ℕ)) (serial : ℕ) (old new : List (RoomEntry R)) : Type 0 where
  pub it : RoomEntry R
  pub rooms : new ≡ old ++ it ∷ []
  pub is : it ≡ record { serial = serial; def = def; id = id; status = it.status; room = room; criteria = criteria }
