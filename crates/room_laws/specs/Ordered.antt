-- Rooms in order: what holds of a new one, and after each step. Ours.
use Rattle.room_model.specs.Room.{RoomValue}
use Rattle.room_laws.specs.Ledgers.{Within}
use Rattle.room_laws.specs.Placed.{Placed}

-- a room's places and sessions tell the same, and no more places are in use than there are
pub record Ordered (r : RoomValue) : Type 0 where
  pub placed : Placed r
  pub within : Within r.seats
