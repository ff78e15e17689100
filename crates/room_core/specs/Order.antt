-- What holds of a room, and after each step.
use Rattle.std.specs.Prelude.{◌≡◌, Bool, false}
use Rattle.room_laws.specs.Ordered.{Ordered}
use Rattle.room_core.specs.declared.parts.Parts.{Parts}
use Rattle.room_core.specs.Stands.{RoomStands}
use Rattle.room_core.specs.Values.{room_of}

-- its places and clients are in order; where it isn't spent its views stand as at the last tick
pub record InOrder (p : Parts) (spent : Bool) : Type 0 where
  pub ordered : Ordered (room_of p)
  pub stands : spent ≡ false → RoomStands p
