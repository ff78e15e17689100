-- Rooms that let nobody in.
use Rattle.std.specs.Prelude.{◌≡◌, List, [], ◌∷◌}
use Rattle.room_model.specs.declared.event.RoomEvent.{RoomEvent}
use Rattle.room_model.specs.declared.event.RoomEvent.TheVariants as event
use Rattle.room_model.specs.declared.event.RoomOut.{RoomOut}
use Rattle.room_model.specs.declared.event.RoomOut.TheVariants as out
use Rattle.room_model.specs.Room.{RoomValue}

-- what one gives: whoever opens a seat has none
abbrev pub closed_outs : RoomEvent → List RoomOut
closed_outs (event.Enter session token fresh) = out.NoSeat session ∷ []
closed_outs e = []

-- its step: it stays as it is
abbrev pub closed_step : RoomValue → RoomEvent → RoomValue × List RoomOut
closed_step r e = (r, closed_outs e)

-- there is nobody in it
pub record IsEmpty (r : RoomValue) : Type 0 where
  pub entries : r.seats.entries ≡ []
  pub sessions : r.sessions ≡ []
