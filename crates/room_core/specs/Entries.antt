-- What an opening makes of a room's places, and what it gives.
use Rattle.std.specs.Prelude.{ℕ, List, [], ◌∷◌, Option, Some, None, Result, Err, if◌then◌else◌}
use Rattle.room_model.specs.declared.event.RoomOut.{RoomOut}
use Rattle.room_model.specs.declared.event.RoomOut.TheVariants as out
use Rattle.room_model.specs.declared.seat.SeatFault.{SeatFault}
use Rattle.room_model.specs.declared.seat.SeatFault.TheVariants.{Locked, Full, NoSeat, WrongToken, IdInUse}
use Rattle.room_model.specs.Seats.{Seats, has_reservation}
use Rattle.room_model.specs.Ledger.{take_seat, retake}
use Rattle.room_model.specs.Room.{join_frame}

-- a reservation is taken, else a kept seat by its token
abbrev pub returned : Seats → List ℕ → Option (List ℕ) → List ℕ → Result Seats SeatFault
returned s session None fresh = Err NoSeat
returned s session (Some token) fresh = retake s session token fresh

abbrev pub entered : Seats → List ℕ → Option (List ℕ) → List ℕ → Result Seats SeatFault
entered s session token fresh = if has_reservation s session then take_seat s session fresh else returned s session token fresh

-- what an opening tells first that isn't refused, and what it gives
abbrev pub told_first : Seats → List ℕ → RoomOut
told_first s session = if has_reservation s session then out.Entered session else out.Back session

abbrev pub opening_outs : Seats → List ℕ → List ℕ → List RoomOut
opening_outs s session fresh = told_first s session ∷ out.Send session (join_frame fresh) ∷ []

-- what one gives that is refused
abbrev pub refused_opening : List ℕ → SeatFault → RoomOut
refused_opening session IdInUse = out.TokenInUse session
refused_opening session Locked = out.NoSeat session
refused_opening session Full = out.NoSeat session
refused_opening session NoSeat = out.NoSeat session
refused_opening session WrongToken = out.NoSeat session
