-- Rooms whose places and sessions tell the same: the same sessions, in one order, each with a seat where it is connected,
-- a reservation where it is reserved, and a kept seat where it is kept. Ours.
use Rattle.std.specs.Prelude.{◌≡◌, ℕ, Bool, true, false, List, [], ◌∷◌, map, Option, None}
use Rattle.std.specs.Option.{option_map, option_map_or}
use Rattle.schema_model.specs.Classes.{Schema}
use Rattle.room_model.specs.declared.definition.RoomDef.{RoomDef}
use Rattle.room_model.specs.declared.event.RoomEvent.{RoomEvent}
use Rattle.room_model.specs.declared.event.Stage.{Stage}
use Rattle.room_model.specs.declared.event.Stage.TheVariants.{Reserved, Joining, Due, Live, Kept}
use Rattle.room_model.specs.declared.seat.Seat.{Seat}
use Rattle.room_model.specs.declared.seat.Seat.TheVariants as seat
use Rattle.room_model.specs.declared.seat.SeatEntry.{SeatEntry}
use Rattle.room_model.specs.Sessions.{Session, session_of}
use Rattle.room_model.specs.Room.{RoomValue, new_room}
use Rattle.room_laws.specs.Places.{may_follow, room_after}

abbrev pub is_reserved : Stage → Bool
is_reserved Reserved = true
is_reserved Joining = false
is_reserved Due = false
is_reserved Live = false
is_reserved Kept = false

abbrev pub is_kept : Stage → Bool
is_kept Reserved = false
is_kept Joining = false
is_kept Due = false
is_kept Live = false
is_kept Kept = true

-- the stage of the session of a name
abbrev pub stage_of : List Session → List ℕ → Option Stage
stage_of ss id = option_map (λ (s : Session). s.stage) (session_of ss id)

-- there is such a session, at such a stage
abbrev pub stands : (Stage → Bool) → List Session → List ℕ → Bool
stands test ss id = option_map_or test (stage_of ss id) false

-- no two sessions have one name
abbrev pub AreDistinct : List Session → Type 0
AreDistinct [] = Unit {0}
AreDistinct (s ∷ ss) = (session_of ss s.id ≡ None) × AreDistinct ss

-- the stage that stands for all at which a session has a connection
abbrev pub standing : Stage → Stage
standing Reserved = Reserved
standing Joining = Live
standing Due = Live
standing Live = Live
standing Kept = Kept

-- the stage at which a session has such a seat
abbrev pub standing_of : Seat → Stage
standing_of (seat.Reserved lapse) = Reserved
standing_of (seat.Taken token) = Live
standing_of (seat.Kept token lapse) = Kept

-- what an entry tells, and what a session does: a name, and where it stands
abbrev pub entry_tells : SeatEntry → List ℕ × Stage
entry_tells e = (e.session, standing_of e.seat)

abbrev pub session_tells : Session → List ℕ × Stage
session_tells s = (s.id, standing s.stage)

-- the places and the sessions of a room tell the same, one by one
pub record Placed (r : RoomValue) : Type 0 where
  pub distinct : AreDistinct r.sessions
  pub alike : map entry_tells r.seats.entries ≡ map session_tells r.sessions

-- after every list of events that may happen, from a new room
abbrev pub RoomsStayPlaced : Type 0
RoomsStayPlaced = (schema : Schema) (def : RoomDef) (criteria : List (List ℕ)) (events : List RoomEvent) → may_follow (new_room schema def criteria) events ≡ true
    → Placed (room_after (new_room schema def criteria) events)
