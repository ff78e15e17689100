-- Rooms over lists of events: what a caller has to see to, and that the places in use never pass the room's. Ours.
use Rattle.std.specs.Prelude.{◌≡◌, ℕ, ◌≤◌, Bool, true, false, not, ◌&&◌, List, [], ◌∷◌, is_some, nat_lt}
use Rattle.std.specs.List.{fold}
use Rattle.std.specs.Option.{option_map_or}
use Rattle.schema_model.specs.Classes.{Schema}
use Rattle.room_model.specs.Limits.{moment_bound}
pub use Rattle.room_model.specs.Acts.{is_short_kind, may_act}
use Rattle.room_model.specs.declared.definition.RoomDef.{RoomDef}
use Rattle.room_model.specs.declared.event.RoomEvent.{RoomEvent}
use Rattle.room_model.specs.declared.event.RoomEvent.TheVariants as event
use Rattle.room_model.specs.Seats.{in_use}
use Rattle.room_model.specs.Ledger.{is_full}
use Rattle.room_model.specs.Sessions.{Session, session_of, is_connected}
use Rattle.room_model.specs.Room.{RoomValue, new_room, room_step}

-- a session of the room has a connection
abbrev pub is_connected_in : RoomValue → List ℕ → Bool
is_connected_in r session = option_map_or (λ (s : Session). is_connected s.stage) (session_of r.sessions session) false

-- the room has a place for a session: it is neither locked nor full, and doesn't have the session
abbrev pub has_place_for : RoomValue → List ℕ → Bool
has_place_for r session = not r.seats.locked && not (is_full r.seats) && not (is_some (session_of r.sessions session))

-- a number may be a moment or a lapse
abbrev pub is_moment : ℕ → Bool
is_moment at = nat_lt at moment_bound

-- an event may happen to a room: a reservation of a session that it has a place for; a frame and a loss of a session that
-- has a connection; any opening, any tick; moments and lapses within their bound, and acts within the limits
abbrev pub may_happen : RoomValue → RoomEvent → Bool
may_happen r (event.Reserve session lapse) = is_moment lapse && has_place_for r session
may_happen r (event.Enter session token fresh) = true
may_happen r (event.Frame session bytes) = is_connected_in r session
may_happen r (event.Lost session now) = is_moment now && is_connected_in r session
may_happen r (event.Moment now) = is_moment now
may_happen r (event.Act a) = may_act a
may_happen r event.Tick = true

-- the room after events
abbrev pub room_after : RoomValue → List RoomEvent → RoomValue
room_after r events = fold (λ (r : RoomValue) e. (room_step r e).0) r events

-- each of these events may happen where it comes
abbrev pub may_follow : RoomValue → List RoomEvent → Bool
may_follow r [] = true
may_follow r (e ∷ es) = may_happen r e && may_follow (room_step r e).0 es

-- after every such list the seats, reservations and kept seats together are at most the places that the room has then
abbrev pub RoomsKeepPlaces : Type 0
RoomsKeepPlaces = (schema : Schema) (def : RoomDef) (criteria : List (List ℕ)) (events : List RoomEvent) → may_follow (new_room schema def criteria) events ≡ true
    → (let seats = (room_after (new_room schema def criteria) events).seats in in_use seats ≤ seats.max)
