-- What whoever runs rooms may rely on of each step: who is connected, and what is given to whom. Ours.
use Rattle.std.specs.Prelude.{◌≡◌, ℕ, ◌≤◌, Bool, true, false, not, ◌&&◌, ◌||◌, List, length, filter, Some, is_some, if◌then◌else◌}
use Rattle.std.specs.List.{list_any}
use Rattle.schema_model.specs.Classes.{Schema}
use Rattle.room_model.specs.declared.definition.RoomDef.{RoomDef}
use Rattle.room_model.specs.declared.event.RoomEvent.{RoomEvent}
use Rattle.room_model.specs.declared.event.RoomOut.{RoomOut}
pub use Rattle.room_model.specs.Outs.{is_answer, is_entry, is_loss, is_end, goes_to, opens, loses}
use Rattle.room_model.specs.Seats.{in_use}
use Rattle.room_model.specs.Sessions.{is_connected}
use Rattle.room_model.specs.Room.{RoomValue, new_room, room_step}
use Rattle.room_laws.specs.Places.{may_happen, may_follow, room_after}
use Rattle.room_laws.specs.Placed.{stands}

-- a session of a room is connected
abbrev pub connected : RoomValue → List ℕ → Bool
connected r id = stands is_connected r.sessions id

pub record StepLaws (r : RoomValue) (e : RoomEvent) (x : RoomValue × List RoomOut) : Type 0 where
  -- an opening has one answer, and no other event has one
  pub answered : length (filter is_answer x.1) ≡ (if is_some (opens e) then 1 else 0)
  -- a session is entered by its own opening alone, where it wasn't connected; then it is
  pub entered : (id : List ℕ) → list_any (is_entry id) x.1 ≡ true → (opens e ≡ Some id) × (connected r id ≡ false) × (connected x.0 id ≡ true)
  -- another one is connected afterwards exactly where it was and nothing ends that
  pub others : (id : List ℕ) → list_any (is_entry id) x.1 ≡ false → connected x.0 id ≡ (connected r id && not (list_any (is_end id) x.1))
  -- where a connection is lost, its session is told to be dropped or to have left
  pub lost : (id : List ℕ) → loses e ≡ Some id → list_any (is_loss id) x.1 ≡ true
  -- frames and closings go to sessions that were connected, or that are entered
  pub told : (id : List ℕ) → list_any (goes_to id) x.1 ≡ true → (connected r id || list_any (is_entry id) x.1) ≡ true

-- what holds of a room
pub record Obeys (r : RoomValue) : Type 0 where
  -- each step that may come
  pub steps : (e : RoomEvent) → may_happen r e ≡ true → StepLaws r e (room_step r e)
  -- while a session is connected a place is in use
  pub places : (id : List ℕ) → connected r id ≡ true → 1 ≤ in_use r.seats

-- so it is after every list of events that may happen, from a new room
abbrev pub RoomsObey : Type 0
RoomsObey = (schema : Schema) (def : RoomDef) (criteria : List (List ℕ)) (events : List RoomEvent) → may_follow (new_room schema def criteria) events ≡ true
    → Obeys (room_after (new_room schema def criteria) events)
