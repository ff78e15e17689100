-- A hub behind a reservation in one of its rooms, and with a room that is made. Ours.
use Rattle.std.specs.Prelude.{◌≡◌, ◌+◌, ◌++◌, ℕ, List, [], ◌∷◌, Some, map}
use Rattle.std.specs.List.{find}
use Rattle.std.specs.Option.{option_map_or}
use Rattle.lists.specs.Rising.{IsAbove}
use Rattle.room_model.specs.declared.definition.RoomDef.{RoomDef}
use Rattle.room_model.specs.declared.event.RoomEvent.{RoomEvent}
use Rattle.room_model.specs.declared.event.RoomEvent.TheVariants as event
use Rattle.room_model.specs.Room.{RoomValue}
use Rattle.hub_model.specs.declared.event.HubOut.{HubOut}
use Rattle.hub_model.specs.declared.event.HubOut.TheVariants as out
use Rattle.hub_model.specs.Dealt.{Dealt, RoomStep, dealt}
use Rattle.hub_model.specs.HubStep.{created_out, disposals, event_in, room_made, seat_text}
use Rattle.hub_model.specs.HubValues.{HubRoom, HubValue, def_of_room, is_named}
use Rattle.hub_core.specs.declared.parts.Parts.{Parts}
use Rattle.hub_core.specs.declared.entry.RoomEntry.{RoomEntry}
use Rattle.hub_core.specs.Hubs.{InOrder, Stands, hub_of}
use Rattle.hub_core.specs.Lapsed.{told_of}
use Rattle.hub_core.specs.Handled.{with_dealt}
use Rattle.hub_core.specs.RoomEntry.{room_in, serial_of}

-- the reservation of a session, for the room of an id
abbrev pub reserved_for : HubValue → List ℕ → List ℕ → HubRoom → List RoomEvent
reserved_for h session id r = event_in (Some id) r (event.Reserve session (h.now + (def_of_room h.defs r).seat))

-- what the rooms make of it
abbrev pub reserved_to : RoomStep → HubValue → List ℕ → List ℕ → List Dealt
reserved_to step h session id = map (λ (r : HubRoom). dealt step r (reserved_for h session id r)) h.rooms

-- the reply to the request, by the room of an id
abbrev pub seat_out : HubValue → ℕ → List ℕ → List ℕ → List HubRoom → HubOut
seat_out h conn session id rooms = out.Reply conn (option_map_or (seat_text h session) (find (is_named id) rooms) [])

-- the hub behind it, and what it gives
abbrev pub seated_in : RoomStep → HubValue → ℕ → List ℕ → List ℕ → HubValue × List HubOut
seated_in step h conn session id = (
  with_dealt h h.conns (reserved_to step h session id),
  told_of h.conns (reserved_to step h session id)
      ++ (seat_out h conn session id (map (λ (d : Dealt). d.room) (reserved_to step h session id)) ∷ disposals (map (λ (d : Dealt). d.room) (reserved_to step h session id))),
)

pub record Seated {R : Type 0} (room : R → RoomValue) (Holds : RoomValue → Type 0) (step : RoomStep) (conn : ℕ) (session : List ℕ) (s : RoomEntry R) (old new : Parts R) (before after : List HubOut) : Type 0 where
  pub hub : hub_of room new ≡ (seated_in step (hub_of room old) conn session s.id).0
  pub outs : after ≡ before ++ (seated_in step (hub_of room old) conn session s.id).1
  pub stands : Stands room Holds new

-- the hub with one more room
abbrev pub with_made : HubValue → HubRoom → HubValue
with_made h r = record { now = h.now; schema = h.schema; process = h.process; defs = h.defs; rooms = h.rooms ++ r ∷ []; conns = h.conns }

-- a room of a definition was made
pub record Added {R : Type 0} (room : R → RoomValue) (Holds : RoomValue → Type 0) (def : RoomDef) (at : ℕ) (criteria : List (List ℕ)) (id : List ℕ) (serial : ℕ) (old new : Parts R) (before after : List HubOut) : Type 0 where
  pub it : RoomEntry R
  pub number : it.serial ≡ serial
  pub is : room_in room it ≡ room_made (hub_of room old) criteria id at def
  pub rooms : new.registry.rooms ≡ old.registry.rooms ++ it ∷ []
  pub above : IsAbove serial_of serial old.registry.rooms
  pub outs : after ≡ before ++ created_out (hub_of room old) (room_in room it) ∷ []
  pub order : InOrder room Holds new
  pub conns : new.conns ≡ old.conns
  pub moment : new.moment ≡ old.moment
  pub schema : new.schema ≡ old.schema
  pub process : new.process ≡ old.process
  pub defs : new.defs ≡ old.defs
