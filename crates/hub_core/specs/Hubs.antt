-- A hub as its parts keep it.
use Rattle.std.specs.Prelude.{◌≡◌, ℕ, ◌^◌, ◌<◌, Bool, true, false, List, length}
use Rattle.std.specs.List.{find, list_all}
use Rattle.std.specs.Option.{option_map_or}
use Rattle.room_model.specs.Definitions.{is_room_def}
use Rattle.room_model.specs.Room.{RoomValue}
use Rattle.room_laws.specs.Names.{has_session}
use Rattle.room_laws.specs.StepLaws.{connected}
use Rattle.hub_model.specs.declared.conn.HubConn.{HubConn}
use Rattle.hub_model.specs.HubStep.{is_needed}
use Rattle.hub_model.specs.HubValues.{HubValue}
use Rattle.schema_model.specs.Ids.{is_id}
use Rattle.hub_core.specs.declared.parts.Parts.{Parts}
use Rattle.hub_core.specs.declared.entry.RoomEntry.{RoomEntry}
use Rattle.hub_core.specs.SessionRooms.{IsHoused}
use Rattle.hub_core.specs.Registered.{IsKept}
use Rattle.hub_core.specs.RoomEntry.{Each, has_id, room_in, rooms_in}

-- the value that its parts are
abbrev pub hub_of : {R : Type 0} → (R → RoomValue) → Parts R → HubValue
hub_of room p = record { now = p.moment; schema = p.schema; process = p.process; defs = p.defs; rooms = rooms_in room p.registry.rooms; conns = p.conns }

-- a room in order: it keeps its laws, and its id and the names of its sessions are ids
pub record IsGood {R : Type 0} (room : R → RoomValue) (Holds : RoomValue → Type 0) (s : RoomEntry R) : Type 0 where
  pub holds : Holds (room s.room)
  pub named : is_id s.id ≡ true
  pub sessions : (id : List ℕ) → has_session (room s.room) id ≡ true → is_id id ≡ true

-- a connection is that of a connected session of a room
abbrev pub is_of_one : {R : Type 0} → (R → RoomValue) → List (RoomEntry R) → HubConn → Bool
is_of_one room ss c = option_map_or (λ s. connected (room s.room) c.session) (find (has_id c.room) ss) false

-- a hub in order, but that a room may be left of which no place is in use
pub record InOrder {R : Type 0} (room : R → RoomValue) (Holds : RoomValue → Type 0) (p : Parts R) : Type 0 where
  pub kept : IsKept room p.registry
  pub opens : length p.registry.open_rooms.items ≡ length p.defs
  pub rooms : Each (IsGood room Holds) p.registry.rooms
  pub conns : list_all (is_of_one room p.registry.rooms) p.conns ≡ true
  pub early : p.moment < 2 ^ 53
  pub few : length p.defs < 2 ^ 32
  pub forms : list_all is_room_def p.defs ≡ true
  pub process : is_id p.process ≡ true
  pub housed : Each (IsHoused room p.session_rooms) p.registry.rooms

-- a place of the room is in use
abbrev pub IsNeeded : {R : Type 0} → (R → RoomValue) → RoomEntry R → Type 0
IsNeeded room s = is_needed (room_in room s) ≡ true

-- a hub in order
pub record Stands {R : Type 0} (room : R → RoomValue) (Holds : RoomValue → Type 0) (p : Parts R) : Type 0 where
  pub order : InOrder room Holds p
  pub needed : Each (IsNeeded room) p.registry.rooms
