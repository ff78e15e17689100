-- A hub's value: the moment, its schema, its process id and room definitions, its rooms in order of creation, and its connections.
-- After Colyseus 0.16.
use Rattle.std.specs.Prelude.{ℕ, Bool, ◌&&◌, ◌||◌, List, [], Option, is_some, get_or, map}
use Rattle.std.specs.List.{find, list_any}
use Rattle.std.specs.Str.{bytes_eq}
use Rattle.lists.specs.Rising.{find as find_by}
use Rattle.schema_model.specs.Classes.{Schema}
use Rattle.room_model.specs.declared.definition.RoomDef.{RoomDef}
use Rattle.room_model.specs.Seats.{in_use}
use Rattle.room_model.specs.Sessions.{session_of}
use Rattle.room_model.specs.Room.{RoomValue}
use Rattle.hub_model.specs.declared.conn.HubConn.{HubConn}
use Rattle.hub_model.specs.declared.request.Listing.{Listing}

-- a room of a hub: its id, its definition by position, the criteria of its creation, and what it is
pub record HubRoom : Type 0 where
  pub id : List ℕ
  pub def : ℕ
  pub criteria : List (List ℕ)
  pub room : RoomValue

pub record HubValue : Type 0 where
  pub now : ℕ
  pub schema : Schema
  pub process : List ℕ
  pub defs : List RoomDef
  pub rooms : List HubRoom
  -- they rise by their numbers
  pub conns : List HubConn

-- a hub without rooms, at moment 0
abbrev pub new_hub : Schema → List ℕ → List RoomDef → HubValue
new_hub schema process defs = record { now = 0; schema = schema; process = process; defs = defs; rooms = []; conns = [] }

-- ---- what is looked up

-- the room has this id
abbrev pub is_named : List ℕ → HubRoom → Bool
is_named id r = bytes_eq r.id id

-- the room of an id
abbrev pub room_of : HubValue → List ℕ → Option HubRoom
room_of h id = find (is_named id) h.rooms

-- the number of a connection, by which they rise
abbrev pub conn_number : HubConn → ℕ
conn_number c = c.conn

-- the connection of a number
abbrev pub conn_of : HubValue → ℕ → Option HubConn
conn_of h conn = find_by conn_number conn h.conns

-- the connection is that of a session of a room
abbrev pub is_conn_for : List ℕ → List ℕ → HubConn → Bool
is_conn_for room session c = bytes_eq c.room room && bytes_eq c.session session

-- the connection of a session of a room
abbrev pub conn_for : List HubConn → List ℕ → List ℕ → Option HubConn
conn_for conns room session = find (is_conn_for room session) conns

-- the definition of a room
abbrev pub def_of_room : List RoomDef → HubRoom → RoomDef
def_of_room defs r = get_or defs r.def r.room.def

-- a room as requests see it
abbrev pub listing_of : HubRoom → Listing
listing_of r = record { id = r.id; def = r.def; locked = r.room.seats.locked; in_use = in_use r.room.seats; max = r.room.seats.max; criteria = r.criteria }

abbrev pub listings : HubValue → List Listing
listings h = map listing_of h.rooms

-- an id is a room's, or a session's of a room
abbrev pub knows : List ℕ → HubRoom → Bool
knows id r = is_named id r || is_some (session_of r.room.sessions id)

abbrev pub is_used : HubValue → List ℕ → Bool
is_used h id = list_any (knows id) h.rooms
