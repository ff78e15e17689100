-- The value of a room: what its parts come to.
use Rattle.std.specs.Prelude.{ℕ, Bool, true, false, List, filter, length, map}
use Rattle.room_model.specs.declared.event.Stage.{Stage}
use Rattle.room_model.specs.declared.event.Stage.TheVariants as stage
use Rattle.room_model.specs.Seats.{Seats}
use Rattle.room_model.specs.Sessions.{Session}
use Rattle.room_model.specs.Room.{RoomValue}
use Rattle.room_model.specs.declared.definition.RoomDef.{RoomDef}
use Rattle.live_state.specs.Live.{Live, schema_of}
use Rattle.view_counts.specs.Settled.{View, view_now}
use Rattle.room_core.specs.declared.client.Client.{Client}
use Rattle.room_core.specs.declared.parts.Parts.{Parts}

-- a room, and whether it answered out of memory: then it answers it for good
pub record Held : Type 0 where
  pub room : RoomValue
  pub spent : Bool

-- the session of a client
abbrev pub session_of_client : Client → Session
session_of_client c = record { id = c.id; stage = c.stage; members = c.members; permitted = view_now c.view; queue = c.queue; keep = c.keep }

-- the room of these parts
abbrev pub room_with : RoomDef → List (List ℕ) → Live → View → Seats → List Client → RoomValue
room_with def criteria live shared seats clients = record {
  schema = schema_of live;
  def = def;
  criteria = criteria;
  state = live.table.state;
  shared = view_now shared;
  seats = seats;
  sessions = map session_of_client clients;
}

abbrev pub room_of : Parts → RoomValue
room_of p = room_with p.def p.criteria p.live p.shared p.places p.clients.items

-- a session at this stage has had its full state and has a connection
abbrev pub is_live : Stage → Bool
is_live stage.Reserved = false
is_live stage.Joining = false
is_live stage.Due = false
is_live stage.Live = true
is_live stage.Kept = false

-- how many sessions are live
abbrev pub live_count : List Session → ℕ
live_count ss = length (filter (λ (s : Session). is_live s.stage) ss)
