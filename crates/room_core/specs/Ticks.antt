-- A tick, client by client.
use Rattle.std.specs.Prelude.{◌≡◌, ℕ, ◌==◌, true, List, [], ◌∷◌, length, map, All, if◌then◌else◌}
use Rattle.schema_model.specs.Classes.{Schema}
use Rattle.state_model.specs.declared.row.RowEntry.{RowEntry}
use Rattle.state_model.specs.Members.{live_members}
use Rattle.state_model.specs.Shown.{permitted}
use Rattle.frame_model.specs.Frames.{server_bytes}
use Rattle.frame_model.specs.declared.frame.ServerFrame.TheVariants as server
use Rattle.room_model.specs.declared.event.RoomOut.{RoomOut}
use Rattle.room_model.specs.declared.event.RoomOut.TheVariants as out
use Rattle.room_model.specs.Sessions.{Session}
use Rattle.room_model.specs.Room.{tick_outs, ticked_at}
use Rattle.live_state.specs.Live.{Live as State-now, schema_of, rows_of}
use Rattle.view_counts.specs.Settled.{View, view_before}
use Rattle.view_edits.specs.There.{are_there}
use Rattle.room_core.specs.declared.client.Client.{Client}
use Rattle.room_core.specs.Values.{session_of_client}
use Rattle.room_core.specs.Stands.{ClientStands}

-- the pairs of all clients are of rows that are there
abbrev pub AllThere : List RowEntry → List Client → Type 0
AllThere rows cs = All (λ (c : Client). are_there rows c.members.now ≡ true) cs

-- a client without the pairs of rows that are gone
abbrev pub client_swept : List RowEntry → Client → Client
client_swept rows c = record { id = c.id; stage = c.stage; members = live_members rows c.members; view = c.view; queue = c.queue; keep = c.keep }

-- the session of a client after a tick
abbrev pub ticked_client : Schema → List RowEntry → Client → Session
ticked_client schema rows c = ticked_at c.stage (permitted schema rows c.members.now) (session_of_client c)

-- the frame of state bytes, where there are some
abbrev pub frames_where : List ℕ → List (List ℕ)
frames_where bytes = if length bytes == 0 then [] else server_bytes (server.Patch bytes) ∷ []

-- the frames that a session is sent
abbrev pub sent_to : List ℕ → List (List ℕ) → List RoomOut
sent_to id frames = map (out.Send id) frames

-- what the tick of a client makes of it, and its frames
pub record Ticks (live : State-now) (shared : View) (old new : Client) (frames : List (List ℕ)) : Type 0 where
  pub id : new.id ≡ old.id
  pub session : session_of_client new ≡ ticked_client (schema_of live) (rows_of live) old
  pub outs : sent_to old.id frames ≡ tick_outs (schema_of live) (view_before shared) (rows_of live) (session_of_client old)
  pub stands : ClientStands (schema_of live) (rows_of live) (rows_of live) new
