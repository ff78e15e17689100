-- Clients that come back to a kept seat, after every list of events that may happen to a room: what they find, and what is gone.
-- Ours.
use Rattle.std.specs.Prelude.{◌≡◌, ℕ, Bool, true, false, List, [], ◌∷◌, Some}
use Rattle.std.specs.List.{flat_map, list_any}
use Rattle.std.specs.Str.{bytes_eq}
use Rattle.schema_model.specs.Classes.{Schema}
use Rattle.state_model.specs.declared.row.RowEntry.{RowEntry}
use Rattle.state_model.specs.Members.{live_members}
use Rattle.state_model.specs.Shown.{permitted, shared}
use Rattle.state_model.specs.State.{swept}
use Rattle.wire_model.specs.Frame.{full_state}
use Rattle.frame_model.specs.Frames.{client_bytes, server_bytes}
use Rattle.frame_model.specs.declared.frame.ClientFrame.TheVariants as client
use Rattle.frame_model.specs.declared.frame.ServerFrame.TheVariants as server
use Rattle.room_model.specs.declared.definition.RoomDef.{RoomDef}
use Rattle.room_model.specs.declared.event.RoomEvent.{RoomEvent}
use Rattle.room_model.specs.declared.event.RoomEvent.TheVariants as event
use Rattle.room_model.specs.declared.event.RoomOut.{RoomOut}
use Rattle.room_model.specs.declared.event.RoomOut.TheVariants as out
use Rattle.room_model.specs.declared.event.Stage.TheVariants.{Kept}
use Rattle.room_model.specs.Ledger.{has_token}
use Rattle.room_model.specs.Sessions.{Session, session_of}
use Rattle.room_model.specs.Room.{RoomValue, room_step}
use Rattle.life_model.specs.Entries.{Sending, Frame}
use Rattle.life_model.specs.RoomLives.{given_by, room_run}
use Rattle.room_promises.specs.RoomPromises.{CanPlay}

-- an output tells that a session came back
abbrev pub is_back : List ℕ → RoomOut → Bool
is_back id (out.Back s) = bytes_eq s id
is_back id o = false

-- what its connection is given by the tick behind its acknowledgement
abbrev pub given_at_tick : RoomValue → List ℕ → List Sending
given_at_tick r session = flat_map (given_by session) (room_step (room_step r (event.Frame session (client_bytes client.Ack))).0 event.Tick).1

-- the frame of the whole state that a session may see at a tick of the swept rows
abbrev pub whole_frame : RoomValue → List RowEntry → Session → List ℕ
whole_frame r rows s = server_bytes (server.State (full_state r.schema (shared r.schema rows) (permitted r.schema rows (live_members rows s.members).now)))

-- a session that came back by a token, in the room before and after that
pub record Returns (before : RoomValue) (session token : List ℕ) (after : RoomValue) : Type 0 where
  pub was : Session
  pub now : Session
  pub was_there : session_of before.sessions session ≡ Some was
  pub is_there : session_of after.sessions session ≡ Some now
  -- its seat was kept
  pub was_kept : was.stage ≡ Kept
  -- the members of its view stay, and so does the time for which its seat is kept
  pub members : now.members ≡ was.members
  pub keep : now.keep ≡ was.keep
  -- nothing waits for it
  pub queue : now.queue ≡ []
  -- the tick behind its acknowledgement gives it a whole state, and nothing else
  pub whole : given_at_tick after session ≡ Frame (whole_frame after (swept after.state).rows now) ∷ []
  -- the token by which it came is nobody's any more
  pub dead : has_token after.seats token ≡ false

-- so it is of every opening that brings a session back
abbrev pub ClientsReturn : Type 0
ClientsReturn =
    (schema : Schema) (def : RoomDef) (criteria : List (List ℕ)) (events : List RoomEvent) → CanPlay schema def criteria events
    → (session token fresh : List ℕ)
    → (let room = (room_run schema def criteria events).room in
    let step = room_step room (event.Enter session (Some token) fresh) in
    list_any (is_back session) step.1 ≡ true → Returns room session token step.0)
