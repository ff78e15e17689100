-- What a life's record takes from an event, by the stage that its session is at; of a room's life and of a hub's. Ours.
use Rattle.std.specs.Prelude.{ℕ, Bool, true, false, ◌&&◌, List, [], ◌∷◌, Option, Some, None, if◌then◌else◌}
use Rattle.std.specs.Option.{option_map_or}
use Rattle.std.specs.Str.{bytes_eq}
use Rattle.state_model.specs.declared.row.RowEntry.{RowEntry}
use Rattle.state_model.specs.Shown.{permitted}
use Rattle.frame_model.specs.Frames.{server_bytes}
use Rattle.frame_model.specs.declared.frame.ServerFrame.TheVariants as server
use Rattle.room_model.specs.declared.event.Act.{Act}
use Rattle.room_model.specs.declared.event.Act.TheVariants as act
use Rattle.room_model.specs.declared.event.Stage.{Stage}
use Rattle.room_model.specs.declared.event.Stage.TheVariants as stage
use Rattle.room_model.specs.Sessions.{Session}
use Rattle.room_model.specs.Room.{RoomValue}
use Rattle.life_model.specs.Entries.{Entry, Told, Ticked, Kicked}

-- ---- stages

-- a session that is joining, due or live
abbrev pub is_open : Stage → Bool
is_open stage.Joining = true
is_open stage.Due = true
is_open stage.Live = true
is_open s = false

-- one that sees ticks
abbrev pub sees_ticks : Stage → Bool
sees_ticks stage.Due = true
sees_ticks stage.Live = true
sees_ticks s = false

-- one that saw its full state
abbrev pub is_live_stage : Stage → Bool
is_live_stage stage.Live = true
is_live_stage s = false

-- the session is at such a stage
abbrev pub is_at : (Stage → Bool) → Option Session → Bool
is_at test s = option_map_or (λ (s : Session). test s.stage) s false

-- the rows that a session of a room may see
abbrev pub view_in : RoomValue → Session → List RowEntry
view_in r s = permitted r.schema r.state.rows s.members.now

-- ---- entries

-- an entry, where a test holds
abbrev pub entry_if : Bool → Entry → List Entry
entry_if test e = if test then e ∷ [] else []

-- an act on the room of the session, while the session is so far
abbrev pub act_entries : List ℕ → Option Session → Act → List Entry
act_entries session s (act.Send id kind payload) = entry_if (bytes_eq id session && is_at is_open s) (Told (server_bytes (server.Msg kind payload)))
act_entries session s (act.Raw id kind payload) = entry_if (bytes_eq id session && is_at is_open s) (Told (server_bytes (server.Raw kind payload)))
act_entries session s (act.ToAll kind payload) = entry_if (is_at is_open s) (Told (server_bytes (server.Msg kind payload)))
act_entries session s (act.Kick id code) = entry_if (bytes_eq id session) (Kicked code)
act_entries session s a = []

-- a tick that the session sees, by the rows after it
abbrev pub tick_entries : Option (List RowEntry × List RowEntry) → List Entry
tick_entries None = []
tick_entries (Some rows) = Ticked rows.0 rows.1 ∷ []
