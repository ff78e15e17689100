-- The lives of a room's run: each reservation with all that follows up to its end, its record, what its connection was
-- given, and what it may see. Ours.
use Rattle.std.specs.Prelude.{ℕ, Bool, true, not, ◌&&◌, List, [], ◌∷◌, ◌++◌, map, Option, is_some, if◌then◌else◌}
use Rattle.std.specs.List.{flat_map, fold}
use Rattle.std.specs.Option.{option_map, option_map_or}
use Rattle.std.specs.Str.{bytes_eq}
use Rattle.schema_model.specs.Classes.{Schema}
use Rattle.state_model.specs.declared.row.RowEntry.{RowEntry}
use Rattle.state_model.specs.Rows.{root_alone}
use Rattle.state_model.specs.Shown.{shared}
use Rattle.room_model.specs.declared.definition.RoomDef.{RoomDef}
use Rattle.room_model.specs.declared.event.RoomEvent.{RoomEvent}
use Rattle.room_model.specs.declared.event.RoomEvent.TheVariants as event
use Rattle.room_model.specs.declared.event.RoomOut.{RoomOut}
use Rattle.room_model.specs.declared.event.RoomOut.TheVariants as out
use Rattle.room_model.specs.Sessions.{Session, session_of}
use Rattle.room_model.specs.Room.{RoomValue, new_room, room_step}
use Rattle.life_model.specs.Entries.{Entry, Record, Opened, Framed, Dropped, Lapsed, Sending, Frame, Closing}
use Rattle.life_model.specs.Lives.{entry_if, act_entries, tick_entries, is_at, is_open, is_live_stage, sees_ticks, view_in}

-- a life in a room: its session, whether it goes on, its record, what its connection was given, and its permitted rows
-- at the last tick
pub record RoomLife : Type 0 where
  pub session : List ℕ
  pub lasts : Bool
  pub entries : Record
  pub outputs : List Sending
  pub view : List RowEntry

-- ---- the entries of a life that goes on, for an event between two rooms

-- the session is in the room
abbrev pub is_in : RoomValue → List ℕ → Bool
is_in r session = is_some (session_of r.sessions session)

-- it has a connection
abbrev pub has_conn : RoomValue → List ℕ → Bool
has_conn r session = is_at is_open (session_of r.sessions session)

-- the rows that all see, and those that the session may see
abbrev pub rows_for : RoomValue → List ℕ → Option (List RowEntry × List RowEntry)
rows_for r session = option_map (λ (s : Session). (shared r.schema r.state.rows, view_in r s)) (session_of r.sessions session)

abbrev pub room_entries : RoomValue → RoomEvent → RoomValue → List ℕ → List Entry
room_entries before (event.Reserve id lapse) after session = []
room_entries before (event.Enter id token fresh) after session = entry_if (not (has_conn before session) && has_conn after session) (Opened fresh)
room_entries before (event.Frame id bytes) after session = entry_if (bytes_eq id session && has_conn before session) (Framed bytes)
room_entries before (event.Lost id now) after session = entry_if (bytes_eq id session && has_conn before session) (Dropped (is_in after session))
room_entries before (event.Moment now) after session = entry_if (not (is_in after session)) Lapsed
room_entries before (event.Act a) after session = act_entries session (session_of before.sessions session) a
room_entries before event.Tick after session =
    if is_at sees_ticks (session_of before.sessions session) then tick_entries (rows_for after session) else []

-- ---- what its connection is given

abbrev pub given_by : List ℕ → RoomOut → List Sending
given_by session (out.Send id bytes) = if bytes_eq id session then Frame bytes ∷ [] else []
given_by session (out.Close id code) = if bytes_eq id session then Closing code ∷ [] else []
given_by session o = []

-- ---- a life's step

-- its permitted rows at the last tick
abbrev pub view_after : RoomEvent → RoomValue → RoomLife → List RowEntry
view_after event.Tick after l = option_map_or (λ (rows : List RowEntry × List RowEntry). rows.1) (rows_for after l.session) l.view
view_after e after l = l.view

-- a life after an event; one that has ended stays as it is
abbrev pub lived : RoomValue → RoomEvent → RoomValue × List RoomOut → RoomLife → RoomLife
lived before e step l =
    if l.lasts
    then record {
      session = l.session;
      lasts = is_in step.0 l.session;
      entries = l.entries ++ room_entries before e step.0 l.session;
      outputs = l.outputs ++ flat_map (given_by l.session) step.1;
      view = view_after e step.0 l;
    }
    else l

-- a life begins with a reservation
abbrev pub new_life : RoomValue → List ℕ → RoomLife
new_life r session = record { session = session; lasts = true; entries = []; outputs = []; view = root_alone r.schema }

abbrev pub begun : RoomValue → RoomEvent → List RoomLife
begun r (event.Reserve session lapse) = if is_in r session then [] else new_life r session ∷ []
begun r e = []

-- ---- a run

-- the room, and the lives so far in the order of their reservations
pub record RoomRun : Type 0 where
  pub room : RoomValue
  pub lives : List RoomLife

abbrev pub run_step : RoomRun → RoomEvent → RoomRun
run_step x e = record { room = (room_step x.room e).0; lives = map (lived x.room e (room_step x.room e)) (x.lives ++ begun x.room e) }

-- a run from a new room
abbrev pub room_run : Schema → RoomDef → List (List ℕ) → List RoomEvent → RoomRun
room_run schema def criteria events = fold run_step (record { room = new_room schema def criteria; lives = [] }) events

-- a life that saw its full state and goes on
abbrev pub is_live : RoomValue → RoomLife → Bool
is_live r l = l.lasts && is_at is_live_stage (session_of r.sessions l.session)
