-- The lives of a hub's run: each reservation with all that follows up to its end. Its record has the requests that are answered
-- with its session, and what its room's run tells of it; what it is given is read off what the hub gives to its connections. Ours.
use Rattle.std.specs.Prelude.{ℕ, Bool, true, false, ◌&&◌, ◌||◌, ◌==◌, List, [], ◌∷◌, ◌++◌, map, Option, Some, None, is_some, if◌then◌else◌, option_and_then}
use Rattle.std.specs.List.{flat_map, find, fold, list_any}
use Rattle.std.specs.Option.{option_map_or}
use Rattle.std.specs.Str.{bytes_eq}
use Rattle.schema_model.specs.Classes.{Schema}
use Rattle.state_model.specs.declared.row.RowEntry.{RowEntry}
use Rattle.state_model.specs.Rows.{root_alone}
use Rattle.room_model.specs.declared.event.RoomEvent.{RoomEvent}
use Rattle.room_model.specs.Sessions.{Session, session_of}
use Rattle.room_model.specs.Room.{RoomValue}
use Rattle.hub_model.specs.declared.event.HubEvent.{HubEvent}
use Rattle.hub_model.specs.declared.event.HubEvent.TheVariants as event
use Rattle.hub_model.specs.declared.event.HubOut.{HubOut}
use Rattle.hub_model.specs.declared.event.HubOut.TheVariants as out
use Rattle.hub_model.specs.declared.conn.HubConn.{HubConn}
use Rattle.hub_model.specs.HubValues.{HubValue, HubRoom, is_named, room_of, is_conn_for}
use Rattle.hub_model.specs.Dealt.{RoomStep}
use Rattle.hub_model.specs.HubStep.{Rules, decided, reserved_in, answered_in, deals, makes, hub_step}
use Rattle.life_model.specs.Entries.{Entry, Record, Asked, Sending, Frame, Closing}
use Rattle.life_model.specs.Lives.{entry_if, is_at, is_live_stage}
use Rattle.life_model.specs.RoomLives.{RoomLife, room_entries, view_after}

-- a life: its room and session, whether it goes on, its record, what its connections were given, and its permitted
-- rows at its room's last tick
pub record HubLife : Type 0 where
  pub room : List ℕ
  pub session : List ℕ
  pub lasts : Bool
  pub entries : Record
  pub outputs : List Sending
  pub view : List RowEntry

-- the session of the room of an id
abbrev pub session_in : HubValue → List ℕ → List ℕ → Option Session
session_in h room session = option_and_then (λ (r : HubRoom). session_of r.room.sessions session) (room_of h room)

-- ---- what its room's run tells of it

-- the entries of a session, over the events that its room is dealt
abbrev pub dealt_entries : RoomStep → RoomValue → List RoomEvent → List ℕ → List Entry
dealt_entries step r [] session = []
dealt_entries step r (e ∷ es) session = room_entries r e (step r e).0 session ++ dealt_entries step (step r e).0 es session

-- and its permitted rows at the last tick of them
abbrev pub dealt_view : RoomStep → RoomValue → List RoomEvent → RoomLife → List RowEntry
dealt_view step r [] l = l.view
dealt_view step r (e ∷ es) l =
    dealt_view step (step r e).0 es (record { session = l.session; lasts = l.lasts; entries = l.entries; outputs = l.outputs; view = view_after e (step r e).0 l })

-- the room of a life as an event comes to it, with one that the event makes
abbrev pub room_dealt : Rules → HubValue → HubEvent → List ℕ → Option HubRoom
room_dealt rules h e room = find (is_named room) (h.rooms ++ makes rules h e)

-- what a life is in its room
abbrev pub in_room : HubLife → RoomLife
in_room l = record { session = l.session; lasts = l.lasts; entries = l.entries; outputs = l.outputs; view = l.view }

abbrev pub entries_dealt : Rules → HubValue → HubEvent → HubLife → Option HubRoom → List Entry
entries_dealt rules h e l None = []
entries_dealt rules h e l (Some r) = dealt_entries rules.step r.room (deals rules h e r) l.session

abbrev pub view_dealt : Rules → HubValue → HubEvent → HubLife → Option HubRoom → List RowEntry
view_dealt rules h e l None = l.view
view_dealt rules h e l (Some r) = dealt_view rules.step r.room (deals rules h e r) (in_room l)

-- ---- a request that is answered with its session

abbrev pub is_seat_of : HubLife → List ℕ × List ℕ → Bool
is_seat_of l s = bytes_eq s.0 l.room && bytes_eq s.1 l.session

-- the reply that an event gives
abbrev pub reply_given : List HubOut → List ℕ
reply_given [] = []
reply_given (out.Reply conn text ∷ outs) = text
reply_given (o ∷ outs) = reply_given outs

-- by the seat of which the reply tells
abbrev pub asked_entries : Rules → HubValue → HubEvent → List HubOut → HubLife → List Entry
asked_entries rules h (event.Ask conn target body room session) outs l =
    entry_if (option_map_or (is_seat_of l) (answered_in h room session (decided rules h target body room session)) false) (Asked target body (reply_given outs))
asked_entries rules h e outs l = []

-- ---- what its connections are given

-- a connection is the life's
abbrev pub has_conn : HubValue → HubLife → ℕ → Bool
has_conn h l conn = list_any (λ (c : HubConn). (c.conn == conn) && is_conn_for l.room l.session c) h.conns

-- before an event or behind it
abbrev pub is_own : HubValue → HubValue → HubLife → ℕ → Bool
is_own before after l conn = has_conn before l conn || has_conn after l conn

abbrev pub own_output : (ℕ → Bool) → HubOut → List Sending
own_output own (out.Send conn bytes) = if own conn then Frame bytes ∷ [] else []
own_output own (out.Close conn code) = if own conn then Closing code ∷ [] else []
own_output own o = []

-- all that an event gives to them; but the closing of a connection that gave what is no request belongs to no life
abbrev pub outputs_of : HubValue → HubEvent → HubValue → List HubOut → HubLife → List Sending
outputs_of before (event.Bad conn) after outs l = []
outputs_of before e after outs l = flat_map (own_output (is_own before after l)) outs

-- ---- a life's step

-- a life after an event; one that has ended stays as it is
abbrev pub lived : Rules → HubValue → HubEvent → HubValue × List HubOut → HubLife → HubLife
lived rules h e step l =
    if l.lasts
    then record {
      room = l.room;
      session = l.session;
      lasts = is_some (session_in step.0 l.room l.session);
      entries = l.entries ++ (asked_entries rules h e step.1 l ++ entries_dealt rules h e l (room_dealt rules h e l.room));
      outputs = l.outputs ++ outputs_of h e step.0 step.1 l;
      view = view_dealt rules h e l (room_dealt rules h e l.room);
    }
    else l

-- a life begins with a reservation
abbrev pub new_life : Schema → List ℕ → List ℕ → HubLife
new_life schema session room = record { room = room; session = session; lasts = true; entries = []; outputs = []; view = root_alone schema }

abbrev pub begun : Rules → HubValue → HubEvent → List HubLife
begun rules h (event.Ask conn target body room session) = option_map_or (λ id. new_life h.schema session id ∷ []) (reserved_in h room (decided rules h target body room session)) []
begun rules h e = []

-- ---- a run

-- the hub, and the lives so far in the order of their reservations
pub record HubRun : Type 0 where
  pub hub : HubValue
  pub lives : List HubLife

abbrev pub run_step : Rules → HubRun → HubEvent → HubRun
run_step rules x e = record {
  hub = (hub_step rules x.hub e).0;
  lives = map (lived rules x.hub e (hub_step rules x.hub e)) (x.lives ++ begun rules x.hub e);
}

-- a run of a hub
abbrev pub hub_run : Rules → HubValue → List HubEvent → HubRun
hub_run rules h events = fold (run_step rules) (record { hub = h; lives = [] }) events

-- a life that saw its full state and goes on
abbrev pub is_live : HubValue → HubLife → Bool
is_live h l = l.lasts && is_at is_live_stage (session_in h l.room l.session)
