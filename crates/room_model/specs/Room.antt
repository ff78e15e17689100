-- A room's value and its step: reservations, openings, frames, losses, moments, acts and ticks.
-- After Colyseus 0.16; the moment of the full state is ours.
use Rattle.std.specs.Prelude.{ℕ, ◌+◌, true, false, List, [], ◌∷◌, ◌++◌, length, map, pos, Option, Some, None, Result, Ok, Err, nat_lt, if◌then◌else◌, codes}
use Rattle.std.specs.List.{flat_map}
use Rattle.std.specs.Option.{option_map}
use Rattle.state_model.specs.Reached.{times}
use Rattle.schema_model.specs.Classes.{Schema}
use Rattle.state_model.specs.declared.row.RowEntry.{RowEntry}
use Rattle.state_model.specs.declared.command.TableFault.{TableFault}
use Rattle.state_model.specs.Rows.{root_alone}
use Rattle.state_model.specs.State.{State, new_state, swept}
use Rattle.state_model.specs.Commands.{do_command}
use Rattle.state_model.specs.Members.{no_members, live_members, ticked}
use Rattle.state_model.specs.Shown.{permitted, shared}
use Rattle.wire_model.specs.Frame.{state_frame, full_state, has_operation}
use Rattle.frame_model.specs.Frames.{server_bytes}
use Rattle.frame_model.specs.Reading.{read_client}
use Rattle.frame_model.specs.declared.codes.TheConstants.{CONSENTED, INVALID_PAYLOAD}
use Rattle.frame_model.specs.declared.frame.ServerFrame.TheVariants as server
use Rattle.frame_model.specs.declared.frame.ClientFrame.{ClientFrame}
use Rattle.frame_model.specs.declared.frame.ClientFrame.TheVariants as client
use Rattle.frame_model.specs.declared.fault.FrameFault.{FrameFault}
use Rattle.room_model.specs.declared.definition.RoomDef.{RoomDef}
use Rattle.room_model.specs.declared.event.Act.{Act}
use Rattle.room_model.specs.declared.event.Act.TheVariants as act
use Rattle.room_model.specs.declared.event.RoomEvent.{RoomEvent}
use Rattle.room_model.specs.declared.event.RoomEvent.TheVariants as event
use Rattle.room_model.specs.declared.event.RoomOut.{RoomOut}
use Rattle.room_model.specs.declared.event.RoomOut.TheVariants as out
use Rattle.room_model.specs.declared.event.Stage.{Stage}
use Rattle.room_model.specs.declared.event.Stage.TheVariants.{Reserved, Joining, Due, Live, Kept}
use Rattle.room_model.specs.declared.refusal.Refusal.{Refusal}
use Rattle.room_model.specs.declared.refusal.Refusal.TheVariants as refusal
use Rattle.room_model.specs.declared.seat.SeatFault.{SeatFault}
use Rattle.room_model.specs.declared.seat.SeatFault.TheVariants.{IdInUse}
use Rattle.room_model.specs.Seats.{Seats, new_seats, seat_of, is_kept_seat, has_reservation, reserved_seat, left_seat}
use Rattle.room_model.specs.Ledger.{take_seat, retake, keep, expire, set_locked}
use Rattle.room_model.specs.Sessions.{Session, Acted, session_of, change_session, sessions_but, is_connected, at_stage, told_to, view_added_to, view_removed_from, keep_set}

-- a room: its schema, definition and criteria, its state, the shared rows at the last tick, its places, and its sessions in the order of reserving
pub record RoomValue : Type 0 where
  pub schema : Schema
  pub def : RoomDef
  pub criteria : List (List ℕ)
  pub state : State
  pub shared : List RowEntry
  pub seats : Seats
  pub sessions : List Session

-- a new room
abbrev pub new_room : Schema → RoomDef → List (List ℕ) → RoomValue
new_room schema def criteria = record {
  schema = schema;
  def = def;
  criteria = criteria;
  state = new_state schema;
  shared = root_alone schema;
  seats = new_seats def.max;
  sessions = [];
}

-- the room with other sessions
abbrev pub with_sessions : RoomValue → List Session → RoomValue
with_sessions r ss = record { schema = r.schema; def = r.def; criteria = r.criteria; state = r.state; shared = r.shared; seats = r.seats; sessions = ss }

-- and with other places
abbrev pub with_seats : RoomValue → Seats → RoomValue
with_seats r seats = record { schema = r.schema; def = r.def; criteria = r.criteria; state = r.state; shared = r.shared; seats = seats; sessions = r.sessions }

-- the room without a session that ends
abbrev pub ended : RoomValue → List ℕ → RoomValue
ended r session = with_seats (with_sessions r (sessions_but session r.sessions)) (left_seat r.seats session)

-- ---- a reservation

abbrev pub after_reserve : RoomValue → List ℕ → ℕ → RoomValue
after_reserve r session lapse = record {
  schema = r.schema;
  def = r.def;
  criteria = r.criteria;
  state = r.state;
  shared = r.shared;
  seats = reserved_seat r.seats session lapse;
  sessions = r.sessions
      ++ record { id = session; stage = Reserved; members = no_members; permitted = root_alone r.schema; queue = []; keep = r.def.keep } ∷ [];
}

-- ---- an opening

-- the JOIN_ROOM frame with a fresh token
abbrev pub join_frame : List ℕ → List ℕ
join_frame fresh = server_bytes (server.Join fresh [])

-- a seat was taken, which is told first; or the fresh token is in use; or there is no seat to take
abbrev pub opened_by : RoomValue → List ℕ → List ℕ → RoomOut → Result Seats SeatFault → RoomValue × List RoomOut
opened_by r session fresh told (Ok seats) =
    (with_seats (with_sessions r (change_session session (at_stage Joining) r.sessions)) seats, told ∷ out.Send session (join_frame fresh) ∷ [])
opened_by r session fresh told (Err IdInUse) = (r, out.TokenInUse session ∷ [])
opened_by r session fresh told (Err f) = (r, out.NoSeat session ∷ [])

-- a kept seat is taken by its token
abbrev pub after_return : RoomValue → List ℕ → Option (List ℕ) → List ℕ → RoomValue × List RoomOut
after_return r session None fresh = (r, out.NoSeat session ∷ [])
after_return r session (Some token) fresh = opened_by r session fresh (out.Back session) (retake r.seats session token fresh)

-- a reservation is taken, else a kept seat
abbrev pub after_enter : RoomValue → List ℕ → Option (List ℕ) → List ℕ → RoomValue × List RoomOut
after_enter r session token fresh =
    if has_reservation r.seats session then opened_by r session fresh (out.Entered session) (take_seat r.seats session fresh) else after_return r session token fresh

-- ---- a frame of a client

-- the answer to a frame that can't be read
abbrev pub unread_frame : List ℕ
unread_frame = server_bytes (server.Fault (pos INVALID_PAYLOAD) (codes "invalid payload"))

-- an acknowledged session is due its full state; in other stages the acknowledgement has no effect
abbrev pub acknowledged_at : Stage → Session → Session
acknowledged_at Joining s = at_stage Due s
acknowledged_at stage s = s

abbrev pub acknowledged : Session → Session
acknowledged s = acknowledged_at s.stage s

-- what a frame says, or that it can't be read
abbrev pub after_read : RoomValue → List ℕ → Result ClientFrame FrameFault → RoomValue × List RoomOut
after_read r session (Ok client.Ack) = (with_sessions r (change_session session acknowledged r.sessions), [])
after_read r session (Ok client.Leave) = (ended r session, out.Close session CONSENTED ∷ out.Left session ∷ [])
after_read r session (Ok (client.Msg kind payload)) = (r, out.Message session kind payload ∷ [])
after_read r session (Ok (client.Raw kind payload)) = (r, out.RawMessage session kind payload ∷ [])
after_read r session (Err f) = (r, out.Send session unread_frame ∷ [])

-- what happens to a session that has a connection; to others nothing does
abbrev pub where_connected : RoomValue → Option Session → (Session → RoomValue × List RoomOut) → RoomValue × List RoomOut
where_connected r None happens = (r, [])
where_connected r (Some s) happens = if is_connected s.stage then happens s else (r, [])

abbrev pub after_frame : RoomValue → List ℕ → List ℕ → RoomValue × List RoomOut
after_frame r session bytes = where_connected r (session_of r.sessions session) (λ s. after_read r session (read_client bytes))

-- ---- a lost connection: the seat is kept where it has a time, and what waited and what was seen are forgotten, since a
-- full state comes next; else it ends

-- the places of a call that was accepted
abbrev pub accepted : Seats → Result Seats SeatFault → Seats
accepted seats (Ok after) = after
accepted seats (Err f) = seats

-- only its members and its keep time stay
abbrev pub dropped : Schema → Session → Session
dropped schema s = record { id = s.id; stage = Kept; members = s.members; permitted = root_alone schema; queue = []; keep = s.keep }

abbrev pub after_drop : RoomValue → ℕ → Session → RoomValue × List RoomOut
after_drop r now s =
    if nat_lt 0 s.keep
    then (with_seats (with_sessions r (change_session s.id (dropped r.schema) r.sessions)) (accepted r.seats (keep r.seats s.id (now + s.keep))), out.Dropped s.id ∷ [])
    else (ended r s.id, out.Left s.id ∷ [])

abbrev pub after_loss : RoomValue → List ℕ → ℕ → RoomValue × List RoomOut
after_loss r session now = where_connected r (session_of r.sessions session) (after_drop r now)

-- ---- a moment: what lapses by it ends, one entry after another; a kept seat is told

abbrev pub lapse_outs : Seats → List ℕ → List RoomOut
lapse_outs seats session = if is_kept_seat (seat_of seats session) then out.Left session ∷ [] else []

abbrev pub after_lapse : RoomValue × List RoomOut → Option (List ℕ × Seats) → RoomValue × List RoomOut
after_lapse so_far None = so_far
after_lapse so_far (Some entry) = (ended so_far.0 entry.0, so_far.1 ++ lapse_outs so_far.0.seats entry.0)

abbrev pub after_moment : RoomValue → ℕ → RoomValue × List RoomOut
after_moment r now = times (length r.seats.entries) (λ (so_far : RoomValue × List RoomOut). after_lapse so_far (expire so_far.0.seats now)) (r, [])

-- ---- a command

-- the room with another state
abbrev pub with_state : RoomValue → State → RoomValue
with_state r s = record { schema = r.schema; def = r.def; criteria = r.criteria; state = s; shared = r.shared; seats = r.seats; sessions = r.sessions }

-- the number of a row that was made
abbrev pub made_outs : Option ℕ → List RoomOut
made_outs None = []
made_outs (Some n) = out.Made n ∷ []

-- what a command's answer makes of the room
abbrev pub after_answer : RoomValue → Result (State × Option ℕ) TableFault → RoomValue × List RoomOut
after_answer r (Ok answer) = (with_state r answer.0, made_outs answer.1)
after_answer r (Err f) = (r, out.Refused (refusal.Table f) ∷ [])

-- ---- a tick

-- the frames of a session at a tick: its full state and what waited for it, or its patch where it has an operation
abbrev pub frames_at : Stage → Schema → List RowEntry → List RowEntry → List RowEntry → Session → List (List ℕ)
frames_at Due schema shared0 shared1 permitted1 s = server_bytes (server.State (full_state schema shared1 permitted1)) ∷ s.queue
frames_at Live schema shared0 shared1 permitted1 s =
    if has_operation schema shared0 s.permitted shared1 permitted1
    then server_bytes (server.Patch (state_frame schema shared0 s.permitted shared1 permitted1)) ∷ []
    else []
frames_at stage schema shared0 shared1 permitted1 s = []

-- a session that has seen a tick
abbrev pub live_session : List RowEntry → Session → Session
live_session permitted1 s = record { id = s.id; stage = Live; members = ticked s.members; permitted = permitted1; queue = []; keep = s.keep }

-- the session after a tick
abbrev pub ticked_at : Stage → List RowEntry → Session → Session
ticked_at Due permitted1 s = live_session permitted1 s
ticked_at Live permitted1 s = live_session permitted1 s
ticked_at stage permitted1 s = record { id = s.id; stage = s.stage; members = ticked s.members; permitted = s.permitted; queue = s.queue; keep = s.keep }

-- the session with the pairs of freed instances gone
abbrev pub session_swept : List RowEntry → Session → Session
session_swept rows s = record { id = s.id; stage = s.stage; members = live_members rows s.members; permitted = s.permitted; queue = s.queue; keep = s.keep }

-- what a session is sent at a tick of the swept rows
abbrev pub tick_outs : Schema → List RowEntry → List RowEntry → Session → List RoomOut
tick_outs schema shared0 rows s =
    map (out.Send s.id) (frames_at s.stage schema shared0 (shared schema rows) (permitted schema rows s.members.now) s)

-- a tick of a room whose state and views are swept
abbrev pub swept_tick : RoomValue → List Session → State → RoomValue × List RoomOut
swept_tick r ss state = (
  record {
    schema = r.schema;
    def = r.def;
    criteria = r.criteria;
    state = state;
    shared = shared r.schema state.rows;
    seats = r.seats;
    sessions = map (λ (s : Session). ticked_at s.stage (permitted r.schema state.rows s.members.now) s) ss;
  },
  flat_map (tick_outs r.schema r.shared state.rows) ss,
)

-- a tick: the state is swept, the pairs of freed instances go, and then the frames are made in the order of reserving
abbrev pub after_tick : RoomValue → RoomValue × List RoomOut
after_tick r = swept_tick r (map (session_swept (swept r.state).rows) r.sessions) (swept r.state)

-- ---- acts on sessions

-- what an act makes of a room: of the session that it names, or its refusal
abbrev pub acted_on : RoomValue → List ℕ → Option (Result Acted Refusal) → RoomValue × List RoomOut
acted_on r id None = (r, out.Refused refusal.NoSession ∷ [])
acted_on r id (Some (Err f)) = (r, out.Refused f ∷ [])
acted_on r id (Some (Ok a)) = (with_sessions r (change_session id (λ s. a.session) r.sessions), a.outs)

abbrev pub on_session : RoomValue → List ℕ → (Session → Result Acted Refusal) → RoomValue × List RoomOut
on_session r id does = acted_on r id (option_map does (session_of r.sessions id))

-- a message to all: each that has a connection is told, but for those whose queue is full
abbrev pub session_after : Session → Result Acted Refusal → Session
session_after s (Ok a) = a.session
session_after s (Err f) = s

abbrev pub outs_after : Result Acted Refusal → List RoomOut
outs_after (Ok a) = a.outs
outs_after (Err f) = []

abbrev pub told_all : RoomValue → List ℕ → RoomValue × List RoomOut
told_all r frame = (
  with_sessions r (map (λ (s : Session). session_after s (told_to frame s)) r.sessions),
  flat_map (λ (s : Session). outs_after (told_to frame s)) r.sessions,
)

-- a kick: the session ends, and its connection is closed, where it has one
abbrev pub kick_outs : ℕ → Session → List RoomOut
kick_outs code s = if is_connected s.stage then out.Close s.id code ∷ out.Left s.id ∷ [] else out.Left s.id ∷ []

abbrev pub after_kick : RoomValue → ℕ → Option Session → RoomValue × List RoomOut
after_kick r code None = (r, out.Refused refusal.NoSession ∷ [])
after_kick r code (Some s) = (ended r s.id, kick_outs code s)

abbrev pub after_act : RoomValue → Act → RoomValue × List RoomOut
after_act r (act.State command) = after_answer r (do_command r.schema r.state command)
after_act r (act.ViewAdd id p) = on_session r id (view_added_to r.schema r.state.rows p)
after_act r (act.ViewDel id p) = on_session r id (view_removed_from r.schema r.state.rows p)
after_act r (act.Send id kind bytes) = on_session r id (told_to (server_bytes (server.Msg kind bytes)))
after_act r (act.Raw id kind bytes) = on_session r id (told_to (server_bytes (server.Raw kind bytes)))
after_act r (act.ToAll kind bytes) = told_all r (server_bytes (server.Msg kind bytes))
after_act r (act.Kick id code) = after_kick r code (session_of r.sessions id)
after_act r act.Lock = (with_seats r (set_locked r.seats true), [])
after_act r act.Unlock = (with_seats r (set_locked r.seats false), [])
after_act r (act.Keep id ms) = on_session r id (keep_set ms)

-- ---- the step

-- the room after an event, and what it gives
abbrev pub room_step : RoomValue → RoomEvent → RoomValue × List RoomOut
room_step r (event.Reserve session lapse) = (after_reserve r session lapse, [])
room_step r (event.Enter session token fresh) = after_enter r session token fresh
room_step r (event.Frame session bytes) = after_frame r session bytes
room_step r (event.Lost session now) = after_loss r session now
room_step r (event.Moment now) = after_moment r now
room_step r (event.Act a) = after_act r a
room_step r event.Tick = after_tick r
