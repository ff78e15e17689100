-- A hub's step over any step of its rooms: every event, and what it gives. An event deals to each room the events that are the
-- room's own. After Colyseus 0.16.
use Rattle.std.specs.Prelude.{ℕ, ◌+◌, ◌-◌, ◌^◌, Bool, max, min, not, ◌&&◌, List, [], ◌∷◌, ◌++◌, map, filter, Option, Some, None, is_some, Result, Ok, Err, codes, nat_lt, slice_get, if◌then◌else◌, option_and_then}
use Rattle.std.specs.List.{flat_map, find, list_any}
use Rattle.std.specs.Option.{option_map, option_map_or}
use Rattle.std.specs.Str.{bytes_eq}
use Rattle.lists.specs.Rising.{put}
use Rattle.frame_model.specs.declared.codes.TheConstants.{INVALID_PAYLOAD, INVALID_ROOM, NO_HANDLER, PROTOCOL_ERROR, UNHANDLED}
use Rattle.room_model.specs.declared.definition.RoomDef.{RoomDef}
use Rattle.room_model.specs.declared.event.RoomEvent.{RoomEvent}
use Rattle.room_model.specs.declared.event.RoomEvent.TheVariants as event
use Rattle.room_model.specs.declared.refusal.Refusal.TheVariants as refusal
use Rattle.room_model.specs.Seats.{in_use}
use Rattle.room_model.specs.Ledger.{expire, kept_by}
use Rattle.room_model.specs.Room.{new_room}
use Rattle.room_model.specs.Outs.{is_entry}
use Rattle.hub_model.specs.declared.event.HubEvent.{HubEvent}
use Rattle.hub_model.specs.declared.event.HubEvent.TheVariants.{At, Ask, Bad, Opening, Frame, Lost, Act as Acted, Tick}
use Rattle.hub_model.specs.declared.event.HubOut.{HubOut}
use Rattle.hub_model.specs.declared.event.HubOut.TheVariants as out
use Rattle.hub_model.specs.declared.request.AskFault.{AskFault}
use Rattle.hub_model.specs.declared.request.AskFault.TheVariants.{NoMethod, BadPayload, NoHandler, Memory}
use Rattle.hub_model.specs.declared.request.Decision.{Decision}
use Rattle.hub_model.specs.declared.request.Decision.TheVariants as decision
use Rattle.hub_model.specs.declared.request.Opening.{Opening as Opens}
use Rattle.hub_model.specs.declared.request.Request.{Request}
use Rattle.hub_model.specs.Decisions.{decide}
use Rattle.hub_model.specs.Openings.{read_target}
use Rattle.hub_model.specs.Replies.{refusal_reply, seat_reply}
use Rattle.hub_model.specs.declared.conn.HubConn.{HubConn}
use Rattle.hub_model.specs.HubValues.{HubValue, HubRoom, room_of, conn_of, conn_number, is_named, is_used, def_of_room, listings}
use Rattle.hub_model.specs.Dealt.{RoomStep, Dealt, dealt, told_out, opened_out, refused_opening, in_use_text, conns_left}

-- what a hub rests on: the step of its rooms, and what a target and a body ask for
pub record Rules : Type 0 where
  pub step : RoomStep
  pub read : List RoomDef → List ℕ → List ℕ → Result Request AskFault

-- ---- a request

-- a request that is none is refused; reading it lacks no memory
abbrev pub fault_of : AskFault → Decision
fault_of NoMethod = decision.Refuse NO_HANDLER (codes "no method")
fault_of BadPayload = decision.Refuse INVALID_PAYLOAD (codes "invalid payload")
fault_of NoHandler = decision.Refuse NO_HANDLER (codes "no handler")
fault_of Memory = decision.Refuse INVALID_PAYLOAD (codes "invalid payload")

-- the session whose seat is kept under a request's token in the room that it names
abbrev pub kept_session : HubValue → Request → Option (List ℕ)
kept_session h q = option_and_then (λ token. option_and_then (λ (r : HubRoom). kept_by r.room.seats token) (room_of h q.name)) q.token

-- what it leads to, before the drawn ids are looked at
abbrev pub outcome : HubValue → Result Request AskFault → Decision
outcome h (Ok q) = decide h.defs (listings h) q (kept_session h q)
outcome h (Err f) = fault_of f

-- an id that was drawn and is used already is refused
abbrev pub unless_used : HubValue → List ℕ → Decision → Decision
unless_used h id d = if is_used h id then decision.Refuse UNHANDLED (in_use_text id) else d

-- a new room uses both ids, the room's first; a seat in another room uses the session's
abbrev pub drawn : HubValue → List ℕ → List ℕ → Decision → Decision
drawn h room session (decision.Make def) = unless_used h room (unless_used h session (decision.Make def))
drawn h room session (decision.Join at) = unless_used h session (decision.Join at)
drawn h room session d = d

abbrev pub decided : Rules → HubValue → List ℕ → List ℕ → List ℕ → List ℕ → Decision
decided rules h target body room session = drawn h room session (outcome h (rules.read h.defs target body))

abbrev pub criteria_of : Result Request AskFault → List (List ℕ)
criteria_of (Ok q) = q.criteria
criteria_of (Err f) = []

-- the room that is made
abbrev pub room_made : HubValue → List (List ℕ) → List ℕ → ℕ → RoomDef → HubRoom
room_made h criteria room at def = record { id = room; def = at; criteria = criteria; room = new_room h.schema def criteria }

abbrev pub rooms_made : HubValue → List (List ℕ) → List ℕ → Decision → List HubRoom
rooms_made h criteria room (decision.Make at) = option_map_or (λ def. room_made h criteria room at def ∷ []) (slice_get h.defs at) []
rooms_made h criteria room d = []

-- the room in which a seat is reserved
abbrev pub reserved_in : HubValue → List ℕ → Decision → Option (List ℕ)
reserved_in h room (decision.Make at) = Some room
reserved_in h room (decision.Join at) = option_map (λ (r : HubRoom). r.id) (slice_get h.rooms at)
reserved_in h room d = None

-- the room and the session of which a reply tells
abbrev pub answered_in : HubValue → List ℕ → List ℕ → Decision → Option (List ℕ × List ℕ)
answered_in h room session (decision.Return at kept) = option_map (λ (r : HubRoom). (r.id, kept)) (slice_get h.rooms at)
answered_in h room session d = option_map (λ id. (id, session)) (reserved_in h room d)

-- the reply to a request that got a seat in a room
abbrev pub seat_text : HubValue → List ℕ → HubRoom → List ℕ
seat_text h session r = seat_reply (in_use r.room.seats) r.room.seats.max (def_of_room h.defs r).name h.process r.id session

-- the rooms behind the event tell how many places are in use
abbrev pub reply_of : HubValue → List HubRoom → Decision → Option (List ℕ × List ℕ) → List ℕ
reply_of h rooms (decision.Refuse code text) seat = refusal_reply code text
reply_of h rooms d seat = option_map_or (λ (s : List ℕ × List ℕ). option_map_or (seat_text h s.1) (find (is_named s.0) rooms) []) seat []

-- a new room is told by its definition's name
abbrev pub created_out : HubValue → HubRoom → HubOut
created_out h r = out.Created r.id (def_of_room h.defs r).name

-- ---- an opening

-- what a target opens, where it names the process and a room of the hub
abbrev pub opens_in : HubValue → Opens → Option Opens
opens_in h o = if bytes_eq o.process h.process && is_some (room_of h o.room) then Some o else None

abbrev pub opening_of : HubValue → List ℕ → Option Opens
opening_of h target = option_and_then (opens_in h) (read_target target)

-- nothing is opened on a connection that has a session
abbrev pub opened_by : HubValue → ℕ → List ℕ → Option Opens
opened_by h conn target = if is_some (conn_of h conn) then None else opening_of h target

-- why an opening gets no further than the hub
abbrev pub opening_refused : HubValue → ℕ → List ℕ → List HubOut
opening_refused h conn target =
    if is_some (conn_of h conn) then out.Refused refusal.ConnInUse ∷ []
    else if is_some (opening_of h target) then []
    else refused_opening conn INVALID_ROOM (codes "no such room")

-- a room lets the session in
abbrev pub enters : Opens → Dealt → Bool
enters o d = is_named o.room d.room && list_any (is_entry o.session) d.outs

-- the connections with that of the session, where it does
abbrev pub entered_conns : List HubConn → ℕ → List Dealt → Option Opens → List HubConn
entered_conns conns conn ds None = conns
entered_conns conns conn ds (Some o) = if list_any (enters o) ds then put conn_number (record { conn = conn; room = o.room; session = o.session }) conns else conns

-- ---- a moment

-- the last moment, in milliseconds
abbrev pub last_moment : ℕ
last_moment = 2 ^ 53 - 1

-- a moment; one past the last counts as the last, and the hub's never goes back
abbrev pub moment_at : HubValue → ℕ → ℕ
moment_at h now = max h.now (min now last_moment)

abbrev pub moment_behind : HubValue → HubEvent → ℕ
moment_behind h (At now) = moment_at h now
moment_behind h e = h.now

-- something lapses in a room by a moment
abbrev pub lapses_by : ℕ → HubRoom → Bool
lapses_by now r = is_some (expire r.room.seats now)

-- ---- the events that are dealt to a room

abbrev pub event_if : Bool → RoomEvent → List RoomEvent
event_if test e = if test then e ∷ [] else []

-- one that is for the room of an id
abbrev pub event_in : Option (List ℕ) → HubRoom → RoomEvent → List RoomEvent
event_in None r e = []
event_in (Some id) r e = event_if (is_named id r) e

-- one of a connection's session
abbrev pub event_of_conn : HubRoom → (List ℕ → RoomEvent) → Option HubConn → List RoomEvent
event_of_conn r e None = []
event_of_conn r e (Some c) = event_if (is_named c.room r) (e c.session)

abbrev pub event_of_opening : HubRoom → List ℕ → Option Opens → List RoomEvent
event_of_opening r fresh None = []
event_of_opening r fresh (Some o) = event_if (is_named o.room r) (event.Enter o.session o.token fresh)

abbrev pub deals : Rules → HubValue → HubEvent → HubRoom → List RoomEvent
deals rules h (At now) r = event_if (lapses_by (moment_at h now) r) (event.Moment (moment_at h now))
deals rules h (Ask conn target body room session) r =
    event_in (reserved_in h room (decided rules h target body room session)) r (event.Reserve session (h.now + (def_of_room h.defs r).seat))
deals rules h (Bad conn) r = []
deals rules h (Opening conn target fresh) r = event_of_opening r fresh (opened_by h conn target)
deals rules h (Frame conn bytes) r = event_of_conn r (λ session. event.Frame session bytes) (conn_of h conn)
deals rules h (Lost conn) r = event_of_conn r (λ session. event.Lost session h.now) (conn_of h conn)
deals rules h (Acted room act) r = event_if (is_named room r) (event.Act act)
deals rules h (Tick room) r = event_if (is_named room r) event.Tick

-- ---- what an event makes, and what it gives beside what the rooms give

abbrev pub makes : Rules → HubValue → HubEvent → List HubRoom
makes rules h (Ask conn target body room session) = rooms_made h (criteria_of (rules.read h.defs target body)) room (decided rules h target body room session)
makes rules h e = []

-- before it: a room that is made, or why the event goes no further
abbrev pub unknown_conn : HubValue → ℕ → List HubOut
unknown_conn h conn = if is_some (conn_of h conn) then [] else out.Refused refusal.NoConn ∷ []

abbrev pub unknown_room : HubValue → List ℕ → List HubOut
unknown_room h room = if is_some (room_of h room) then [] else out.Refused refusal.NoRoom ∷ []

abbrev pub first_outs : Rules → HubValue → HubEvent → List HubOut
first_outs rules h (At now) = []
first_outs rules h (Ask conn target body room session) = map (created_out h) (makes rules h (Ask conn target body room session))
first_outs rules h (Bad conn) = out.Close conn PROTOCOL_ERROR ∷ []
first_outs rules h (Opening conn target fresh) = opening_refused h conn target
first_outs rules h (Frame conn bytes) = unknown_conn h conn
first_outs rules h (Lost conn) = unknown_conn h conn
first_outs rules h (Acted room act) = unknown_room h room
first_outs rules h (Tick room) = unknown_room h room

-- behind it: the reply to a request
abbrev pub last_outs : Rules → HubValue → HubEvent → List Dealt → List HubOut
last_outs rules h (Ask conn target body room session) ds =
    out.Reply conn (reply_of h (map (λ (d : Dealt). d.room) ds) (decided rules h target body room session) (answered_in h room session (decided rules h target body room session))) ∷ []
last_outs rules h e ds = []

-- the connections with the one that an event opens
abbrev pub conns_with : HubValue → HubEvent → List Dealt → List HubConn
conns_with h (Opening conn target fresh) ds = entered_conns h.conns conn ds (opened_by h conn target)
conns_with h e ds = h.conns

-- what a room gives, by the event
abbrev pub tells : HubEvent → List HubConn → Dealt → List HubOut
tells (Opening conn target fresh) conns d = flat_map (opened_out conn fresh conns d.room.id) d.outs
tells e conns d = flat_map (told_out conns d.room.id) d.outs

-- ---- the step

-- a place of the room is in use; a room without is disposed of
abbrev pub is_needed : HubRoom → Bool
is_needed r = nat_lt 0 (in_use r.room.seats)

abbrev pub disposals : List HubRoom → List HubOut
disposals rooms = map (λ (r : HubRoom). out.Disposed r.id) (filter (λ r. not (is_needed r)) rooms)

-- the rooms, with one that is made, behind the events that are theirs
abbrev pub all_dealt : Rules → HubValue → HubEvent → List Dealt
all_dealt rules h e = map (λ (r : HubRoom). dealt rules.step r (deals rules h e r)) (h.rooms ++ makes rules h e)

-- the hub behind an event and what it gives, by what its rooms made of it
abbrev pub settled : Rules → HubValue → HubEvent → List Dealt → HubValue × List HubOut
settled rules h e ds = (
  record {
    now = moment_behind h e;
    schema = h.schema;
    process = h.process;
    defs = h.defs;
    rooms = filter is_needed (map (λ (d : Dealt). d.room) ds);
    conns = conns_left ds (conns_with h e ds);
  },
  first_outs rules h e ++ (flat_map (tells e (conns_with h e ds)) ds ++ (last_outs rules h e ds ++ disposals (map (λ (d : Dealt). d.room) ds))),
)

abbrev pub hub_step : Rules → HubValue → HubEvent → HubValue × List HubOut
hub_step rules h e = settled rules h e (all_dealt rules h e)

-- ---- a run

-- what a hub gives for events, in order
abbrev pub outs_from : Rules → HubValue → List HubEvent → List HubOut
outs_from rules h [] = []
outs_from rules h (e ∷ es) = (hub_step rules h e).1 ++ outs_from rules (hub_step rules h e).0 es

-- the hub after events
abbrev pub hub_after : Rules → HubValue → List HubEvent → HubValue
hub_after rules h [] = h
hub_after rules h (e ∷ es) = hub_after rules (hub_step rules h e).0 es
