-- Each event of a room keeps its places and its sessions alike.
use Rattle.std.proofs.Common.{◌≡◌, ℕ, zero, suc, ◌+◌, Bool, true, false, cond, List, [], ◌∷◌, map, length, Option, Some, None, Result, Ok, Err, refl, sym, ap, ◌∙◌}
use Rattle.std.specs.Prelude.{nat_lt}
use Rattle.std.specs.Option.{option_map, option_map_or}
use Rattle.std.specs.Str.{bytes_eq}
use Rattle.std.proofs.lemmas.Bool.{and_parts}
use Rattle.state_model.specs.Reached.{times}
use Rattle.state_model.specs.State.{State, swept}
use Rattle.state_model.specs.Commands.{do_command}
use Rattle.state_model.specs.declared.row.RowEntry.{RowEntry}
use Rattle.state_model.specs.Shown.{permitted}
use Rattle.state_model.specs.declared.command.TableFault.{TableFault}
use Rattle.schema_model.specs.Classes.{Schema}
use Rattle.frame_model.specs.Frames.{server_bytes}
use Rattle.frame_model.specs.declared.frame.ServerFrame.TheVariants as server
use Rattle.frame_model.specs.Reading.{read_client}
use Rattle.frame_model.specs.declared.frame.ClientFrame.{ClientFrame}
use Rattle.frame_model.specs.declared.frame.ClientFrame.TheVariants as client
use Rattle.frame_model.specs.declared.fault.FrameFault.{FrameFault}
use Rattle.room_model.specs.declared.definition.RoomDef.{RoomDef}
use Rattle.room_model.specs.declared.event.Act.{Act}
use Rattle.room_model.specs.declared.event.Act.TheVariants as act
use Rattle.room_model.specs.declared.event.RoomEvent.{RoomEvent}
use Rattle.room_model.specs.declared.event.RoomEvent.TheVariants as event
use Rattle.room_model.specs.declared.event.RoomOut.{RoomOut}
use Rattle.room_model.specs.declared.event.RoomOut.TheVariants as out
use Rattle.room_model.specs.declared.event.Stage.{Stage}
use Rattle.room_model.specs.declared.event.Stage.TheVariants.{Reserved, Joining, Due, Live, Kept}
use Rattle.room_model.specs.declared.refusal.Refusal.{Refusal}
use Rattle.room_model.specs.declared.seat.SeatFault.TheVariants as fault
use Rattle.room_model.specs.declared.seat.Seat.{Seat}
use Rattle.room_model.specs.declared.seat.Seat.TheVariants as seat
use Rattle.room_model.specs.Seats.{Seats, seat_of, seated, is_taken_seat, has_reservation}
use Rattle.room_model.specs.Ledger.{has_token, seated_with, take_of, take_seat, retake_of, keep, keep_of, expire}
use Rattle.room_model.specs.Sessions.{Session, Acted, session_of, change_session, is_connected, at_stage, told_to, view_added_to, view_removed_from, keep_set}
use Rattle.room_model.specs.Room.{RoomValue, new_room, room_step, opened_by, after_enter, after_return, where_connected, after_read, acknowledged, acknowledged_at, after_drop, accepted, with_sessions, with_seats, dropped, after_lapse, after_answer, session_after, after_kick, after_act, after_tick, session_swept, ticked_at, ended}
use Rattle.room_laws.specs.Placed.{Placed, standing, RoomsStayPlaced}
use Rattle.room_laws.specs.Places.{may_happen, may_follow, room_after}
use Rattle.room_laws.proofs.AlikeLists.{has_seat}
use Rattle.room_laws.proofs.SessionLists.{named_key}
use Rattle.room_laws.proofs.PlacedSteps.{reserve_placed, seated_placed, ended_placed, mapped_placed, Stays, told_stays, added_stays, removed_stays, keep_stays, acted_placed}

-- ---- an opening

-- a session that has a seat from now on
opened_placed : (r : RoomValue) (session fresh : List ℕ) (told : RoomOut) → Placed r → Placed (opened_by r session fresh told (seated_with r.seats session fresh)).0
opened_placed r session fresh told p =
    let go : (c : Bool) → Placed (opened_by r session fresh told (cond c (Err fault.IdInUse) (Ok (seated r.seats session (seat.Taken fresh))))).0 = elim [
      | true ↦ p
      | false ↦ seated_placed r session (seat.Taken fresh) (at_stage Joining) (λ s. refl) (λ s. refl) p
    ] in go (has_token r.seats fresh)

take_placed : (r : RoomValue) (session fresh : List ℕ) (told : RoomOut) (o : Option Seat) → Placed r → Placed (opened_by r session fresh told (take_of r.seats session fresh o)).0
take_placed r session fresh told (Some (seat.Reserved lapse)) p = opened_placed r session fresh told p
take_placed r session fresh told (Some (seat.Taken token)) p = p
take_placed r session fresh told (Some (seat.Kept token lapse)) p = p
take_placed r session fresh told None p = p

retake_placed : (r : RoomValue) (session token fresh : List ℕ) (told : RoomOut) (o : Option Seat) → Placed r → Placed (opened_by r session fresh told (retake_of r.seats session token fresh o)).0
retake_placed r session token fresh told (Some (seat.Reserved lapse)) p = p
retake_placed r session token fresh told (Some (seat.Taken t)) p = p
retake_placed r session token fresh told (Some (seat.Kept t lapse)) p =
    let go : (b : Bool) → Placed (opened_by r session fresh told (cond b (seated_with r.seats session fresh) (Err fault.WrongToken))).0 = elim [ true ↦ opened_placed r session fresh told p | false ↦ p ] in
    go (bytes_eq t token)
retake_placed r session token fresh told None p = p

return_placed : (r : RoomValue) (session : List ℕ) (token : Option (List ℕ)) (fresh : List ℕ) → Placed r → Placed (after_return r session token fresh).0
return_placed r session None fresh p = p
return_placed r session (Some token) fresh p = retake_placed r session token fresh (out.Back session) (seat_of r.seats session) p

enter_placed : (r : RoomValue) (session : List ℕ) (token : Option (List ℕ)) (fresh : List ℕ) → Placed r → Placed (after_enter r session token fresh).0
enter_placed r session token fresh p =
    let go : (b : Bool) → Placed (cond b (opened_by r session fresh (out.Entered session) (take_seat r.seats session fresh)) (after_return r session token fresh)).0 = elim [
      | true ↦ take_placed r session fresh (out.Entered session) (seat_of r.seats session) p
      | false ↦ return_placed r session token fresh p
    ] in go (has_reservation r.seats session)

-- ---- a frame, and a loss

connected_placed : (r : RoomValue) (o : Option Session) (happens : Session → RoomValue × List RoomOut) → Placed r → ((s : Session) → o ≡ Some s → is_connected s.stage ≡ true → Placed (happens s).0) → Placed (where_connected r o happens).0
connected_placed r None happens p h = p
connected_placed r (Some s) happens p h =
    let go : (b : Bool) → is_connected s.stage ≡ b → Placed (cond b (happens s) (r, [])).0 = elim [ true ↦ λ e. h s refl e | false ↦ λ e. p ] in go (is_connected s.stage) refl

acknowledged_alike : (stage : Stage) (s : Session) → s.stage ≡ stage → (acknowledged_at stage s).id ≡ s.id × standing (acknowledged_at stage s).stage ≡ standing s.stage
acknowledged_alike Joining s e = (refl, sym (ap standing e))
acknowledged_alike Due s e = (refl, refl)
acknowledged_alike Live s e = (refl, refl)
acknowledged_alike Reserved s e = (refl, refl)
acknowledged_alike Kept s e = (refl, refl)

-- a session where one name's is acknowledged
abbrev acknowledged_in : List ℕ → Session → Session
acknowledged_in session s = cond (bytes_eq s.id session) (acknowledged s) s

acknowledged_in_alike : (session : List ℕ) (s : Session) → (acknowledged_in session s).id ≡ s.id × standing (acknowledged_in session s).stage ≡ standing s.stage
acknowledged_in_alike session s =
    let go : (b : Bool) → (let t : Session = cond b (acknowledged s) s in t.id ≡ s.id × standing t.stage ≡ standing s.stage) = elim [
      | true ↦ acknowledged_alike s.stage s refl
      | false ↦ (refl, refl)
    ] in go (bytes_eq s.id session)

pub read_placed : (r : RoomValue) (session : List ℕ) (x : Result ClientFrame FrameFault) → Placed r → Placed (after_read r session x).0
read_placed r session (Ok client.Ack) p =
    mapped_placed r (with_sessions r (change_session session acknowledged r.sessions)) (acknowledged_in session) refl refl (λ s. (acknowledged_in_alike session s).0) (λ s. (acknowledged_in_alike session s).1) p
read_placed r session (Ok client.Leave) p = ended_placed r session p
read_placed r session (Ok (client.Msg kind payload)) p = p
read_placed r session (Ok (client.Raw kind payload)) p = p
read_placed r session (Err f) p = p

-- a session that is connected has a seat to keep
kept_cases : (r : RoomValue) (s : Session) (lapse : ℕ) (o : Option Seat) → Placed r → is_taken_seat o ≡ true
    → Placed (with_seats (with_sessions r (change_session s.id (dropped r.schema) r.sessions)) (accepted r.seats (keep_of r.seats s.id lapse o)))
kept_cases r s lapse None p there = cc
kept_cases r s lapse (Some (seat.Reserved l)) p there = cc
kept_cases r s lapse (Some (seat.Taken token)) p there = seated_placed r s.id (seat.Kept token lapse) (dropped r.schema) (λ s. refl) (λ s. refl) p
kept_cases r s lapse (Some (seat.Kept token l)) p there = cc

drop_placed : (r : RoomValue) (now : ℕ) (s : Session) → Placed r → session_of r.sessions s.id ≡ Some s → is_connected s.stage ≡ true → Placed (after_drop r now s).0
drop_placed r now s p found connected =
    let kept : RoomValue = with_seats (with_sessions r (change_session s.id (dropped r.schema) r.sessions)) (accepted r.seats (keep r.seats s.id (now + s.keep))) in
    let seated : is_taken_seat (seat_of r.seats s.id) ≡ true = has_seat r s.id p ∙ (ap (λ o. stand o) found ∙ connected) in
    let go : (b : Bool) → Placed (let x : RoomValue × List RoomOut = cond b (kept, out.Dropped s.id ∷ []) (ended r s.id, out.Left s.id ∷ []) in x).0 = elim [
      | true ↦ kept_cases r s (now + s.keep) (seat_of r.seats s.id) p seated
      | false ↦ ended_placed r s.id p
    ] in go (nat_lt 0 s.keep)
  where
    stand : Option Session → Bool
    stand o = option_map_or is_connected (option_map (λ (s : Session). s.stage) o) false

-- ---- a moment

lapse_placed : (so_far : RoomValue × List RoomOut) (entry : Option (List ℕ × Seats)) → Placed so_far.0 → Placed (after_lapse so_far entry).0
lapse_placed so_far None p = p
lapse_placed so_far (Some entry) p = ended_placed so_far.0 entry.0 p

moments_placed : (n now : ℕ) (so_far : RoomValue × List RoomOut) → Placed so_far.0 → Placed (times n (λ (x : RoomValue × List RoomOut). after_lapse x (expire x.0.seats now)) so_far).0
moments_placed zero now so_far p = p
moments_placed (suc n) now so_far p = moments_placed n now (after_lapse so_far (expire so_far.0.seats now)) (lapse_placed so_far (expire so_far.0.seats now) p)

-- ---- an act

alike_placed : (r t : RoomValue) → t.seats ≡ r.seats → t.sessions ≡ r.sessions → Placed r → Placed t
alike_placed r t seats sessions p = mapped_placed r t (λ s. s) seats (sessions ∙ sym (map_same r.sessions)) (λ s. refl) (λ s. refl) p
  where
    map_same : (ss : List Session) → map (λ s. s) ss ≡ ss
    map_same [] = refl
    map_same (s ∷ ss) = ap (λ l. s ∷ l) (map_same ss)

answer_placed : (r : RoomValue) (x : Result (State × Option ℕ) TableFault) → Placed r → Placed (after_answer r x).0
answer_placed r (Ok x) p = alike_placed r (after_answer r (Ok x)).0 refl refl p
answer_placed r (Err f) p = p

told_alike : (s : Session) (x : Result Acted Refusal) → Stays s x → (session_after s x).id ≡ s.id × standing (session_after s x).stage ≡ standing s.stage
told_alike s (Err f) h = (refl, refl)
told_alike s (Ok a) h = (h.0, ap standing h.1)

kick_placed : (r : RoomValue) (code : ℕ) (s : Option Session) → Placed r → Placed (after_kick r code s).0
kick_placed r code None p = p
kick_placed r code (Some s) p = ended_placed r s.id p

act_placed : (r : RoomValue) (a : Act) → Placed r → Placed (after_act r a).0
act_placed r (act.State command) p = answer_placed r (do_command r.schema r.state command) p
act_placed r (act.ViewAdd id pair) p = acted_placed r id (view_added_to r.schema r.state.rows pair) (added_stays r.schema r.state.rows pair) p
act_placed r (act.ViewDel id pair) p = acted_placed r id (view_removed_from r.schema r.state.rows pair) (removed_stays r.schema r.state.rows pair) p
act_placed r (act.Send id kind bytes) p = acted_placed r id (told_to (server_bytes (server.Msg kind bytes))) (λ s. told_stays s.stage (server_bytes (server.Msg kind bytes)) s) p
act_placed r (act.Raw id kind bytes) p = acted_placed r id (told_to (server_bytes (server.Raw kind bytes))) (λ s. told_stays s.stage (server_bytes (server.Raw kind bytes)) s) p
act_placed r (act.ToAll kind bytes) p =
    let frame = server_bytes (server.Msg kind bytes) in
    mapped_placed r (after_act r (act.ToAll kind bytes)).0 (λ (s : Session). session_after s (told_to frame s)) refl refl
    (λ s. (told_alike s (told_to frame s) (told_stays s.stage frame s)).0) (λ s. (told_alike s (told_to frame s) (told_stays s.stage frame s)).1) p
act_placed r (act.Kick id code) p = kick_placed r code (session_of r.sessions id) p
act_placed r act.Lock p = record { distinct = p.distinct; alike = p.alike }
act_placed r act.Unlock p = record { distinct = p.distinct; alike = p.alike }
act_placed r (act.Keep id ms) p = acted_placed r id (keep_set ms) (keep_stays ms) p

-- ---- a tick

ticked_alike : (stage : Stage) (rows : List RowEntry) (s : Session) → s.stage ≡ stage → (ticked_at stage rows s).id ≡ s.id × standing (ticked_at stage rows s).stage ≡ standing s.stage
ticked_alike Due rows s e = (refl, sym (ap standing e))
ticked_alike Live rows s e = (refl, sym (ap standing e))
ticked_alike Reserved rows s e = (refl, refl)
ticked_alike Joining rows s e = (refl, refl)
ticked_alike Kept rows s e = (refl, refl)

tick_placed : (r : RoomValue) → Placed r → Placed (after_tick r).0
tick_placed r p =
    let rows = (swept r.state).rows in
    let seen : Session → Session = λ (s : Session). ticked_at s.stage (permitted r.schema rows s.members.now) s in
    let swept_room : RoomValue = with_sessions r (map (session_swept rows) r.sessions) in
    mapped_placed swept_room (after_tick r).0 seen refl refl
    (λ s. (ticked_alike s.stage (permitted r.schema rows s.members.now) s refl).0) (λ s. (ticked_alike s.stage (permitted r.schema rows s.members.now) s refl).1)
    (mapped_placed r swept_room (session_swept rows) refl refl (λ s. refl) (λ s. refl) p)

-- ---- the step

pub step_placed : (r : RoomValue) (e : RoomEvent) → Placed r → may_happen r e ≡ true → Placed (room_step r e).0
step_placed r (event.Reserve session lapse) p h = reserve_placed r session lapse p h
step_placed r (event.Enter session token fresh) p h = enter_placed r session token fresh p
step_placed r (event.Frame session bytes) p h = connected_placed r (session_of r.sessions session) _ p (λ s found connected. read_placed r session (read_client bytes) p)
step_placed r (event.Lost session now) p h =
    connected_placed r (session_of r.sessions session) _ p
    (λ s found connected. drop_placed r now s p (ap (session_of r.sessions) (named_key (λ (s : Session). s.id) session r.sessions s found) ∙ found) connected)
step_placed r (event.Moment now) p h = moments_placed (length r.seats.entries) now (r, []) p
step_placed r (event.Act a) p h = act_placed r a p
step_placed r event.Tick p h = tick_placed r p

-- over a list of events
events_placed : (r : RoomValue) (es : List RoomEvent) → Placed r → may_follow r es ≡ true → Placed (room_after r es)
events_placed r [] p h = p
events_placed r (e ∷ es) p h =
    let parts = and_parts (may_happen r e) (may_follow (room_step r e).0 es) h in
    events_placed (room_step r e).0 es (step_placed r e p parts.0) parts.1

-- a new room
pub new_placed : (schema : Schema) (def : RoomDef) (criteria : List (List ℕ)) → Placed (new_room schema def criteria)
new_placed schema def criteria = record { distinct = tt; alike = refl }

pub rooms_stay_placed : RoomsStayPlaced
rooms_stay_placed schema def criteria events h =
    events_placed (new_room schema def criteria) events (new_placed schema def criteria) h
