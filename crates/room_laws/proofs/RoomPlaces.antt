-- What each event leaves of a room's places.
use Rattle.std.proofs.Common.{◌≡◌, ℕ, zero, suc, ◌+◌, Bool, true, false, not, cond, ◌&&◌, List, [], ◌∷◌, length, Option, Some, None, is_some, Result, Ok, Err, refl, ◌∙◌, zero-le, arith}
use Rattle.std.specs.Prelude.{nat_lt, IfOk}
use Rattle.std.proofs.lemmas.Bool.{and_parts, leb-false, not-true}
use Rattle.std.proofs.lemmas.List.{length-append}
use Rattle.state_model.specs.Reached.{times}
use Rattle.state_model.specs.State.{State}
use Rattle.state_model.specs.Commands.{do_command}
use Rattle.state_model.specs.declared.command.TableFault.{TableFault}
use Rattle.frame_model.specs.Reading.{read_client}
use Rattle.frame_model.specs.declared.frame.ClientFrame.{ClientFrame}
use Rattle.frame_model.specs.declared.frame.ClientFrame.TheVariants as client
use Rattle.frame_model.specs.declared.fault.FrameFault.{FrameFault}
use Rattle.room_model.specs.declared.event.Act.{Act}
use Rattle.room_model.specs.declared.event.Act.TheVariants as act
use Rattle.room_model.specs.declared.event.RoomEvent.{RoomEvent}
use Rattle.room_model.specs.declared.event.RoomEvent.TheVariants as event
use Rattle.room_model.specs.declared.event.RoomOut.{RoomOut}
use Rattle.room_model.specs.declared.event.RoomOut.TheVariants as out
use Rattle.room_model.specs.declared.refusal.Refusal.{Refusal}
use Rattle.room_model.specs.declared.seat.SeatFault.{SeatFault}
use Rattle.room_model.specs.declared.seat.Seat.TheVariants as seat
use Rattle.room_model.specs.declared.seat.SeatFault.TheVariants as fault
use Rattle.room_model.specs.Seats.{Seats, in_use, has_reservation}
use Rattle.room_model.specs.Ledger.{is_full, take_seat, retake, keep, expire}
use Rattle.room_model.specs.Sessions.{Session, Acted, session_of, change_session, is_connected}
use Rattle.room_model.specs.Room.{RoomValue, new_room, with_sessions, with_seats, dropped, room_step, opened_by, after_enter, after_return, where_connected, after_read, after_drop, accepted, after_lapse, after_answer, acted_on, after_kick, after_act, ended}
use Rattle.room_laws.specs.Ledgers.{Within, KeepsMax}
use Rattle.room_laws.specs.Places.{has_place_for, is_moment, may_happen, may_follow, room_after, RoomsKeepPlaces}
use Rattle.room_laws.proofs.LedgerPlaces.{ledgers_keep, left_keeps}

-- a room keeps its places
abbrev pub Keeps : RoomValue → RoomValue × List RoomOut → Type 0
Keeps r x = KeepsMax r.seats x.0.seats

-- one whose places stay as they are does
same : (r : RoomValue) → Within r.seats → KeepsMax r.seats r.seats
same r within = (within, refl)

ends : (r : RoomValue) (session : List ℕ) → Within r.seats → KeepsMax r.seats (ended r session).seats
ends r session within = left_keeps r.seats within session

-- ---- a reservation

reserve_keeps : (r : RoomValue) (session : List ℕ) (lapse : ℕ) → Within r.seats → may_happen r (event.Reserve session lapse) ≡ true → Keeps r (room_step r (event.Reserve session lapse))
reserve_keeps r session lapse within h =
    let place : has_place_for r session ≡ true = (and_parts (is_moment lapse) (has_place_for r session) h).1 in
    let untaken : (not r.seats.locked && not (is_full r.seats)) ≡ true = (and_parts (not r.seats.locked && not (is_full r.seats)) (not (is_some (session_of r.sessions session))) place).0 in
    let parts : (not r.seats.locked ≡ true) × (not (is_full r.seats) ≡ true) = and_parts (not r.seats.locked) (not (is_full r.seats)) untaken in
    let free : is_full r.seats ≡ false = not-true (is_full r.seats) parts.1 in
    let more = length-append r.seats.entries (record { session = session; seat = seat.Reserved lapse } ∷ []) in
    (omega (arith, leb-false r.seats.max (in_use r.seats) free), refl)

-- ---- an opening

opened_keeps : (r : RoomValue) (session fresh : List ℕ) (told : RoomOut) (x : Result Seats SeatFault) → Within r.seats → IfOk x (KeepsMax r.seats) → Keeps r (opened_by r session fresh told x)
opened_keeps r session fresh told (Ok seats) within h = h
opened_keeps r session fresh told (Err fault.IdInUse) within h = same r within
opened_keeps r session fresh told (Err fault.Locked) within h = same r within
opened_keeps r session fresh told (Err fault.Full) within h = same r within
opened_keeps r session fresh told (Err fault.NoSeat) within h = same r within
opened_keeps r session fresh told (Err fault.WrongToken) within h = same r within

return_keeps : (r : RoomValue) (session : List ℕ) (token : Option (List ℕ)) (fresh : List ℕ) → Within r.seats → Keeps r (after_return r session token fresh)
return_keeps r session None fresh within = same r within
return_keeps r session (Some token) fresh within = opened_keeps r session fresh (out.Back session) (retake r.seats session token fresh) within ((ledgers_keep r.seats within).retake session token fresh)

enter_keeps : (r : RoomValue) (session : List ℕ) (token : Option (List ℕ)) (fresh : List ℕ) → Within r.seats → Keeps r (after_enter r session token fresh)
enter_keeps r session token fresh within =
    let go : (b : Bool) → Keeps r (cond b (opened_by r session fresh (out.Entered session) (take_seat r.seats session fresh)) (after_return r session token fresh)) = elim [
      | true ↦ opened_keeps r session fresh (out.Entered session) (take_seat r.seats session fresh) within ((ledgers_keep r.seats within).take_seat session fresh)
      | false ↦ return_keeps r session token fresh within
    ] in go (has_reservation r.seats session)

-- ---- a frame, and a loss

connected_keeps : (r : RoomValue) (s : Option Session) (happens : Session → RoomValue × List RoomOut) → Within r.seats → ((s : Session) → Keeps r (happens s)) → Keeps r (where_connected r s happens)
connected_keeps r None happens within h = same r within
connected_keeps r (Some s) happens within h =
    let go : (b : Bool) → Keeps r (cond b (happens s) (r, [])) = elim [ true ↦ h s | false ↦ same r within ] in go (is_connected s.stage)

read_keeps : (r : RoomValue) (session : List ℕ) (x : Result ClientFrame FrameFault) → Within r.seats → Keeps r (after_read r session x)
read_keeps r session (Ok client.Ack) within = same r within
read_keeps r session (Ok client.Leave) within = ends r session within
read_keeps r session (Ok (client.Msg kind payload)) within = same r within
read_keeps r session (Ok (client.Raw kind payload)) within = same r within
read_keeps r session (Err f) within = same r within

accepted_keeps : (seats : Seats) (x : Result Seats SeatFault) → Within seats → IfOk x (KeepsMax seats) → KeepsMax seats (accepted seats x)
accepted_keeps seats (Ok after) within h = h
accepted_keeps seats (Err f) within h = (within, refl)

drop_keeps : (r : RoomValue) (now : ℕ) (s : Session) → Within r.seats → Keeps r (after_drop r now s)
drop_keeps r now s within =
    let kept : RoomValue = with_seats (with_sessions r (change_session s.id (dropped r.schema) r.sessions)) (accepted r.seats (keep r.seats s.id (now + s.keep))) in
    let go : (b : Bool) → Keeps r (cond b (kept, out.Dropped s.id ∷ []) (ended r s.id, out.Left s.id ∷ [])) = elim [
      | true ↦ accepted_keeps r.seats (keep r.seats s.id (now + s.keep)) within ((ledgers_keep r.seats within).keep s.id (now + s.keep))
      | false ↦ ends r s.id within
    ] in go (nat_lt 0 s.keep)

-- ---- a moment

lapse_keeps : (so_far : RoomValue × List RoomOut) (entry : Option (List ℕ × Seats)) → Within so_far.0.seats → KeepsMax so_far.0.seats (after_lapse so_far entry).0.seats
lapse_keeps so_far None within = same so_far.0 within
lapse_keeps so_far (Some entry) within = ends so_far.0 entry.0 within

-- one lapse after another
abbrev lapsed : ℕ → RoomValue × List RoomOut → RoomValue × List RoomOut
lapsed now so_far = after_lapse so_far (expire so_far.0.seats now)

moments_keep : (n now : ℕ) (so_far : RoomValue × List RoomOut) → Within so_far.0.seats → KeepsMax so_far.0.seats (times n (lapsed now) so_far).0.seats
moments_keep zero now so_far within = same so_far.0 within
moments_keep (suc n) now so_far within =
    let step = lapse_keeps so_far (expire so_far.0.seats now) within in
    let rest = moments_keep n now (lapsed now so_far) step.0 in
    (rest.0, rest.1 ∙ step.1)

-- ---- an act

answer_keeps : (r : RoomValue) (x : Result (State × Option ℕ) TableFault) → Within r.seats → Keeps r (after_answer r x)
answer_keeps r (Ok x) within = same r within
answer_keeps r (Err f) within = same r within

acted_keeps : (r : RoomValue) (id : List ℕ) (x : Option (Result Acted Refusal)) → Within r.seats → Keeps r (acted_on r id x)
acted_keeps r id None within = same r within
acted_keeps r id (Some (Ok a)) within = same r within
acted_keeps r id (Some (Err f)) within = same r within

kick_keeps : (r : RoomValue) (code : ℕ) (s : Option Session) → Within r.seats → Keeps r (after_kick r code s)
kick_keeps r code None within = same r within
kick_keeps r code (Some s) within = ends r s.id within

act_keeps : (r : RoomValue) (a : Act) → Within r.seats → Keeps r (after_act r a)
act_keeps r (act.State command) within = answer_keeps r (do_command r.schema r.state command) within
act_keeps r (act.ViewAdd id p) within = acted_keeps r id _ within
act_keeps r (act.ViewDel id p) within = acted_keeps r id _ within
act_keeps r (act.Send id kind bytes) within = acted_keeps r id _ within
act_keeps r (act.Raw id kind bytes) within = acted_keeps r id _ within
act_keeps r (act.ToAll kind bytes) within = same r within
act_keeps r (act.Kick id code) within = kick_keeps r code (session_of r.sessions id) within
act_keeps r act.Lock within = (within, refl)
act_keeps r act.Unlock within = (within, refl)
act_keeps r (act.Keep id ms) within = acted_keeps r id _ within

-- ---- the step

pub step_keeps : (r : RoomValue) (e : RoomEvent) → Within r.seats → may_happen r e ≡ true → Keeps r (room_step r e)
step_keeps r (event.Reserve session lapse) within h = reserve_keeps r session lapse within h
step_keeps r (event.Enter session token fresh) within h = enter_keeps r session token fresh within
step_keeps r (event.Frame session bytes) within h = connected_keeps r (session_of r.sessions session) _ within (λ s. read_keeps r session (read_client bytes) within)
step_keeps r (event.Lost session now) within h = connected_keeps r (session_of r.sessions session) _ within (λ s. drop_keeps r now s within)
step_keeps r (event.Moment now) within h = moments_keep (length r.seats.entries) now (r, []) within
step_keeps r (event.Act a) within h = act_keeps r a within
step_keeps r event.Tick within h = same r within

-- over a list of events
events_keep : (r : RoomValue) (es : List RoomEvent) → Within r.seats → may_follow r es ≡ true → KeepsMax r.seats (room_after r es).seats
events_keep r [] within h = same r within
events_keep r (e ∷ es) within h =
    let parts = and_parts (may_happen r e) (may_follow (room_step r e).0 es) h in
    let step = step_keeps r e within parts.0 in
    let rest = events_keep (room_step r e).0 es step.0 parts.1 in
    (rest.0, rest.1 ∙ step.1)

pub rooms_keep_places : RoomsKeepPlaces
rooms_keep_places schema def criteria events h =
    (events_keep (new_room schema def criteria) events zero-le h).0
