-- An event leaves a room no session but those that it had and the one that it reserves, and a kept seat is a session's.
use Rattle.std.proofs.Common.{◌≡◌, ℕ, zero, suc, ◌+◌, Bool, true, false, cond, List, [], ◌∷◌, map, length, Option, Some, None, is_some, Result, Ok, Err, refl, sym, ap, ◌∙◌, ◌⊎◌, inl, inr}
use Rattle.std.specs.Prelude.{nat_lt}
use Rattle.std.specs.List.{find}
use Rattle.std.specs.Option.{option_map, option_or}
use Rattle.std.specs.Str.{bytes_eq}
use Rattle.lists.proofs.SameBytes.{same_bytes, bytes_eq_self}
use Rattle.state_model.specs.Reached.{times}
use Rattle.state_model.specs.Rows.{root_alone}
use Rattle.state_model.specs.State.{State, swept}
use Rattle.state_model.specs.Commands.{do_command}
use Rattle.state_model.specs.Members.{no_members}
use Rattle.state_model.specs.Shown.{permitted}
use Rattle.state_model.specs.declared.row.RowEntry.{RowEntry}
use Rattle.state_model.specs.declared.command.TableFault.{TableFault}
use Rattle.frame_model.specs.Frames.{server_bytes}
use Rattle.frame_model.specs.Reading.{read_client}
use Rattle.frame_model.specs.declared.frame.ServerFrame.TheVariants as server
use Rattle.frame_model.specs.declared.frame.ClientFrame.{ClientFrame}
use Rattle.frame_model.specs.declared.frame.ClientFrame.TheVariants as client
use Rattle.frame_model.specs.declared.fault.FrameFault.{FrameFault}
use Rattle.room_model.specs.declared.event.Act.{Act}
use Rattle.room_model.specs.declared.event.Act.TheVariants as act
use Rattle.room_model.specs.declared.event.RoomEvent.{RoomEvent}
use Rattle.room_model.specs.declared.event.RoomEvent.TheVariants as event
use Rattle.room_model.specs.declared.event.RoomOut.{RoomOut}
use Rattle.room_model.specs.declared.event.RoomOut.TheVariants as out
use Rattle.room_model.specs.declared.event.Stage.{Stage}
use Rattle.room_model.specs.declared.event.Stage.TheVariants.{Reserved, Joining, Due, Live, Kept}
use Rattle.room_model.specs.declared.refusal.Refusal.{Refusal}
use Rattle.room_model.specs.declared.seat.SeatEntry.{SeatEntry}
use Rattle.room_model.specs.declared.seat.SeatFault.{SeatFault}
use Rattle.room_model.specs.declared.seat.SeatFault.TheVariants as fault
use Rattle.room_model.specs.Seats.{Seats, has_reservation}
use Rattle.room_model.specs.Ledger.{is_kept_by, take_seat, retake, keep, expire}
use Rattle.room_model.specs.Sessions.{Session, Acted, session_of, change_session, sessions_but, is_connected, at_stage, told_to, view_added_to, view_removed_from, keep_set}
use Rattle.room_model.specs.Room.{RoomValue, room_step, after_reserve, opened_by, after_enter, after_return, where_connected, after_read, acknowledged, acknowledged_at, after_drop, accepted, dropped, ended, with_seats, with_sessions, after_lapse, after_answer, session_after, acted_on, after_kick, after_act, after_tick, session_swept, ticked_at}
use Rattle.room_laws.specs.Placed.{Placed}
use Rattle.room_laws.specs.Names.{KeepsNames, AreKeptNamed}
use Rattle.room_laws.proofs.AlikeLists.{Alike, first_alike, rest_alike}
use Rattle.room_laws.proofs.SessionLists.{named_key, named_but, named_more, session_mapped, session_changed}
use Rattle.room_laws.proofs.PlacedSteps.{Stays, told_stays, added_stays, removed_stays, keep_stays}

-- ---- sessions of no new name

-- each session of the first list has the name of one of the second
abbrev Within : List Session → List Session → Type 0
Within ts ss = (id : List ℕ) → is_some (session_of ts id) ≡ true → is_some (session_of ss id) ≡ true

some_mapped : (f : Session → Session) (o : Option Session) → is_some (option_map f o) ≡ true → is_some o ≡ true
some_mapped f None h = h
some_mapped f (Some s) h = refl

-- sessions that are changed, but for their names
mapped_within : (f : Session → Session) (ss : List Session) → ((s : Session) → (f s).id ≡ s.id) → Within (map f ss) ss
mapped_within f ss keeps id h = some_mapped f (session_of ss id) (sym (ap is_some (session_mapped id f ss keeps)) ∙ h)

-- and where that of one name is
changed_within : (id : List ℕ) (change : Session → Session) (ss : List Session) → ((s : Session) → bytes_eq s.id id ≡ true → (change s).id ≡ s.id) → Within (change_session id change ss) ss
changed_within id change ss keeps q h =
    some_mapped (λ (s : Session). cond (bytes_eq s.id id) (change s) s) (session_of ss q) (sym (ap is_some (session_changed id q change ss keeps)) ∙ h)

-- the sessions without one
but_within : (id : List ℕ) (ss : List Session) → Within (sessions_but id ss) ss
but_within id ss q h = by_test (bytes_eq id q) (sym (ap is_some (named_but (λ (s : Session). s.id) id q ss)) ∙ h)
  where
    by_test : (b : Bool) → is_some (cond b None (session_of ss q)) ≡ true → is_some (session_of ss q) ≡ true
    by_test true e = absurd (cc)
    by_test false e = e

-- ---- a reservation

reserve_names : (r : RoomValue) (session : List ℕ) (lapse : ℕ) → KeepsNames r (event.Reserve session lapse) (after_reserve r session lapse)
reserve_names r session lapse id h =
    let mine : Session = record { id = session; stage = Reserved; members = no_members; permitted = root_alone r.schema; queue = []; keep = r.def.keep } in
    let by_test : (b : Bool) → bytes_eq session id ≡ b → is_some (let o : Option Session = cond b (Some mine) None in o) ≡ true
    → (is_some (let o : Option Session = None in o) ≡ true) ⊎ (Some session ≡ Some id) = elim [
      | true ↦ λ e h. inr (ap Some (same_bytes session id e))
      | false ↦ λ e h. absurd (cc)
    ] in
    let by_found : (o : Option Session) → is_some (option_or o (cond (bytes_eq session id) (Some mine) None)) ≡ true
    → (is_some o ≡ true) ⊎ (Some session ≡ Some id) = elim [
      | None ↦ λ h. by_test (bytes_eq session id) refl h
      | Some s ↦ λ h. inl refl
    ] in by_found (session_of r.sessions id) (sym (ap is_some (named_more (λ (s : Session). s.id) id r.sessions mine)) ∙ h)

-- ---- an opening

opened_within : (r : RoomValue) (session fresh : List ℕ) (told : RoomOut) (x : Result Seats SeatFault) → Within (opened_by r session fresh told x).0.sessions r.sessions
opened_within r session fresh told (Ok seats) = changed_within session (at_stage Joining) r.sessions (λ s e. refl)
opened_within r session fresh told (Err fault.Locked) = λ id h. h
opened_within r session fresh told (Err fault.Full) = λ id h. h
opened_within r session fresh told (Err fault.NoSeat) = λ id h. h
opened_within r session fresh told (Err fault.WrongToken) = λ id h. h
opened_within r session fresh told (Err fault.IdInUse) = λ id h. h

return_within : (r : RoomValue) (session : List ℕ) (token : Option (List ℕ)) (fresh : List ℕ) → Within (after_return r session token fresh).0.sessions r.sessions
return_within r session None fresh = λ id h. h
return_within r session (Some token) fresh = opened_within r session fresh (out.Back session) (retake r.seats session token fresh)

enter_within : (r : RoomValue) (session : List ℕ) (token : Option (List ℕ)) (fresh : List ℕ) → Within (after_enter r session token fresh).0.sessions r.sessions
enter_within r session token fresh = by_test (has_reservation r.seats session)
  where
    by_test : (b : Bool) → Within (cond b (opened_by r session fresh (out.Entered session) (take_seat r.seats session fresh)) (after_return r session token fresh)).0.sessions r.sessions
    by_test true = opened_within r session fresh (out.Entered session) (take_seat r.seats session fresh)
    by_test false = return_within r session token fresh

-- ---- a frame, and a loss

connected_within : (r : RoomValue) (o : Option Session) (happens : Session → RoomValue × List RoomOut) → ((s : Session) → Within (happens s).0.sessions r.sessions) → Within (where_connected r o happens).0.sessions r.sessions
connected_within r None happens each = λ id h. h
connected_within r (Some s) happens each = by_test (is_connected s.stage)
  where
    by_test : (b : Bool) → Within (cond b (happens s) (r, [])).0.sessions r.sessions
    by_test true = each s
    by_test false = λ id h. h

pub acknowledged_name : (stage : Stage) (s : Session) → (acknowledged_at stage s).id ≡ s.id
acknowledged_name Reserved s = refl
acknowledged_name Joining s = refl
acknowledged_name Due s = refl
acknowledged_name Live s = refl
acknowledged_name Kept s = refl

read_within : (r : RoomValue) (session : List ℕ) (x : Result ClientFrame FrameFault) → Within (after_read r session x).0.sessions r.sessions
read_within r session (Ok client.Ack) = changed_within session acknowledged r.sessions (λ s e. acknowledged_name s.stage s)
read_within r session (Ok client.Leave) = but_within session r.sessions
read_within r session (Ok (client.Msg kind payload)) = λ id h. h
read_within r session (Ok (client.Raw kind payload)) = λ id h. h
read_within r session (Err f) = λ id h. h

drop_within : (r : RoomValue) (now : ℕ) (s : Session) → Within (after_drop r now s).0.sessions r.sessions
drop_within r now s = by_test (nat_lt 0 s.keep)
  where
    kept : RoomValue
    kept = with_seats (with_sessions r (change_session s.id (dropped r.schema) r.sessions)) (accepted r.seats (keep r.seats s.id (now + s.keep)))

    by_test : (b : Bool) → Within (let x : RoomValue × List RoomOut = cond b (kept, out.Dropped s.id ∷ []) (ended r s.id, out.Left s.id ∷ []) in x).0.sessions r.sessions
    by_test true = changed_within s.id (dropped r.schema) r.sessions (λ s e. refl)
    by_test false = but_within s.id r.sessions

-- ---- a moment

lapse_within : (ss : List Session) (so_far : RoomValue × List RoomOut) (entry : Option (List ℕ × Seats)) → Within so_far.0.sessions ss → Within (after_lapse so_far entry).0.sessions ss
lapse_within ss so_far None w = w
lapse_within ss so_far (Some entry) w = λ id h. w id (but_within entry.0 so_far.0.sessions id h)

moments_within : (ss : List Session) (n now : ℕ) (so_far : RoomValue × List RoomOut) → Within so_far.0.sessions ss
    → Within (times n (λ (x : RoomValue × List RoomOut). after_lapse x (expire x.0.seats now)) so_far).0.sessions ss
moments_within ss zero now so_far w = w
moments_within ss (suc n) now so_far w =
    moments_within ss n now (after_lapse so_far (expire so_far.0.seats now)) (lapse_within ss so_far (expire so_far.0.seats now) w)

-- ---- an act

answer_within : (r : RoomValue) (x : Result (State × Option ℕ) TableFault) → Within (after_answer r x).0.sessions r.sessions
answer_within r (Ok x) = λ id h. h
answer_within r (Err f) = λ id h. h

acted_within : (r : RoomValue) (id : List ℕ) (does : Session → Result Acted Refusal) → ((s : Session) → Stays s (does s)) → Within (acted_on r id (option_map does (session_of r.sessions id))).0.sessions r.sessions
acted_within r id does stays = by_found (session_of r.sessions id) refl
  where
    by_answer : (s : Session) (x : Result Acted Refusal) → session_of r.sessions id ≡ Some s → Stays s x → Within (acted_on r id (Some x)).0.sessions r.sessions
    by_answer s (Err f) found h = λ q there. there
    by_answer s (Ok a) found h =
        changed_within id (λ t. a.session) r.sessions (λ t e. h.0 ∙ (named_key (λ (s : Session). s.id) id r.sessions s found ∙ sym (same_bytes t.id id e)))

    by_found : (o : Option Session) → session_of r.sessions id ≡ o → Within (acted_on r id (option_map does o)).0.sessions r.sessions
    by_found None found = λ q there. there
    by_found (Some s) found = by_answer s (does s) found (stays s)

pub told_name : (s : Session) (x : Result Acted Refusal) → Stays s x → (session_after s x).id ≡ s.id
told_name s (Err f) h = refl
told_name s (Ok a) h = h.0

kick_within : (r : RoomValue) (code : ℕ) (s : Option Session) → Within (after_kick r code s).0.sessions r.sessions
kick_within r code None = λ id h. h
kick_within r code (Some s) = but_within s.id r.sessions

act_within : (r : RoomValue) (a : Act) → Within (after_act r a).0.sessions r.sessions
act_within r (act.State command) = answer_within r (do_command r.schema r.state command)
act_within r (act.ViewAdd id pair) = acted_within r id (view_added_to r.schema r.state.rows pair) (added_stays r.schema r.state.rows pair)
act_within r (act.ViewDel id pair) = acted_within r id (view_removed_from r.schema r.state.rows pair) (removed_stays r.schema r.state.rows pair)
act_within r (act.Send id kind bytes) = acted_within r id (told_to (server_bytes (server.Msg kind bytes))) (λ s. told_stays s.stage (server_bytes (server.Msg kind bytes)) s)
act_within r (act.Raw id kind bytes) = acted_within r id (told_to (server_bytes (server.Raw kind bytes))) (λ s. told_stays s.stage (server_bytes (server.Raw kind bytes)) s)
act_within r (act.ToAll kind bytes) =
    let frame = server_bytes (server.Msg kind bytes) in
    mapped_within (λ (s : Session). session_after s (told_to frame s)) r.sessions (λ s. told_name s (told_to frame s) (told_stays s.stage frame s))
act_within r (act.Kick id code) = kick_within r code (session_of r.sessions id)
act_within r act.Lock = λ id h. h
act_within r act.Unlock = λ id h. h
act_within r (act.Keep id ms) = acted_within r id (keep_set ms) (keep_stays ms)

-- ---- a tick

pub ticked_name : (stage : Stage) (rows : List RowEntry) (s : Session) → (ticked_at stage rows s).id ≡ s.id
ticked_name Reserved rows s = refl
ticked_name Joining rows s = refl
ticked_name Due rows s = refl
ticked_name Live rows s = refl
ticked_name Kept rows s = refl

tick_within : (r : RoomValue) → Within (after_tick r).0.sessions r.sessions
tick_within r id h =
    let rows = (swept r.state).rows in
    let seen : Session → Session = λ (s : Session). ticked_at s.stage (permitted r.schema rows s.members.now) s in
    mapped_within (session_swept rows) r.sessions (λ s. refl) id
    (mapped_within seen (map (session_swept rows) r.sessions) (λ s. ticked_name s.stage (permitted r.schema rows s.members.now) s) id h)

-- ---- the step

pub step_names : (r : RoomValue) (e : RoomEvent) → KeepsNames r e (room_step r e).0
step_names r (event.Reserve session lapse) = reserve_names r session lapse
step_names r (event.Enter session token fresh) = λ id h. inl (enter_within r session token fresh id h)
step_names r (event.Frame session bytes) = λ id h. inl (connected_within r (session_of r.sessions session) _ (λ s. read_within r session (read_client bytes)) id h)
step_names r (event.Lost session now) = λ id h. inl (connected_within r (session_of r.sessions session) _ (λ s. drop_within r now s) id h)
step_names r (event.Moment now) = λ id h. inl (moments_within r.sessions (length r.seats.entries) now (r, []) (λ q there. there) id h)
step_names r (event.Act a) = λ id h. inl (act_within r a id h)
step_names r event.Tick = λ id h. inl (tick_within r id h)

-- ---- kept seats

kept_there : (token id : List ℕ) (es : List SeatEntry) (ss : List Session) → Alike es ss
    → option_map (λ (e : SeatEntry). e.session) (find (λ (e : SeatEntry). is_kept_by token e.seat) es) ≡ Some id → is_some (session_of ss id) ≡ true
kept_there token id [] ss same h = absurd (cc)
kept_there token id (e ∷ es) [] same h = absurd (cc)
kept_there token id (e ∷ es) (s ∷ ss) same h = by_test (is_kept_by token e.seat) h (λ found. kept_there token id es ss (rest_alike e s es ss same) found)
  where
    -- the session that a kept seat is found for
    found_of : Option SeatEntry → Option (List ℕ)
    found_of o = option_map (λ (e : SeatEntry). e.session) o

    kept_in : List SeatEntry → Option SeatEntry
    kept_in es = find (λ (e : SeatEntry). is_kept_by token e.seat) es

    own : e.session ≡ id → is_some (cond (bytes_eq s.id id) (Some s) (session_of ss id)) ≡ true
    own name =
        let names : s.id ≡ id = sym (ap (λ x. x.0) (first_alike e s es ss same)) ∙ name in
        ap (λ b. is_some (cond b (Some s) (session_of ss id))) (ap (λ n. bytes_eq n id) names ∙ bytes_eq_self id)

    behind : (b : Bool) → is_some (session_of ss id) ≡ true → is_some (cond b (Some s) (session_of ss id)) ≡ true
    behind true there = refl
    behind false there = there

    by_test : (b : Bool) → found_of (cond b (Some e) (kept_in es)) ≡ Some id → (found_of (kept_in es) ≡ Some id → is_some (session_of ss id) ≡ true) → is_some (cond (bytes_eq s.id id) (Some s) (session_of ss id)) ≡ true
    by_test true found rest = own (cc)
    by_test false found rest = behind (bytes_eq s.id id) (rest found)

pub kept_named : (r : RoomValue) → Placed r → AreKeptNamed r
kept_named r p token id h = kept_there token id r.seats.entries r.sessions p.alike h
