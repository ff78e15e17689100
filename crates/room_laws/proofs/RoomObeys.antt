-- Each event of a room keeps the laws of steps.
use Rattle.std.proofs.Common.{◌≡◌, ℕ, zero, suc, ◌+◌, Bool, true, false, not, cond, ◌&&◌, ◌||◌, List, [], ◌∷◌, ◌++◌, map, filter, length, Option, Some, None, is_some, Result, Ok, Err, refl, sym, ap, subst, ◌∙◌, ◌≤◌, arith}
use Rattle.std.specs.Prelude.{nat_lt, nat_le, IfOk, IfSome}
use Rattle.std.specs.List.{list_any, list_all, flat_map}
use Rattle.std.specs.Option.{option_map, option_map_or, option_or}
use Rattle.std.proofs.lemmas.Bool.{and_parts, and_from, not-true}
use Rattle.std.specs.Str.{bytes_eq}
use Rattle.lists.proofs.SameBytes.{same_bytes, bytes_eq_self}
use Rattle.lists.proofs.Passing.{all_append}
use Rattle.schema_model.specs.Classes.{Schema}
use Rattle.schema_model.specs.declared.place.Pair.{Pair}
use Rattle.state_model.specs.declared.row.RowEntry.{RowEntry}
use Rattle.state_model.specs.declared.command.TableFault.TheVariants.{NoRef}
use Rattle.state_model.specs.Rows.{is_live, root_alone}
use Rattle.state_model.specs.Members.{Members, no_members, view_added, view_removed, is_view_full}
use Rattle.state_model.specs.Reached.{times}
use Rattle.state_model.specs.State.{State, swept}
use Rattle.state_model.specs.Commands.{do_command}
use Rattle.state_model.specs.Shown.{permitted, shared}
use Rattle.room_model.specs.declared.event.Act.{Act}
use Rattle.room_model.specs.declared.event.Act.TheVariants as act
use Rattle.state_model.specs.declared.command.TableFault.{TableFault}
use Rattle.frame_model.specs.Frames.{server_bytes}
use Rattle.frame_model.specs.declared.frame.ServerFrame.TheVariants as server
use Rattle.frame_model.specs.Reading.{read_client}
use Rattle.frame_model.specs.declared.frame.ClientFrame.{ClientFrame}
use Rattle.frame_model.specs.declared.frame.ClientFrame.TheVariants as client
use Rattle.frame_model.specs.declared.fault.FrameFault.{FrameFault}
use Rattle.room_model.specs.declared.event.RoomEvent.{RoomEvent}
use Rattle.room_model.specs.declared.event.RoomEvent.TheVariants as event
use Rattle.room_model.specs.declared.event.RoomOut.{RoomOut}
use Rattle.room_model.specs.declared.event.RoomOut.TheVariants as out
use Rattle.room_model.specs.declared.event.Stage.{Stage}
use Rattle.room_model.specs.declared.event.Stage.TheVariants.{Reserved, Joining, Due, Live, Kept}
use Rattle.room_model.specs.declared.refusal.Refusal.{Refusal}
use Rattle.room_model.specs.declared.refusal.Refusal.TheVariants as refusal
use Rattle.room_model.specs.declared.seat.SeatFault.TheVariants as fault
use Rattle.room_model.specs.declared.seat.Seat.{Seat}
use Rattle.room_model.specs.declared.seat.Seat.TheVariants as seat
use Rattle.room_model.specs.declared.seat.SeatEntry.{SeatEntry}
use Rattle.room_model.specs.Seats.{Seats, in_use, seat_of, seated, is_reservation, is_taken_seat, is_kept_seat, has_reservation}
use Rattle.room_model.specs.Ledger.{Lapse, has_token, seated_with, take_of, take_seat, retake_of, keep, lapse_of, due_at, due_entries, earlier, first_due, expired, expire}
use Rattle.room_model.specs.Sessions.{Session, Acted, session_of, change_session, is_connected, at_stage, with_queue, with_members, with_keep, queued_for, told_at, told_to, unless_reserved, if_room, view_added_to, view_removed_from, keep_set}
use Rattle.room_model.specs.Room.{RoomValue, new_room, room_step, opened_by, join_frame, after_enter, after_return, where_connected, after_read, after_drop, accepted, dropped, after_answer, acted_on, after_act, after_tick, tick_outs, frames_at, session_swept, outs_after, told_all, after_kick, with_sessions, with_seats, ended, after_lapse, lapse_outs, after_moment}
use Rattle.room_laws.specs.Placed.{Placed, AreDistinct, stands, is_reserved, is_kept, standing, standing_of}
use Rattle.room_laws.specs.Places.{is_connected_in, is_moment, may_happen, room_after}
use Rattle.room_laws.specs.StepLaws.{StepLaws, is_answer, is_entry, is_loss, is_end, goes_to, opens, loses, connected, RoomsObey}
use Rattle.room_laws.proofs.AlikeLists.{Alike, first_alike, rest_alike, has_seat, has_reserved, has_kept}
use Rattle.room_laws.proofs.SessionLists.{named_key, named_more, distinct_mapped}
use Rattle.room_laws.proofs.PlacedSteps.{mapped_stands, taken_room, changed_other, changed_own, there_at, stage_is, stands_by, reserved_alone, kept_alone, ended_placed}
use Rattle.room_laws.proofs.RoomPlaced.{step_placed, read_placed, rooms_stay_placed}
use Rattle.room_laws.proofs.StepFacts.{any_both, laws, quiet_laws, ended_connected, dropped_connected, each_told, each_none, none_counted}

-- ---- tests

or_false : (b : Bool) → (b || false) ≡ b
or_false true = refl
or_false false = refl

or_twice : (b : Bool) → (b || (b || false)) ≡ b
or_twice true = refl
or_twice false = refl

-- where the seats stay as they are, so do the connections
same_connected : (r t : RoomValue) (id : List ℕ) → Placed r → Placed t → is_taken_seat (seat_of t.seats id) ≡ is_taken_seat (seat_of r.seats id) → connected t id ≡ connected r id
same_connected r t id p q same = sym (has_seat t id q) ∙ (same ∙ has_seat r id p)

-- ---- an opening

-- one that is refused
refused_laws : (r : RoomValue) (session : List ℕ) (token : Option (List ℕ)) (fresh : List ℕ) (o : RoomOut) → is_answer o ≡ true → ((id : List ℕ) → (is_entry id o || false) ≡ false)
    → ((id : List ℕ) → (is_end id o || false) ≡ false) → ((id : List ℕ) → (goes_to id o || false) ≡ false)
    → StepLaws r (event.Enter session token fresh) (r, o ∷ [])
refused_laws r session token fresh o answer entry end goes = record {
  answered = ap (λ b. length (cond b (o ∷ []) [])) answer;
  entered = λ id h. absurd (entry_not id h);
  others = λ id h. stays (connected r id) ∙ ap (λ b. connected r id && not b) (sym (end id));
  lost = λ id h. absurd (cc);
  told = λ id h. absurd (goes_not id h);
}
  where
    stays : (b : Bool) → b ≡ (b && not false)
    stays true = refl
    stays false = refl

    entry_not : (id : List ℕ) → (is_entry id o || false) ≡ true → ⊥
    entry_not id h = let no = entry id in cc

    goes_not : (id : List ℕ) → (goes_to id o || false) ≡ true → ⊥
    goes_not id h = let no = goes id in cc

-- one that is accepted
accepted_laws : (r : RoomValue) (session : List ℕ) (token : Option (List ℕ)) (fresh : List ℕ) (seats : Seats) (told : RoomOut) (s : Session) → session_of r.sessions session ≡ Some s → is_connected s.stage ≡ false
    → is_answer told ≡ true → ((id : List ℕ) → is_entry id told ≡ bytes_eq session id) → ((id : List ℕ) → is_end id told ≡ false) → ((id : List ℕ) → goes_to id told ≡ false)
    → StepLaws r (event.Enter session token fresh) (taken_room r session seats, told ∷ out.Send session (join_frame fresh) ∷ [])
accepted_laws r session token fresh seats told s found apart answer entry end goes = record {
  answered = ap (λ b. length (cond b (told ∷ []) [])) answer;
  entered = λ id h. (let same : session ≡ id = same_bytes session id (own id h) in (ap Some same, subst (λ n. connected r n ≡ false) same before, subst (λ n. connected (taken_room r session seats) n ≡ true) same after));
  others = λ id h. ap (λ o. option_map_or is_connected o false) (changed_other session id (at_stage Joining) r.sessions (λ s e. refl) (other id h))
      ∙ (stays (connected r id) ∙ ap (λ b. connected r id && not b) (sym (ap (λ b. b || false) (end id))));
  lost = λ id h. absurd (cc);
  told = λ id h. (let same : bytes_eq session id ≡ true = sym (or_false (bytes_eq session id)) ∙ (sym (ap (λ b. b || (bytes_eq session id || false)) (goes id)) ∙ h) in
      ap (λ b. connected r id || b) (ap (λ b. b || false) (entry id ∙ same)) ∙ any_true (connected r id));
}
  where
    stays : (b : Bool) → b ≡ (b && not false)
    stays true = refl
    stays false = refl

    any_true : (b : Bool) → (b || true) ≡ true
    any_true true = refl
    any_true false = refl

    own : (id : List ℕ) → (is_entry id told || false) ≡ true → bytes_eq session id ≡ true
    own id h = sym (or_false (bytes_eq session id)) ∙ (sym (ap (λ b. b || false) (entry id)) ∙ h)

    other : (id : List ℕ) → (is_entry id told || false) ≡ false → bytes_eq session id ≡ false
    other id h = sym (or_false (bytes_eq session id)) ∙ (sym (ap (λ b. b || false) (entry id)) ∙ h)

    before : connected r session ≡ false
    before = stands_by is_connected r.sessions session s.stage (stage_is r.sessions session s found) ∙ apart

    after : connected (taken_room r session seats) session ≡ true
    after = stands_by is_connected (change_session session (at_stage Joining) r.sessions) session Joining (changed_own session (at_stage Joining) r.sessions s (λ s e. refl) found)

-- a session that has no connection gets a seat, or its fresh token is in use
opened_laws : (r : RoomValue) (session : List ℕ) (token : Option (List ℕ)) (fresh : List ℕ) (told : RoomOut) (s : Session) → session_of r.sessions session ≡ Some s → is_connected s.stage ≡ false
    → is_answer told ≡ true → ((id : List ℕ) → is_entry id told ≡ bytes_eq session id) → ((id : List ℕ) → is_end id told ≡ false) → ((id : List ℕ) → goes_to id told ≡ false)
    → StepLaws r (event.Enter session token fresh) (opened_by r session fresh told (seated_with r.seats session fresh))
opened_laws r session token fresh told s found apart answer entry end goes =
    let go : (c : Bool) → StepLaws r (event.Enter session token fresh) (opened_by r session fresh told (cond c (Err fault.IdInUse) (Ok (seated r.seats session (seat.Taken fresh))))) = elim [
      | true ↦ refused_laws r session token fresh (out.TokenInUse session) refl (λ id. refl) (λ id. refl) (λ id. refl)
      | false ↦ accepted_laws r session token fresh (seated r.seats session (seat.Taken fresh)) told s found apart answer entry end goes
    ] in go (has_token r.seats fresh)

none_laws : (r : RoomValue) (session : List ℕ) (token : Option (List ℕ)) (fresh : List ℕ) → StepLaws r (event.Enter session token fresh) (r, out.NoSeat session ∷ [])
none_laws r session token fresh = refused_laws r session token fresh (out.NoSeat session) refl (λ id. refl) (λ id. refl) (λ id. refl)

take_laws : (r : RoomValue) (session : List ℕ) (token : Option (List ℕ)) (fresh : List ℕ) (o : Option Seat) → Placed r → seat_of r.seats session ≡ o
    → StepLaws r (event.Enter session token fresh) (opened_by r session fresh (out.Entered session) (take_of r.seats session fresh o))
take_laws r session token fresh (Some (seat.Reserved lapse)) p at =
    let found = there_at is_reserved r.sessions session (sym (has_reserved r session p) ∙ ap is_reservation at) in
    opened_laws r session token fresh (out.Entered session) found.0 found.1 (reserved_alone found.0.stage found.2).0 refl (λ id. refl) (λ id. refl) (λ id. refl)
take_laws r session token fresh (Some (seat.Taken t)) p at = none_laws r session token fresh
take_laws r session token fresh (Some (seat.Kept t lapse)) p at = none_laws r session token fresh
take_laws r session token fresh None p at = none_laws r session token fresh

retake_laws : (r : RoomValue) (session token fresh : List ℕ) (o : Option Seat) → Placed r → seat_of r.seats session ≡ o
    → StepLaws r (event.Enter session (Some token) fresh) (opened_by r session fresh (out.Back session) (retake_of r.seats session token fresh o))
retake_laws r session token fresh (Some (seat.Reserved lapse)) p at = none_laws r session (Some token) fresh
retake_laws r session token fresh (Some (seat.Taken t)) p at = none_laws r session (Some token) fresh
retake_laws r session token fresh (Some (seat.Kept t lapse)) p at =
    let found = there_at is_kept r.sessions session (sym (has_kept r session p) ∙ ap is_kept_seat at) in
    let go : (b : Bool) → StepLaws r (event.Enter session (Some token) fresh) (opened_by r session fresh (out.Back session) (cond b (seated_with r.seats session fresh) (Err fault.WrongToken))) = elim [
      | true ↦ opened_laws r session (Some token) fresh (out.Back session) found.0 found.1 (kept_alone found.0.stage found.2).0 refl (λ id. refl) (λ id. refl) (λ id. refl)
      | false ↦ none_laws r session (Some token) fresh
    ] in go (bytes_eq t token)
retake_laws r session token fresh None p at = none_laws r session (Some token) fresh

return_laws : (r : RoomValue) (session : List ℕ) (token : Option (List ℕ)) (fresh : List ℕ) → Placed r → StepLaws r (event.Enter session token fresh) (after_return r session token fresh)
return_laws r session None fresh p = none_laws r session None fresh
return_laws r session (Some token) fresh p = retake_laws r session token fresh (seat_of r.seats session) p refl

pub enter_laws : (r : RoomValue) (session : List ℕ) (token : Option (List ℕ)) (fresh : List ℕ) → Placed r → StepLaws r (event.Enter session token fresh) (after_enter r session token fresh)
enter_laws r session token fresh p =
    let go : (b : Bool) → StepLaws r (event.Enter session token fresh) (let x : RoomValue × List RoomOut = cond b (opened_by r session fresh (out.Entered session) (take_seat r.seats session fresh)) (after_return r session token fresh) in x) = elim [
      | true ↦ take_laws r session token fresh (seat_of r.seats session) p refl
      | false ↦ return_laws r session token fresh p
    ] in go (has_reservation r.seats session)

-- ---- a reservation

-- a session more that isn't connected
more_connected : (ss : List Session) (x : Session) (id : List ℕ) → is_connected x.stage ≡ false → stands is_connected (ss ++ x ∷ []) id ≡ stands is_connected ss id
more_connected ss x id apart =
    let stand : Option Session → Bool = λ o. option_map_or is_connected (option_map (λ (s : Session). s.stage) o) false in
    let go : (o : Option Session) (b : Bool) → stand (option_or o (cond b (Some x) None)) ≡ stand o = elim [
      | Some s ↦ λ b. refl
      | None ↦ elim [ true ↦ apart | false ↦ refl ]
    ] in
    ap stand (named_more (λ (s : Session). s.id) id ss x) ∙ go (session_of ss id) (bytes_eq x.id id)

pub reserved_laws : (r : RoomValue) (session : List ℕ) (lapse : ℕ) → StepLaws r (event.Reserve session lapse) (room_step r (event.Reserve session lapse))
reserved_laws r session lapse =
    let mine : Session = record { id = session; stage = Reserved; members = no_members; permitted = root_alone r.schema; queue = []; keep = r.def.keep } in
    quiet_laws r (event.Reserve session lapse) (room_step r (event.Reserve session lapse)) refl refl (λ id. refl) (λ id. refl) refl
    (λ id. more_connected r.sessions mine id refl) (λ id h. absurd (cc))

-- ---- a frame

-- the session of a connection is connected
its_own : (r : RoomValue) (session id : List ℕ) (s : Session) → session_of r.sessions session ≡ Some s → is_connected s.stage ≡ true → bytes_eq session id ≡ true → connected r id ≡ true
its_own r session id s found is same = subst (λ n. connected r n ≡ true) (same_bytes session id same) (stands_by is_connected r.sessions session s.stage (stage_is r.sessions session s found) ∙ is)

read_laws : (r : RoomValue) (session bytes : List ℕ) (s : Session) (x : Result ClientFrame FrameFault) → Placed r → Placed (after_read r session x).0 → session_of r.sessions session ≡ Some s → is_connected s.stage ≡ true
    → StepLaws r (event.Frame session bytes) (after_read r session x)
read_laws r session bytes s (Ok client.Ack) p q found is =
    quiet_laws r (event.Frame session bytes) (after_read r session (Ok client.Ack)) refl refl (λ id. refl) (λ id. refl) refl (λ id. same_connected r (after_read r session (Ok client.Ack)).0 id p q refl) (λ id h. absurd (cc))
read_laws r session bytes s (Ok client.Leave) p q found is =
    laws r (event.Frame session bytes) (after_read r session (Ok client.Leave)) refl (λ id. refl) refl
    (λ id. ended_connected r session id ∙ ap (λ b. connected r id && not b) (sym (or_twice (bytes_eq session id))))
    (λ id h. its_own r session id s found is (sym (or_false (bytes_eq session id)) ∙ h)) (λ id h. absurd (cc))
read_laws r session bytes s (Ok (client.Msg kind payload)) p q found is =
    quiet_laws r (event.Frame session bytes) (after_read r session (Ok (client.Msg kind payload))) refl refl (λ id. refl) (λ id. refl) refl (λ id. refl) (λ id h. absurd (cc))
read_laws r session bytes s (Ok (client.Raw kind payload)) p q found is =
    quiet_laws r (event.Frame session bytes) (after_read r session (Ok (client.Raw kind payload))) refl refl (λ id. refl) (λ id. refl) refl (λ id. refl) (λ id h. absurd (cc))
read_laws r session bytes s (Err f) p q found is =
    quiet_laws r (event.Frame session bytes) (after_read r session (Err f)) refl refl (λ id. refl) (λ id. refl) refl (λ id. refl)
    (λ id h. its_own r session id s found is (sym (or_false (bytes_eq session id)) ∙ h))

-- what happens to a connected session
connected_laws : (r : RoomValue) (e : RoomEvent) (o : Option Session) (happens : Session → RoomValue × List RoomOut) → option_map_or (λ (s : Session). is_connected s.stage) o false ≡ true →
    ((s : Session) → o ≡ Some s → is_connected s.stage ≡ true → StepLaws r e (happens s)) → StepLaws r e (where_connected r o happens)
connected_laws r e None happens h obeys = cc
connected_laws r e (Some s) happens h obeys = subst (λ b. StepLaws r e (let x : RoomValue × List RoomOut = cond b (happens s) (r, []) in x)) (sym h) (obeys s refl h)

pub frame_laws : (r : RoomValue) (session bytes : List ℕ) → Placed r → may_happen r (event.Frame session bytes) ≡ true → StepLaws r (event.Frame session bytes) (room_step r (event.Frame session bytes))
frame_laws r session bytes p h =
    connected_laws r (event.Frame session bytes) (session_of r.sessions session) (λ s. after_read r session (read_client bytes)) h
    (λ s found is. read_laws r session bytes s (read_client bytes) p (read_placed r session (read_client bytes) p) found is)

-- ---- a loss

drop_laws : (r : RoomValue) (session : List ℕ) (now : ℕ) (s : Session) → session_of r.sessions session ≡ Some s → s.id ≡ session → StepLaws r (event.Lost session now) (after_drop r now s)
drop_laws r session now s found name =
    let go : (b : Bool) → StepLaws r (event.Lost session now) (let x : RoomValue × List RoomOut = cond b (kept, out.Dropped s.id ∷ []) (ended r s.id, out.Left s.id ∷ []) in x) = elim [
      | true ↦ laws r (event.Lost session now) (kept, out.Dropped s.id ∷ []) refl (λ id. refl) refl
          (λ id. dropped_connected r.schema r.sessions s id found_own ∙ ap (λ b. connected r id && not b) (sym (or_false (bytes_eq s.id id)))) (λ id h. absurd (cc)) told
      | false ↦ laws r (event.Lost session now) (ended r s.id, out.Left s.id ∷ []) refl (λ id. refl) refl
          (λ id. ended_connected r s.id id ∙ ap (λ b. connected r id && not b) (sym (or_false (bytes_eq s.id id)))) (λ id h. absurd (cc)) told
    ] in go (nat_lt 0 s.keep)
  where
    kept : RoomValue
    kept = with_seats (with_sessions r (change_session s.id (dropped r.schema) r.sessions)) (accepted r.seats (keep r.seats s.id (now + s.keep)))

    found_own : session_of r.sessions s.id ≡ Some s
    found_own = ap (session_of r.sessions) name ∙ found

    told : (id : List ℕ) → Some session ≡ Some id → (bytes_eq s.id id || false) ≡ true
    told id h = let same : session ≡ id = cc in or_false (bytes_eq s.id id) ∙ (ap (λ n. bytes_eq n id) (name ∙ same) ∙ bytes_eq_self id)

pub loss_laws : (r : RoomValue) (session : List ℕ) (now : ℕ) → may_happen r (event.Lost session now) ≡ true → StepLaws r (event.Lost session now) (room_step r (event.Lost session now))
loss_laws r session now h =
    connected_laws r (event.Lost session now) (session_of r.sessions session) (after_drop r now) (and_parts (is_moment now) (is_connected_in r session) h).1
    (λ s found is. drop_laws r session now s found (named_key (λ (s : Session). s.id) session r.sessions s found))

-- ---- acts

answer_laws : (r : RoomValue) (e : RoomEvent) (x : Result (State × Option ℕ) TableFault) → opens e ≡ None → loses e ≡ None → StepLaws r e (after_answer r x)
answer_laws r e (Err f) opened lost = quiet_laws r e (after_answer r (Err f)) opened lost (λ id. refl) (λ id. refl) refl (λ id. refl) (λ id h. absurd (cc))
answer_laws r e (Ok (state, None)) opened lost = quiet_laws r e (after_answer r (Ok (state, None))) opened lost (λ id. refl) (λ id. refl) refl (λ id. refl) (λ id h. absurd (cc))
answer_laws r e (Ok (state, Some n)) opened lost = quiet_laws r e (after_answer r (Ok (state, Some n))) opened lost (λ id. refl) (λ id. refl) refl (λ id. refl) (λ id h. absurd (cc))

-- outputs of an act on one session: frames to it, where it is connected
pub record OwnOuts (s : Session) (outs : List RoomOut) : Type 0 where
  pub entries : (id : List ℕ) → list_any (is_entry id) outs ≡ false
  pub ends : (id : List ℕ) → list_any (is_end id) outs ≡ false
  pub answers : length (filter is_answer outs) ≡ 0
  pub own : (id : List ℕ) → list_any (goes_to id) outs ≡ true → (bytes_eq s.id id ≡ true) × (is_connected s.stage ≡ true)

nothing_own : (s : Session) → OwnOuts s []
nothing_own s = record { entries = λ id. refl; ends = λ id. refl; answers = refl; own = λ id h. absurd (cc) }

-- what an act gives is such
abbrev Owns : Session → Result Acted Refusal → Type 0
Owns s x = IfOk x (λ a. OwnOuts s a.outs)

queued_owns : (frame : List ℕ) (s : Session) → Owns s (queued_for frame s)
queued_owns frame s =
    let go : (b : Bool) → Owns s (cond b (Ok (record { session = with_queue (s.queue ++ frame ∷ []) s; outs = [] })) (Err refusal.QueueFull)) = elim [ true ↦ nothing_own s | false ↦ tt ] in
    go (nat_lt (length s.queue) 256)

told_owns : (stage : Stage) (frame : List ℕ) (s : Session) → s.stage ≡ stage → Owns s (told_at stage frame s)
told_owns Joining frame s at = queued_owns frame s
told_owns Due frame s at = queued_owns frame s
told_owns Live frame s at = record { entries = λ id. refl; ends = λ id. refl; answers = refl; own = λ id h. (sym (or_false (bytes_eq s.id id)) ∙ h, ap is_connected at) }
told_owns Reserved frame s at = tt
told_owns Kept frame s at = tt

unless_owns : (stage : Stage) (s : Session) (x : Result Acted Refusal) → Owns s x → Owns s (unless_reserved stage x)
unless_owns Reserved s x h = tt
unless_owns Joining s x h = h
unless_owns Due s x h = h
unless_owns Live s x h = h
unless_owns Kept s x h = h

room_owns : (members : Members) (s : Session) → Owns s (if_room members s)
room_owns members s =
    let go : (b : Bool) → Owns s (cond b (Err refusal.ViewFull) (Ok (record { session = with_members members s; outs = [] }))) = elim [ true ↦ tt | false ↦ nothing_own s ] in
    go (is_view_full members)

added_owns : (schema : Schema) (rows : List RowEntry) (p : Pair) (s : Session) → Owns s (view_added_to schema rows p s)
added_owns schema rows p s =
    let go : (b : Bool) → Owns s (cond b (if_room (view_added schema rows p s.members) s) (Err (refusal.Table NoRef))) = elim [ true ↦ room_owns (view_added schema rows p s.members) s | false ↦ tt ] in
    unless_owns s.stage s _ (go (is_live rows p.who))

removed_owns : (schema : Schema) (rows : List RowEntry) (p : Pair) (s : Session) → Owns s (view_removed_from schema rows p s)
removed_owns schema rows p s =
    let go : (b : Bool) → Owns s (cond b (Ok (record { session = with_members (view_removed schema rows p s.members) s; outs = [] })) (Err (refusal.Table NoRef))) = elim [ true ↦ nothing_own s | false ↦ tt ] in
    unless_owns s.stage s _ (go (is_live rows p.who))

keep_owns : (ms : ℕ) (s : Session) → Owns s (keep_set ms s)
keep_owns ms s = unless_owns s.stage s (Ok (record { session = with_keep ms s; outs = [] })) (nothing_own s)

acted_laws : (r : RoomValue) (e : RoomEvent) (id : List ℕ) (does : Session → Result Acted Refusal) → opens e ≡ None → loses e ≡ None → ((s : Session) → Owns s (does s)) → Placed r
    → Placed (acted_on r id (option_map does (session_of r.sessions id))).0
    → StepLaws r e (acted_on r id (option_map does (session_of r.sessions id)))
acted_laws r e id does opened lost owns p q = by_found (session_of r.sessions id) refl q
  where
    refused : (f : Refusal) → StepLaws r e (r, out.Refused f ∷ [])
    refused f = quiet_laws r e (r, out.Refused f ∷ []) opened lost (λ i. refl) (λ i. refl) refl (λ i. refl) (λ i h. absurd (cc))

    by_answer : (s : Session) (x : Result Acted Refusal) → session_of r.sessions id ≡ Some s → Owns s x → Placed (acted_on r id (Some x)).0 → StepLaws r e (acted_on r id (Some x))
    by_answer s (Err f) found h q = refused f
    by_answer s (Ok a) found h q =
        quiet_laws r e (acted_on r id (Some (Ok a))) opened lost h.entries h.ends h.answers (λ i. same_connected r (acted_on r id (Some (Ok a))).0 i p q refl)
        (λ i g. (let own = h.own i g in its_own r s.id i s (ap (session_of r.sessions) (named_key (λ (s : Session). s.id) id r.sessions s found) ∙ found) own.1 own.0))

    by_found : (o : Option Session) → session_of r.sessions id ≡ o → Placed (acted_on r id (option_map does o)).0 → StepLaws r e (acted_on r id (option_map does o))
    by_found None found q = refused refusal.NoSession
    by_found (Some s) found q = by_answer s (does s) found (owns s) q

-- outputs to each session
each_laws : (r t : RoomValue) (e : RoomEvent) (gives : Session → List RoomOut) (ss : List Session) → opens e ≡ None → loses e ≡ None → ((s : Session) → OwnOuts s (gives s))
    → AreDistinct ss → ((id : List ℕ) → stands is_connected ss id ≡ connected r id) →
    ((id : List ℕ) → connected t id ≡ connected r id) → StepLaws r e (t, flat_map gives ss)
each_laws r t e gives ss opened lost owns distinct same stay =
    quiet_laws r e (t, flat_map gives ss) opened lost (λ id. each_none (is_entry id) gives ss (λ s. (owns s).entries id)) (λ id. each_none (is_end id) gives ss (λ s. (owns s).ends id))
    (none_counted is_answer (flat_map gives ss) (each_none is_answer gives ss (λ s. uncounted (gives s) (owns s).answers))) stay
    (λ id h. sym (same id) ∙ each_told id gives ss distinct (λ s g. (owns s).own id g) h)
  where
    uncounted : (outs : List RoomOut) → length (filter is_answer outs) ≡ 0 → list_any is_answer outs ≡ false
    uncounted [] h = refl
    uncounted (o ∷ os) h =
        let go : (b : Bool) → length (cond b (o ∷ filter is_answer os) (filter is_answer os)) ≡ 0 → (b || list_any is_answer os) ≡ false = elim [ true ↦ λ e. absurd (cc) | false ↦ λ e. uncounted os e ] in
        go (is_answer o) h

-- a kick
kick_laws : (r : RoomValue) (e : RoomEvent) (code : ℕ) (id : List ℕ) (o : Option Session) → opens e ≡ None → loses e ≡ None → session_of r.sessions id ≡ o → StepLaws r e (after_kick r code o)
kick_laws r e code id None opened lost found = quiet_laws r e (after_kick r code None) opened lost (λ i. refl) (λ i. refl) refl (λ i. refl) (λ i h. absurd (cc))
kick_laws r e code id (Some s) opened lost found =
    let go : (b : Bool) → is_connected s.stage ≡ b → StepLaws r e (ended r s.id, cond b (out.Close s.id code ∷ out.Left s.id ∷ []) (out.Left s.id ∷ [])) = elim [
      | true ↦ λ is. laws r e (ended r s.id, out.Close s.id code ∷ out.Left s.id ∷ []) opened (λ i. refl) refl
          (λ i. ended_connected r s.id i ∙ ap (λ b. connected r i && not b) (sym (or_twice (bytes_eq s.id i))))
          (λ i h. its_own r s.id i s found_own is (sym (or_false (bytes_eq s.id i)) ∙ h)) nobody
      | false ↦ λ is. laws r e (ended r s.id, out.Left s.id ∷ []) opened (λ i. refl) refl
          (λ i. ended_connected r s.id i ∙ ap (λ b. connected r i && not b) (sym (or_false (bytes_eq s.id i)))) (λ i h. absurd (cc)) nobody_left
    ] in go (is_connected s.stage) refl
  where
    found_own : session_of r.sessions s.id ≡ Some s
    found_own = ap (session_of r.sessions) (named_key (λ (s : Session). s.id) id r.sessions s found) ∙ found

    nobody : (i : List ℕ) → loses e ≡ Some i → list_any (is_loss i) (out.Close s.id code ∷ out.Left s.id ∷ []) ≡ true
    nobody i h = absurd (cc)

    nobody_left : (i : List ℕ) → loses e ≡ Some i → list_any (is_loss i) (out.Left s.id ∷ []) ≡ true
    nobody_left i h = absurd (cc)

after_owns : (s : Session) (x : Result Acted Refusal) → Owns s x → OwnOuts s (outs_after x)
after_owns s (Ok a) h = h
after_owns s (Err f) h = nothing_own s

all_laws : (r : RoomValue) (e : RoomEvent) (frame : List ℕ) → opens e ≡ None → loses e ≡ None → Placed r → Placed (told_all r frame).0 → StepLaws r e (told_all r frame)
all_laws r e frame opened lost p q =
    each_laws r (told_all r frame).0 e (λ (s : Session). outs_after (told_to frame s)) r.sessions opened lost (λ s. after_owns s (told_to frame s) (told_owns s.stage frame s refl)) p.distinct (λ id. refl)
    (λ id. same_connected r (told_all r frame).0 id p q refl)

lock_laws : (r t : RoomValue) (e : RoomEvent) → opens e ≡ None → loses e ≡ None → t.sessions ≡ r.sessions → StepLaws r e (t, [])
lock_laws r t e opened lost same = quiet_laws r e (t, []) opened lost (λ i. refl) (λ i. refl) refl (λ i. ap (λ ss. stands is_connected ss i) same) (λ i h. absurd (cc))

act_laws : (r : RoomValue) (a : Act) → Placed r → Placed (after_act r a).0 → StepLaws r (event.Act a) (after_act r a)
act_laws r (act.State command) p q = answer_laws r (event.Act (act.State command)) (do_command r.schema r.state command) refl refl
act_laws r (act.ViewAdd id pair) p q = acted_laws r (event.Act (act.ViewAdd id pair)) id (view_added_to r.schema r.state.rows pair) refl refl (added_owns r.schema r.state.rows pair) p q
act_laws r (act.ViewDel id pair) p q = acted_laws r (event.Act (act.ViewDel id pair)) id (view_removed_from r.schema r.state.rows pair) refl refl (removed_owns r.schema r.state.rows pair) p q
act_laws r (act.Send id kind bytes) p q = acted_laws r (event.Act (act.Send id kind bytes)) id (told_to (server_bytes (server.Msg kind bytes))) refl refl (λ s. told_owns s.stage (server_bytes (server.Msg kind bytes)) s refl) p q
act_laws r (act.Raw id kind bytes) p q = acted_laws r (event.Act (act.Raw id kind bytes)) id (told_to (server_bytes (server.Raw kind bytes))) refl refl (λ s. told_owns s.stage (server_bytes (server.Raw kind bytes)) s refl) p q
act_laws r (act.ToAll kind bytes) p q = all_laws r (event.Act (act.ToAll kind bytes)) (server_bytes (server.Msg kind bytes)) refl refl p q
act_laws r (act.Kick id code) p q = kick_laws r (event.Act (act.Kick id code)) code id (session_of r.sessions id) refl refl refl
act_laws r act.Lock p q = lock_laws r (after_act r act.Lock).0 (event.Act act.Lock) refl refl refl
act_laws r act.Unlock p q = lock_laws r (after_act r act.Unlock).0 (event.Act act.Unlock) refl refl refl
act_laws r (act.Keep id ms) p q = acted_laws r (event.Act (act.Keep id ms)) id (keep_set ms) refl refl (keep_owns ms) p q

-- ---- a tick

sends_own : (s : Session) (frames : List (List ℕ)) → is_connected s.stage ≡ true → OwnOuts s (map (out.Send s.id) frames)
sends_own s [] is = nothing_own s
sends_own s (f ∷ fs) is =
    let rest = sends_own s fs is in
    record { entries = rest.entries; ends = rest.ends; answers = rest.answers; own = λ id h. by_first id (bytes_eq s.id id) refl (λ g. (rest.own id g).0) h }
  where
    by_first : (id : List ℕ) (b : Bool) → bytes_eq s.id id ≡ b → (list_any (goes_to id) (map (out.Send s.id) fs) ≡ true → bytes_eq s.id id ≡ true) → (b || list_any (goes_to id) (map (out.Send s.id) fs)) ≡ true
        → (bytes_eq s.id id ≡ true) × (is_connected s.stage ≡ true)
    by_first id true e rest h = (e, is)
    by_first id false e rest h = (rest h, is)

tick_owns : (schema : Schema) (shared0 rows : List RowEntry) (stage : Stage) (s : Session) → s.stage ≡ stage → OwnOuts s (map (out.Send s.id) (frames_at stage schema shared0 (shared schema rows) (permitted schema rows s.members.now) s))
tick_owns schema shared0 rows Due s at = sends_own s (frames_at Due schema shared0 (shared schema rows) (permitted schema rows s.members.now) s) (ap is_connected at)
tick_owns schema shared0 rows Live s at = sends_own s (frames_at Live schema shared0 (shared schema rows) (permitted schema rows s.members.now) s) (ap is_connected at)
tick_owns schema shared0 rows Reserved s at = nothing_own s
tick_owns schema shared0 rows Joining s at = nothing_own s
tick_owns schema shared0 rows Kept s at = nothing_own s

pub tick_laws : (r : RoomValue) → Placed r → Placed (after_tick r).0 → StepLaws r event.Tick (after_tick r)
tick_laws r p q =
    let rows = (swept r.state).rows in
    each_laws r (after_tick r).0 event.Tick (tick_outs r.schema r.shared rows) (map (session_swept rows) r.sessions) refl refl (λ s. tick_owns r.schema r.shared rows s.stage s refl)
    (distinct_mapped (session_swept rows) r.sessions (λ s. refl) p.distinct) (λ id. mapped_stands is_connected (session_swept rows) r.sessions id (λ s. refl) (λ s. refl))
    (λ id. same_connected r (after_tick r).0 id p q refl)

-- ---- a moment

-- a session is there, and has no connection
abbrev is_apart : Stage → Bool
is_apart st = not (is_connected st)

abbrev waits : List Session → Lapse → Bool
waits ss a = stands is_apart ss a.session

-- so it is behind a session of another name
waits_behind : (s : Session) (ss : List Session) (ls : List Lapse) → session_of ss s.id ≡ None → list_all (waits ss) ls ≡ true → list_all (waits (s ∷ ss)) ls ≡ true
waits_behind s ss [] none h = refl
waits_behind s ss (a ∷ ls) none h =
    let parts = and_parts (waits ss a) (list_all (waits ss) ls) h in
    let stand : Option Session → Bool = λ o. option_map_or is_apart (option_map (λ (s : Session). s.stage) o) false in
    let go : (b : Bool) → bytes_eq s.id a.session ≡ b → stand (cond b (Some s) (session_of ss a.session)) ≡ true = elim [
      | true ↦ λ e. (let gone : session_of ss a.session ≡ None = subst (λ n. session_of ss n ≡ None) (same_bytes s.id a.session e) none in let no = sym (ap stand gone) ∙ parts.0 in cc)
      | false ↦ λ e. parts.0
    ] in and_from (waits (s ∷ ss) a) (list_all (waits (s ∷ ss)) ls) (go (bytes_eq s.id a.session) refl) (waits_behind s ss ls none parts.1)

-- a seat that lapses is of a session that has no connection
lapse_apart : (x : Seat) (st : Stage) → standing_of x ≡ standing st → is_some (lapse_of x) ≡ true → is_apart st ≡ true
lapse_apart (seat.Taken token) st same h = cc
lapse_apart x Reserved same h = refl
lapse_apart x Kept same h = refl
lapse_apart (seat.Reserved lapse) Joining same h = cc
lapse_apart (seat.Reserved lapse) Due same h = cc
lapse_apart (seat.Reserved lapse) Live same h = cc
lapse_apart (seat.Kept token lapse) Joining same h = cc
lapse_apart (seat.Kept token lapse) Due same h = cc
lapse_apart (seat.Kept token lapse) Live same h = cc

-- all that is due waits
all_wait : (now : ℕ) (es : List SeatEntry) (ss : List Session) → Alike es ss → AreDistinct ss → list_all (waits ss) (flat_map (λ (e : SeatEntry). due_at now e.session (lapse_of e.seat)) es) ≡ true
all_wait now [] ss h d = refl
all_wait now (e ∷ es) [] h d = cc
all_wait now (e ∷ es) (s ∷ ss) h d =
    let both = first_alike e s es ss h in
    let name : e.session ≡ s.id = ap (λ x. x.0) both in
    let at : standing_of e.seat ≡ standing s.stage = ap (λ x. x.1) both in
    let rest = rest_alike e s es ss h in
    all_append (waits (s ∷ ss)) (due_at now e.session (lapse_of e.seat)) (flat_map (λ (e : SeatEntry). due_at now e.session (lapse_of e.seat)) es)
    (first name at (lapse_of e.seat) refl) (waits_behind s ss (flat_map (λ (e : SeatEntry). due_at now e.session (lapse_of e.seat)) es) d.0 (all_wait now es ss rest d.1))
  where
    first : e.session ≡ s.id → standing_of e.seat ≡ standing s.stage → (o : Option ℕ) → lapse_of e.seat ≡ o → list_all (waits (s ∷ ss)) (due_at now e.session o) ≡ true
    first name at None is = refl
    first name at (Some moment) is =
        let own : bytes_eq s.id e.session ≡ true = ap (bytes_eq s.id) name ∙ bytes_eq_self s.id in
        let stand : Option Session → Bool = λ o. option_map_or is_apart (option_map (λ (s : Session). s.stage) o) false in
        let here : waits (s ∷ ss) (record { session = e.session; at = moment }) ≡ true =
        ap (λ b. stand (cond b (Some s) (session_of ss e.session))) own ∙ lapse_apart e.seat s.stage at (ap is_some is) in
        let go : (b : Bool) → list_all (waits (s ∷ ss)) (cond b (record { session = e.session; at = moment } ∷ []) []) ≡ true = elim [ true ↦ ap (λ b. b && true) here | false ↦ refl ] in
        go (nat_le moment now)

first_waits : (ss : List Session) (ls : List Lapse) → list_all (waits ss) ls ≡ true → IfSome (first_due ls) (λ a. waits ss a ≡ true)
first_waits ss [] h = tt
first_waits ss (a ∷ others) h =
    let parts = and_parts (waits ss a) (list_all (waits ss) others) h in
    by_rest (first_due others) (first_waits ss others parts.1) parts.0
  where
    by_rest : (o : Option Lapse) → IfSome o (λ a. waits ss a ≡ true) → waits ss a ≡ true → waits ss (earlier a o) ≡ true
    by_rest None rest own = own
    by_rest (Some b) rest own =
        let go : (c : Bool) → waits ss (cond c b a) ≡ true = elim [ true ↦ rest | false ↦ own ] in go (nat_lt b.at a.at)

-- the session of such an entry isn't connected
waits_apart : (r : RoomValue) (session : List ℕ) → stands is_apart r.sessions session ≡ true → connected r session ≡ false
waits_apart r session h =
    let found = there_at is_apart r.sessions session h in
    stands_by is_connected r.sessions session found.0.stage (stage_is r.sessions session found.0 found.1) ∙ not-true (is_connected found.0.stage) found.2

expired_apart : (r : RoomValue) (now : ℕ) → Placed r → IfSome (expire r.seats now) (λ e. connected r e.0 ≡ false)
expired_apart r now p = by_first (first_due (due_entries r.seats now)) (first_waits r.sessions (due_entries r.seats now) (all_wait now r.seats.entries r.sessions p.alike p.distinct))
  where
    by_first : (o : Option Lapse) → IfSome o (λ a. waits r.sessions a ≡ true) → IfSome (expired r.seats o) (λ e. connected r e.0 ≡ false)
    by_first None h = tt
    by_first (Some a) h = waits_apart r a.session h

-- what lapsed so far: no connection changed, and only sessions without one left
record Lapsed (r : RoomValue) (x : RoomValue × List RoomOut) : Type 0 where
  placed : Placed x.0
  same : (id : List ℕ) → connected x.0 id ≡ connected r id
  entries : (id : List ℕ) → list_any (is_entry id) x.1 ≡ false
  answers : list_any is_answer x.1 ≡ false
  goes : (id : List ℕ) → list_any (goes_to id) x.1 ≡ false
  ends : (id : List ℕ) → list_any (is_end id) x.1 ≡ true → connected r id ≡ false

-- what isn't there before nor behind isn't there
none_of : {X : Type 0} (p : X → Bool) (xs ys : List X) → list_any p xs ≡ false → list_any p ys ≡ false → list_any p (xs ++ ys) ≡ false
none_of p xs ys a b = any_both p xs ys ∙ (ap (λ c. c || list_any p ys) a ∙ b)

-- of a lapse nothing is told but that a session left
lapse_tells : (p : RoomOut → Bool) (seats : Seats) (session : List ℕ) → p (out.Left session) ≡ false → list_any p (lapse_outs seats session) ≡ false
lapse_tells p seats session h =
    let go : (b : Bool) → list_any p (cond b (out.Left session ∷ []) []) ≡ false = elim [ true ↦ ap (λ b. b || false) h | false ↦ refl ] in
    go (is_kept_seat (seat_of seats session))

lapse_ends : (seats : Seats) (session id : List ℕ) → list_any (is_end id) (lapse_outs seats session) ≡ true → bytes_eq session id ≡ true
lapse_ends seats session id h =
    let go : (b : Bool) → list_any (is_end id) (cond b (out.Left session ∷ []) []) ≡ true → bytes_eq session id ≡ true = elim [ true ↦ λ e. sym (or_false (bytes_eq session id)) ∙ e | false ↦ λ e. absurd (cc) ] in
    go (is_kept_seat (seat_of seats session)) h

-- what isn't there can be told to end
still : (c b : Bool) → (b ≡ true → c ≡ false) → c ≡ (c && not b)
still true true h = let no = h refl in cc
still true false h = refl
still false b h = refl

lapsed_once : (r : RoomValue) (x : RoomValue × List RoomOut) (o : Option (List ℕ × Seats)) → Lapsed r x → IfSome o (λ e. connected x.0 e.0 ≡ false) → Lapsed r (after_lapse x o)
lapsed_once r x None l h = l
lapsed_once r x (Some e) l h = record {
  placed = ended_placed x.0 e.0 l.placed;
  same = λ id. ended_connected x.0 e.0 id ∙ (sym (still (connected x.0 id) (bytes_eq e.0 id) (λ b. subst (λ n. connected x.0 n ≡ false) (same_bytes e.0 id b) h)) ∙ l.same id);
  entries = λ id. none_of (is_entry id) x.1 (lapse_outs x.0.seats e.0) (l.entries id) (lapse_tells (is_entry id) x.0.seats e.0 refl);
  answers = none_of is_answer x.1 (lapse_outs x.0.seats e.0) l.answers (lapse_tells is_answer x.0.seats e.0 refl);
  goes = λ id. none_of (goes_to id) x.1 (lapse_outs x.0.seats e.0) (l.goes id) (lapse_tells (goes_to id) x.0.seats e.0 refl);
  ends = λ id g. by_part id (list_any (is_end id) x.1) refl (sym (any_both (is_end id) x.1 (lapse_outs x.0.seats e.0)) ∙ g);
}
  where
    by_part : (id : List ℕ) (b : Bool) → list_any (is_end id) x.1 ≡ b → (b || list_any (is_end id) (lapse_outs x.0.seats e.0)) ≡ true → connected r id ≡ false
    by_part id true before g = l.ends id before
    by_part id false before g = sym (l.same id) ∙ subst (λ n. connected x.0 n ≡ false) (same_bytes e.0 id (lapse_ends x.0.seats e.0 id g)) h

lapsed_often : (r : RoomValue) (n now : ℕ) (x : RoomValue × List RoomOut) → Lapsed r x → Lapsed r (times n (λ (x : RoomValue × List RoomOut). after_lapse x (expire x.0.seats now)) x)
lapsed_often r zero now x l = l
lapsed_often r (suc n) now x l = lapsed_often r n now (after_lapse x (expire x.0.seats now)) (lapsed_once r x (expire x.0.seats now) l (expired_apart x.0 now l.placed))

moment_laws : (r : RoomValue) (now : ℕ) → Placed r → StepLaws r (event.Moment now) (after_moment r now)
moment_laws r now p =
    let l = lapsed_often r (length r.seats.entries) now (r, [])
    (record { placed = p; same = λ id. refl; entries = λ id. refl; answers = refl; goes = λ id. refl; ends = λ id h. absurd (cc) }) in
    let x : RoomValue × List RoomOut = after_moment r now in
    laws r (event.Moment now) x refl l.entries (none_counted is_answer x.1 l.answers)
    (λ id. l.same id ∙ still (connected r id) (list_any (is_end id) x.1) (l.ends id)) (λ id h. absurd (never (l.goes id) h)) (λ id h. absurd (cc))
  where
    never : {b : Bool} → b ≡ false → b ≡ true → ⊥
    never a b = let no = sym a ∙ b in cc

-- ---- the step

pub step_obeys : (r : RoomValue) (e : RoomEvent) → Placed r → may_happen r e ≡ true → StepLaws r e (room_step r e)
step_obeys r (event.Reserve session lapse) p h = reserved_laws r session lapse
step_obeys r (event.Enter session token fresh) p h = enter_laws r session token fresh p
step_obeys r (event.Frame session bytes) p h = frame_laws r session bytes p h
step_obeys r (event.Lost session now) p h = loss_laws r session now h
step_obeys r (event.Moment now) p h = moment_laws r now p
step_obeys r (event.Act a) p h = act_laws r a p (step_placed r (event.Act a) p h)
step_obeys r event.Tick p h = tick_laws r p (step_placed r event.Tick p h)

-- a connected session has a place
pub place_taken : (r : RoomValue) (id : List ℕ) → Placed r → connected r id ≡ true → 1 ≤ in_use r.seats
place_taken r id p h = by_entries r.seats.entries r.sessions p.alike h
  where
    by_entries : (es : List SeatEntry) (ss : List Session) → Alike es ss → stands is_connected ss id ≡ true → 1 ≤ length es
    by_entries [] [] alike e = cc
    by_entries [] (s ∷ ss) alike e = cc
    by_entries (x ∷ es) ss alike e = omega arith

pub rooms_obey : RoomsObey
rooms_obey schema def criteria events h =
    let p = rooms_stay_placed schema def criteria events h in
    record { steps = λ e may. step_obeys (room_after (new_room schema def criteria) events) e p may; places = λ id c. place_taken (room_after (new_room schema def criteria) events) id p c }
