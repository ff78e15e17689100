-- What a room gives for an event has a line, and behind the event it keeps what that rests on.
use Rattle.std.proofs.Common.{◌≡◌, ℕ, Bool, true, false, cond, ◌&&◌, List, [], ◌∷◌, map, All, Option, Some, None, Result, Ok, Err, refl, ap, ap₂, ◌∙◌, arith, lt-ltb}
use Rattle.std.specs.Prelude.{IfOk}
use Rattle.std.specs.List.{list_all}
use Rattle.std.specs.Option.{option_map}
use Rattle.std.proofs.lemmas.Bool.{and_parts, and_from}
use Rattle.std.proofs.lemmas.List.Elements.{All-cons, All-append, All-nil, All-map, All-weaker}
use Rattle.std.proofs.lemmas.List.Folds.{list_all-map}
use Rattle.lists.proofs.Passing.{all_append}
use Rattle.schema_model.specs.Classes.{Schema, is_kept}
use Rattle.schema_model.specs.Ids.{is_id}
use Rattle.state_model.specs.declared.row.RowEntry.{RowEntry}
use Rattle.state_model.specs.declared.command.Command.{Command}
use Rattle.state_model.specs.declared.command.TableFault.{TableFault}
use Rattle.state_model.specs.Commands.{do_command}
use Rattle.state_model.specs.Members.{no_members, ticked}
use Rattle.state_model.specs.Rows.{root_alone}
use Rattle.state_model.specs.Shown.{permitted, shared}
use Rattle.state_model.specs.State.{State, new_state, swept}
use Rattle.state_model.specs.Worded.{is_worded_command}
use Rattle.wire_model.specs.Frame.{full_state, has_operation, state_frame}
use Rattle.frame_model.specs.Frames.{server_bytes}
use Rattle.frame_model.specs.Reading.{read_client}
use Rattle.frame_model.specs.declared.fault.FrameFault.{FrameFault}
use Rattle.frame_model.specs.declared.frame.ClientFrame.{ClientFrame}
use Rattle.frame_model.specs.declared.frame.ClientFrame.TheVariants as client
use Rattle.frame_model.specs.declared.frame.ServerFrame.TheVariants as server
use Rattle.room_model.specs.declared.definition.RoomDef.{RoomDef}
use Rattle.room_model.specs.declared.event.Act.{Act}
use Rattle.room_model.specs.declared.event.Act.TheVariants as act
use Rattle.room_model.specs.declared.event.RoomEvent.{RoomEvent}
use Rattle.room_model.specs.declared.event.RoomEvent.TheVariants as event
use Rattle.room_model.specs.declared.event.RoomOut.{RoomOut}
use Rattle.room_model.specs.declared.event.RoomOut.TheVariants as out
use Rattle.room_model.specs.declared.event.Stage.{Stage}
use Rattle.room_model.specs.declared.event.Stage.TheVariants.{Reserved, Joining, Due, Live, Kept}
use Rattle.room_model.specs.declared.refusal.Refusal.{Refusal}
use Rattle.room_model.specs.declared.refusal.Refusal.TheVariants as refusal
use Rattle.room_model.specs.declared.seat.Seat.{Seat}
use Rattle.room_model.specs.declared.seat.Seat.TheVariants as seat
use Rattle.room_model.specs.declared.seat.SeatEntry.{SeatEntry}
use Rattle.room_model.specs.Room.{RoomValue, new_room, after_act, after_answer, after_enter, after_frame, after_kick, after_loss, after_moment, after_read, after_reserve, after_tick, acknowledged, acted_on, frames_at, lapse_outs, live_session, on_session, opened_by, outs_after, room_step, session_after, session_swept, tick_outs, ticked_at, told_all, join_frame}
use Rattle.room_model.specs.Seats.{Seats, is_kept_seat, seat_of, seated}
use Rattle.room_model.specs.Sessions.{Session, Acted, at_stage, is_connected, keep_set, session_of, told_to, view_added_to, view_removed_from}
use Rattle.life_model.specs.Lives.{is_live_stage}
use Rattle.room_promises.proofs.EventCases.{enter_cases, loss_cases, moment_cases, where_cases}
use Rattle.room_promises.proofs.RoomSteps.{GoodRoom, is_tick}
use Rattle.text_model.specs.Acts.{is_act, is_kick_code, is_kind}
use Rattle.text_model.specs.WordForms.{are_bytes}
use Rattle.text_model.proofs.WordLaws.{code_low}
use Rattle.print_laws.proofs.Bytes.{byte_before}
use Rattle.print_laws.proofs.Commands.{number_fits, refusal_told}
use Rattle.print_laws.proofs.EventsCome.{worded_command}
use Rattle.print_laws.proofs.Read.{client_is, is_told_frame}
use Rattle.print_laws.proofs.Sessions.{Answers, Neat, Plain, acknowledged_plain, added_answers, are_seats, changed_plain, dropped_plain, each_fits, each_plain, ended_neat, fits_out, join_small, joining_plain, keep_answers, keep_fits, message_answers, message_small, outs_told, raw_small, removed_answers, seat_named, seated_fits, session_named, session_plain, session_told}
use Rattle.print_laws.proofs.StateBytes.{TickIsBytes, tick_bytes}

-- an event that has a line where it is a hub's
abbrev pub is_told_event : RoomEvent → Bool
is_told_event (event.Reserve session lapse) = is_id session
is_told_event (event.Enter session token fresh) = is_id fresh
is_told_event (event.Frame session bytes) = are_bytes bytes
is_told_event (event.Lost session now) = true
is_told_event (event.Moment now) = true
is_told_event (event.Act a) = is_act a
is_told_event event.Tick = true

-- a room behind an event, and what it gave
pub record After (last : State) (x : RoomValue × List RoomOut) : Type 0 where
  pub neat : Neat last x.0
  pub outs : list_all fits_out x.1 ≡ true

one_out : (o : RoomOut) → fits_out o ≡ true → list_all fits_out (o ∷ []) ≡ true
one_out o h = and_from (fits_out o) true h refl

two_outs : (o p : RoomOut) → fits_out o ≡ true → fits_out p ≡ true → list_all fits_out (o ∷ p ∷ []) ≡ true
two_outs o p h k = and_from (fits_out o) (list_all fits_out (p ∷ [])) h (one_out p k)

pub new_neat : (schema : Schema) (def : RoomDef) (criteria : List (List ℕ)) → Neat (new_state schema) (new_room schema def criteria)
new_neat schema def criteria = record { sessions = All-nil (Plain schema (new_state schema)); seats = refl }

module _ (last : State) (r : RoomValue) (n : Neat last r) where
  abbrev P : Session → Type 0
  P = Plain r.schema last

  still : (outs : List RoomOut) → list_all fits_out outs ≡ true → After last (r, outs)
  still outs h = record { neat = n; outs = h }

  -- ---- a reservation

  reserved : (session : List ℕ) (lapse : ℕ) → is_id session ≡ true → After last (after_reserve r session lapse, [])
  reserved session lapse own = record {
    neat = record {
      sessions = All-append P r.sessions _ n.sessions (All-cons P mine [] (record { named = own; queue = refl; sees = λ h. absurd (cc) }) (All-nil P));
      seats = all_append (λ (e : SeatEntry). is_id e.session) r.seats.entries _ n.seats (and_from (is_id session) true own refl);
    };
    outs = refl;
  }
    where
      mine : Session
      mine = record { id = session; stage = Reserved; members = no_members; permitted = root_alone r.schema; queue = []; keep = r.def.keep }

  -- ---- an opening

  entered : (session fresh : List ℕ) (told : RoomOut) → is_id session ≡ true → is_id fresh ≡ true → fits_out told ≡ true
      → After last (opened_by r session fresh told (Ok (seated r.seats session (seat.Taken fresh))))
  entered session fresh told own token fits = record {
    neat = record {
      sessions = changed_plain r.schema last session (at_stage Joining) r.sessions (joining_plain r.schema last) n.sessions;
      seats = seated_fits r.seats session (seat.Taken fresh) n.seats;
    };
    outs = two_outs told (out.Send session (join_frame fresh)) fits (join_small fresh token);
  }

  opened : (session : List ℕ) (token : Option (List ℕ)) (fresh : List ℕ) → is_id fresh ≡ true → After last (after_enter r session token fresh)
  opened session token fresh h =
      enter_cases (After last) r session fresh token (still (out.TokenInUse session ∷ []) refl) (still (out.NoSeat session ∷ []) refl)
      (λ lapse at new. (let own = seat_named r.seats session (seat.Reserved lapse) n.seats at in entered session fresh (out.Entered session) own h own))
      (λ t lapse is at new. (let own = seat_named r.seats session (seat.Kept t lapse) n.seats at in entered session fresh (out.Back session) own h own))

  -- ---- a frame

  read : (id : List ℕ) (x : Result ClientFrame FrameFault) → is_id id ≡ true → IfOk x (λ f. is_told_frame f ≡ true) → After last (after_read r id x)
  read id (Ok client.Ack) own h = record {
    neat = record { sessions = changed_plain r.schema last id acknowledged r.sessions (λ s p. acknowledged_plain r.schema last s.stage s p) n.sessions; seats = n.seats };
    outs = refl;
  }
  read id (Ok client.Leave) own h = record { neat = ended_neat last r id n; outs = two_outs (out.Close id 4000) (out.Left id) refl own }
  read id (Ok (client.Msg kind payload)) own h = still _ (one_out (out.Message id kind payload) (and_from (is_id id) (is_kind kind && are_bytes payload) own h))
  read id (Ok (client.Raw kind payload)) own h = still _ (one_out (out.RawMessage id kind payload) (and_from (is_id id) (is_kind kind && are_bytes payload) own h))
  read id (Err f) own h = still _ refl

  framed : (id bytes : List ℕ) → are_bytes bytes ≡ true → After last (after_frame r id bytes)
  framed id bytes h =
      where_cases (After last) r (session_of r.sessions id) (λ s. after_read r id (read_client bytes)) (λ off. still [] refl)
      (λ s found is. read id (read_client bytes) (session_named r.schema last r.sessions id s n.sessions found) (client_is bytes h))

  -- ---- a loss

  lost : (id : List ℕ) (now : ℕ) → After last (after_loss r id now)
  lost id now =
      loss_cases (After last) r id now (λ off. still [] refl)
      (λ s lapse found is. record {
        neat = record { sessions = changed_plain r.schema last id _ r.sessions (dropped_plain r.schema last) n.sessions; seats = keep_fits r.seats id lapse n.seats };
        outs = one_out (out.Dropped id) (session_named r.schema last r.sessions id s n.sessions found);
      })
      (λ s found is. record { neat = ended_neat last r id n; outs = one_out (out.Left id) (session_named r.schema last r.sessions id s n.sessions found) })

  -- ---- a moment

  lapse_fits : (seats : Seats) (id : List ℕ) → are_seats seats.entries ≡ true → list_all fits_out (lapse_outs seats id) ≡ true
  lapse_fits seats id h = by_seat (seat_of seats id) refl
    where
      by_seat : (o : Option Seat) → seat_of seats id ≡ o → list_all fits_out (cond (is_kept_seat o) (out.Left id ∷ []) []) ≡ true
      by_seat None e = refl
      by_seat (Some (seat.Reserved lapse)) e = refl
      by_seat (Some (seat.Taken token)) e = refl
      by_seat (Some (seat.Kept token lapse)) e = one_out (out.Left id) (seat_named seats id (seat.Kept token lapse) h e)

  lapsed : (now : ℕ) → After last (after_moment r now)
  lapsed now =
      moment_cases (After last) r now (still [] refl)
      (λ x id a. record { neat = ended_neat last x.0 id a.neat; outs = all_append fits_out x.1 (lapse_outs x.0.seats id) a.outs (lapse_fits x.0.seats id a.neat.seats) })

  -- ---- acts on a session

  answered : (id : List ℕ) (x : Result Acted Refusal) → Answers r.schema last x → After last (acted_on r id (Some x))
  answered id (Err f) h = still _ (one_out (out.Refused f) h)
  answered id (Ok a) h = record {
    neat = record { sessions = changed_plain r.schema last id (λ s. a.session) r.sessions (λ s p. h.0) n.sessions; seats = n.seats };
    outs = h.1;
  }

  acted : (id : List ℕ) (does : Session → Result Acted Refusal) → ((s : Session) → P s → Answers r.schema last (does s)) → After last (on_session r id does)
  acted id does fits = by_found (session_of r.sessions id) refl
    where
      by_found : (o : Option Session) → session_of r.sessions id ≡ o → After last (acted_on r id (option_map does o))
      by_found None found = still _ refl
      by_found (Some s) found = answered id (does s) (fits s (session_plain r.schema last r.sessions id s n.sessions found))

  all_told : (frame : List ℕ) → are_bytes frame ≡ true → After last (told_all r frame)
  all_told frame h = record {
    neat = record {
      sessions = each_plain r.schema last (λ (s : Session). session_after s (told_to frame s)) r.sessions (λ s p. session_told r.schema last s (told_to frame s) p (message_answers r.schema last frame s h p)) n.sessions;
      seats = n.seats;
    };
    outs = each_fits fits_out P (λ (s : Session). outs_after (told_to frame s)) (λ s p. outs_told r.schema last (told_to frame s) (message_answers r.schema last frame s h p)) r.sessions n.sessions;
  }

  kicked : (id : List ℕ) (code : ℕ) → is_kick_code code ≡ true → After last (after_kick r code (session_of r.sessions id))
  kicked id code h = by_found (session_of r.sessions id) refl
    where
      by_conn : (b : Bool) (s : Session) → is_id s.id ≡ true → list_all fits_out (cond b (out.Close s.id code ∷ out.Left s.id ∷ []) (out.Left s.id ∷ [])) ≡ true
      by_conn true s own = two_outs (out.Close s.id code) (out.Left s.id) (lt-ltb code 65536 (code_low code h)) own
      by_conn false s own = one_out (out.Left s.id) own

      by_found : (o : Option Session) → session_of r.sessions id ≡ o → After last (after_kick r code o)
      by_found None found = still _ refl
      by_found (Some s) found = record { neat = ended_neat last r s.id n; outs = by_conn (is_connected s.stage) s (session_plain r.schema last r.sessions id s n.sessions found).named }

  -- ---- a command

  commanded : (c : Command) (x : Result (State × Option ℕ) TableFault) → is_kept r.schema ≡ true → is_worded_command c ≡ true → GoodRoom r.schema last r
      → do_command r.schema r.state c ≡ x → After last (after_answer r x)
  commanded c (Err f) kept words g does = still _ (one_out (out.Refused (refusal.Table f)) (refusal_told r.schema r.state c f does))
  commanded c (Ok (t, None)) kept words g does = record { neat = record { sessions = n.sessions; seats = n.seats }; outs = refl }
  commanded c (Ok (t, Some m)) kept words g does = record { neat = record { sessions = n.sessions; seats = n.seats }; outs = one_out (out.Made m) (number_fits r.schema last r.state c t m kept words g.states does) }

  -- ---- any event but a tick

  acts : (a : Act) → is_kept r.schema ≡ true → GoodRoom r.schema last r → is_act a ≡ true → After last (after_act r a)
  acts (act.State c) kept g h = commanded c (do_command r.schema r.state c) kept (worded_command c h) g refl
  acts (act.ViewAdd id pair) kept g h = acted id (view_added_to r.schema r.state.rows pair) (added_answers r.schema last r.state.rows pair)
  acts (act.ViewDel id pair) kept g h = acted id (view_removed_from r.schema r.state.rows pair) (removed_answers r.schema last r.state.rows pair)
  acts (act.Send id kind payload) kept g h =
      let p = and_parts (is_kind kind) (are_bytes payload) (and_parts (is_id id) (is_kind kind && are_bytes payload) h).1 in
      acted id (told_to (server_bytes (server.Msg kind payload))) (λ s. message_answers r.schema last (server_bytes (server.Msg kind payload)) s (message_small kind payload p.0 p.1))
  acts (act.Raw id kind payload) kept g h =
      let p = and_parts (is_kind kind) (are_bytes payload) (and_parts (is_id id) (is_kind kind && are_bytes payload) h).1 in
      acted id (told_to (server_bytes (server.Raw kind payload))) (λ s. message_answers r.schema last (server_bytes (server.Raw kind payload)) s (raw_small kind payload p.0 p.1))
  acts (act.ToAll kind payload) kept g h = (let p = and_parts (is_kind kind) (are_bytes payload) h in all_told (server_bytes (server.Msg kind payload)) (message_small kind payload p.0 p.1))
  acts (act.Kick id code) kept g h = kicked id code (and_parts (is_id id) (is_kick_code code) h).1
  acts act.Lock kept g h = record { neat = record { sessions = n.sessions; seats = n.seats }; outs = refl }
  acts act.Unlock kept g h = record { neat = record { sessions = n.sessions; seats = n.seats }; outs = refl }
  acts (act.Keep id ms) kept g h = acted id (keep_set ms) (keep_answers r.schema last ms)

  pub step_neat : (e : RoomEvent) → is_kept r.schema ≡ true → GoodRoom r.schema last r → is_tick e ≡ false → is_told_event e ≡ true → After last (room_step r e)
  step_neat (event.Reserve session lapse) kept g other h = reserved session lapse h
  step_neat (event.Enter session token fresh) kept g other h = opened session token fresh h
  step_neat (event.Frame session bytes) kept g other h = framed session bytes h
  step_neat (event.Lost session now) kept g other h = lost session now
  step_neat (event.Moment now) kept g other h = lapsed now
  step_neat (event.Act a) kept g other h = acts a kept g h
  step_neat event.Tick kept g other h = absurd (cc)

  -- ---- a tick

  abbrev rows : List RowEntry
  rows = (swept r.state).rows

  -- a session with the pairs of freed rows gone, which sees this now
  abbrev sees_now : Session → List RowEntry
  sees_now s = permitted r.schema rows s.members.now

  clean : All P (map (session_swept rows) r.sessions)
  clean = each_plain r.schema last (session_swept rows) r.sessions (λ s p. record { named = p.named; queue = p.queue; sees = p.sees }) n.sessions

  frames_small : (st : Stage) (s : Session) → TickIsBytes r.schema last.rows rows → r.shared ≡ shared r.schema last.rows → list_all are_bytes s.queue ≡ true
      → (is_live_stage st ≡ true → s.permitted ≡ permitted r.schema last.rows s.members.last)
      → list_all are_bytes (frames_at st r.schema r.shared (shared r.schema rows) (sees_now s) s) ≡ true
  frames_small Reserved s t was queue sees = refl
  frames_small Joining s t was queue sees = refl
  frames_small Kept s t was queue sees = refl
  frames_small Due s t was queue sees =
      let bytes = full_state r.schema (shared r.schema rows) (sees_now s) in
      and_from (are_bytes (14 ∷ bytes)) (list_all are_bytes s.queue) (byte_before 14 bytes (omega arith) (t.whole s.members.now)) queue
  frames_small Live s t was queue sees = by_operation (has_operation r.schema r.shared s.permitted (shared r.schema rows) (sees_now s))
    where
      between : are_bytes (state_frame r.schema r.shared s.permitted (shared r.schema rows) (sees_now s)) ≡ true
      between = ap₂ (λ sh p. are_bytes (state_frame r.schema sh p (shared r.schema rows) (sees_now s))) was (sees refl) ∙ t.between s.members.last s.members.now

      by_operation : (b : Bool) → list_all are_bytes (cond b (server_bytes (server.Patch (state_frame r.schema r.shared s.permitted (shared r.schema rows) (sees_now s))) ∷ []) []) ≡ true
      by_operation true =
          let bytes = state_frame r.schema r.shared s.permitted (shared r.schema rows) (sees_now s) in
          and_from (are_bytes (15 ∷ bytes)) true (byte_before 15 bytes (omega arith) between) refl
      by_operation false = refl

  -- a session behind the tick that isn't live by it, and one that is
  waits : (s : Session) → is_live_stage s.stage ≡ false → P s
      → Plain r.schema (swept r.state) (record { id = s.id; stage = s.stage; members = ticked s.members; permitted = s.permitted; queue = s.queue; keep = s.keep })
  waits s off p = record { named = p.named; queue = p.queue; sees = λ live. absurd (cc) }

  lives : (s : Session) → P s → Plain r.schema (swept r.state) (live_session (sees_now s) s)
  lives s p = record { named = p.named; queue = refl; sees = λ live. refl }

  ticked_plain : (st : Stage) (s : Session) → s.stage ≡ st → P s → Plain r.schema (swept r.state) (ticked_at st (sees_now s) s)
  ticked_plain Reserved s at p = waits s (ap is_live_stage at) p
  ticked_plain Joining s at p = waits s (ap is_live_stage at) p
  ticked_plain Due s at p = lives s p
  ticked_plain Live s at p = lives s p
  ticked_plain Kept s at p = waits s (ap is_live_stage at) p

  -- the frames of a session
  abbrev frames_now : Session → List (List ℕ)
  frames_now s = frames_at s.stage r.schema r.shared (shared r.schema rows) (sees_now s) s

  pub tick_neat : is_kept r.schema ≡ true → GoodRoom r.schema last r → After (swept r.state) (after_tick r)
  tick_neat kept g = record {
    neat = record { sessions = All-map Next behind swept_now (All-weaker P (λ (s : Session). Next (behind s)) (λ s p. ticked_plain s.stage s refl p) swept_now clean); seats = n.seats };
    outs = each_fits fits_out P (tick_outs r.schema r.shared rows) given swept_now clean;
  }
    where
      Next : Session → Type 0
      Next = Plain r.schema (swept r.state)

      behind : Session → Session
      behind s = ticked_at s.stage (sees_now s) s

      swept_now : List Session
      swept_now = map (session_swept rows) r.sessions

      given : (s : Session) → P s → list_all fits_out (tick_outs r.schema r.shared rows s) ≡ true
      given s p = list_all-map fits_out (out.Send s.id) (frames_now s) ∙ frames_small s.stage s (tick_bytes r.schema last r.state kept g.states) g.shared_is p.queue p.sees
