-- What waits for the sessions of a room: at every point of a run nothing does but where a session is joining or due.
use Rattle.std.proofs.Common.{◌≡◌, ℕ, Bool, true, false, not, cond, List, [], ◌∷◌, ◌++◌, map, length, Option, Some, Result, Ok, Err, refl, sym, subst}
use Rattle.std.specs.Prelude.{nat_lt, IfOk}
use Rattle.std.specs.Option.{option_map}
use Rattle.std.specs.Str.{bytes_eq}
use Rattle.state_model.specs.declared.row.RowEntry.{RowEntry}
use Rattle.state_model.specs.declared.command.TableFault.{TableFault}
use Rattle.state_model.specs.Rows.{root_alone}
use Rattle.state_model.specs.State.{State, swept}
use Rattle.state_model.specs.Members.{no_members}
use Rattle.state_model.specs.Shown.{permitted}
use Rattle.state_model.specs.Commands.{do_command}
use Rattle.frame_model.specs.Frames.{server_bytes}
use Rattle.frame_model.specs.Reading.{read_client}
use Rattle.frame_model.specs.declared.fault.FrameFault.{FrameFault}
use Rattle.frame_model.specs.declared.frame.ClientFrame.{ClientFrame}
use Rattle.frame_model.specs.declared.frame.ClientFrame.TheVariants as client
use Rattle.frame_model.specs.declared.frame.ServerFrame.TheVariants as server
use Rattle.room_model.specs.declared.event.Act.{Act}
use Rattle.room_model.specs.declared.event.Act.TheVariants as act
use Rattle.room_model.specs.declared.event.RoomEvent.{RoomEvent}
use Rattle.room_model.specs.declared.event.RoomEvent.TheVariants as event
use Rattle.room_model.specs.declared.event.Stage.{Stage}
use Rattle.room_model.specs.declared.event.Stage.TheVariants.{Reserved, Joining, Due, Live, Kept}
use Rattle.room_model.specs.declared.refusal.Refusal.{Refusal}
use Rattle.room_model.specs.declared.refusal.Refusal.TheVariants as refusal
use Rattle.room_model.specs.Limits.{most_queued}
use Rattle.room_model.specs.Sessions.{Session, Acted, session_of, change_session, sessions_but, at_stage, with_queue, told_at, told_to, view_added_to, view_removed_from, keep_set}
use Rattle.room_model.specs.Room.{RoomValue, room_step, after_read, after_act, after_answer, acted_on, acknowledged, acknowledged_at, dropped, session_after, session_swept, ticked_at}
use Rattle.room_promises.proofs.EventCases.{enter_cases, where_cases, loss_cases, moment_cases, acted_cases, kick_cases}
use Rattle.room_promises.proofs.GoodLives.{Held}
use Rattle.room_promises.proofs.Edits.{Edits, added_edits, removed_edits, keep_edits}

-- what may wait at a stage
abbrev pub NoneWaits : Stage → List (List ℕ) → Type 0
NoneWaits Reserved queue = queue ≡ []
NoneWaits Joining queue = Unit {0}
NoneWaits Due queue = Unit {0}
NoneWaits Live queue = queue ≡ []
NoneWaits Kept queue = queue ≡ []

-- so it is of a session, and of all sessions
abbrev pub IsClear : Session → Type 0
IsClear s = NoneWaits s.stage s.queue

abbrev pub AreClear : List Session → Type 0
AreClear [] = Unit {0}
AreClear (s ∷ ss) = IsClear s × AreClear ss

-- ---- lists of sessions

pub found_clear : (q : List ℕ) (s : Session) (ss : List Session) → AreClear ss → session_of ss q ≡ Some s → IsClear s
found_clear q s [] clear found = cc
found_clear q s (t ∷ ss) clear found =
    let go : (b : Bool) → cond b (Some t) (session_of ss q) ≡ Some s → IsClear s = elim [
      | true ↦ λ here. (let same : t ≡ s = cc in subst IsClear same clear.0)
      | false ↦ λ here. found_clear q s ss clear.1 here
    ] in go (bytes_eq t.id q) found

mapped_clear : (f : Session → Session) (ss : List Session) → ((s : Session) → IsClear s → IsClear (f s)) → AreClear ss → AreClear (map f ss)
mapped_clear f [] keeps clear = tt
mapped_clear f (s ∷ ss) keeps clear = (keeps s clear.0, mapped_clear f ss keeps clear.1)

changed_clear : (id : List ℕ) (change : Session → Session) (ss : List Session) → ((s : Session) → IsClear s → IsClear (change s)) → AreClear ss → AreClear (change_session id change ss)
changed_clear id change ss keeps clear = mapped_clear (λ (s : Session). cond (bytes_eq s.id id) (change s) s) ss (λ s. by_name s (bytes_eq s.id id)) clear
  where
    by_name : (s : Session) (b : Bool) → IsClear s → IsClear (cond b (change s) s)
    by_name s true h = keeps s h
    by_name s false h = h

fewer_clear : (id : List ℕ) (ss : List Session) → AreClear ss → AreClear (sessions_but id ss)
fewer_clear id [] clear = tt
fewer_clear id (s ∷ ss) clear =
    let go : (b : Bool) → AreClear (cond b (s ∷ sessions_but id ss) (sessions_but id ss)) = elim [
      | true ↦ (clear.0, fewer_clear id ss clear.1)
      | false ↦ fewer_clear id ss clear.1
    ] in go (not (bytes_eq s.id id))

more_clear : (ss : List Session) (s : Session) → IsClear s → AreClear ss → AreClear (ss ++ s ∷ [])
more_clear [] s h clear = (h, tt)
more_clear (t ∷ ss) s h clear = (clear.0, more_clear ss s h clear.1)

-- ---- what is done to a session

acknowledged_clear : (st : Stage) (s : Session) → s.stage ≡ st → IsClear s → IsClear (acknowledged_at st s)
acknowledged_clear Reserved s is h = h
acknowledged_clear Joining s is h = tt
acknowledged_clear Due s is h = h
acknowledged_clear Live s is h = h
acknowledged_clear Kept s is h = h

ticked_clear : (st : Stage) (rows : List RowEntry) (s : Session) → s.stage ≡ st → IsClear s → IsClear (ticked_at st rows s)
ticked_clear Reserved rows s is h = h
ticked_clear Joining rows s is h = h
ticked_clear Due rows s is h = refl
ticked_clear Live rows s is h = refl
ticked_clear Kept rows s is h = h

-- what an act makes of it
abbrev Clears : Session → Result Acted Refusal → Type 0
Clears s x = IfOk x (λ a. IsClear a.session)

edited_clears : (s : Session) (x : Result Acted Refusal) → IsClear s → Edits s x → Clears s x
edited_clears s (Err f) h e = tt
edited_clears s (Ok a) h e = subst (λ (k : Held). NoneWaits k.stage k.queue) (sym e.same) h

queued_clears : (frame : List ℕ) (s : Session) (st : Stage) → s.stage ≡ st → ((queue : List (List ℕ)) → NoneWaits st queue) → (b : Bool)
    → Clears s (cond b (Ok (record { session = with_queue (s.queue ++ frame ∷ []) s; outs = [] })) (Err refusal.QueueFull))
queued_clears frame s st is any true = subst (λ st. NoneWaits st (s.queue ++ frame ∷ [])) (sym is) (any (s.queue ++ frame ∷ []))
queued_clears frame s st is any false = tt

told_clears : (st : Stage) (frame : List ℕ) (s : Session) → s.stage ≡ st → IsClear s → Clears s (told_at st frame s)
told_clears Reserved frame s is h = tt
told_clears Joining frame s is h = queued_clears frame s Joining is (λ queue. tt) (nat_lt (length s.queue) most_queued)
told_clears Due frame s is h = queued_clears frame s Due is (λ queue. tt) (nat_lt (length s.queue) most_queued)
told_clears Live frame s is h = h
told_clears Kept frame s is h = tt

after_clears : (s : Session) (x : Result Acted Refusal) → IsClear s → Clears s x → IsClear (session_after s x)
after_clears s (Ok a) h c = c
after_clears s (Err f) h c = h

-- ---- events

abbrev pub IsClearRoom : RoomValue → Type 0
IsClearRoom r = AreClear r.sessions

read_clear : (r : RoomValue) (id : List ℕ) (x : Result ClientFrame FrameFault) → IsClearRoom r → IsClearRoom (after_read r id x).0
read_clear r id (Ok client.Ack) clear = changed_clear id acknowledged r.sessions (λ s h. acknowledged_clear s.stage s refl h) clear
read_clear r id (Ok client.Leave) clear = fewer_clear id r.sessions clear
read_clear r id (Ok (client.Msg kind payload)) clear = clear
read_clear r id (Ok (client.Raw kind payload)) clear = clear
read_clear r id (Err f) clear = clear

answer_clear : (r : RoomValue) (x : Result (State × Option ℕ) TableFault) → IsClearRoom r → IsClearRoom (after_answer r x).0
answer_clear r (Ok x) clear = clear
answer_clear r (Err f) clear = clear

acted_clear : (r : RoomValue) (id : List ℕ) (does : Session → Result Acted Refusal) → ((s : Session) → IsClear s → Clears s (does s)) → IsClearRoom r → IsClearRoom (acted_on r id (option_map does (session_of r.sessions id))).0
acted_clear r id does keeps clear =
    acted_cases (λ x. IsClearRoom x.0) r id does (λ f. clear)
    (λ s a found is. changed_clear id (λ t. a.session) r.sessions (λ t h. subst (λ x. Clears s x) is (keeps s (found_clear id s r.sessions clear found))) clear)

act_clear : (r : RoomValue) (a : Act) → IsClearRoom r → IsClearRoom (after_act r a).0
act_clear r (act.State c) clear = answer_clear r (do_command r.schema r.state c) clear
act_clear r (act.ViewAdd id pair) clear = acted_clear r id (view_added_to r.schema r.state.rows pair) (λ s h. edited_clears s (view_added_to r.schema r.state.rows pair s) h (added_edits r.schema r.state.rows pair s)) clear
act_clear r (act.ViewDel id pair) clear = acted_clear r id (view_removed_from r.schema r.state.rows pair) (λ s h. edited_clears s (view_removed_from r.schema r.state.rows pair s) h (removed_edits r.schema r.state.rows pair s)) clear
act_clear r (act.Send id kind bytes) clear = acted_clear r id (told_to (server_bytes (server.Msg kind bytes))) (λ s h. told_clears s.stage (server_bytes (server.Msg kind bytes)) s refl h) clear
act_clear r (act.Raw id kind bytes) clear = acted_clear r id (told_to (server_bytes (server.Raw kind bytes))) (λ s h. told_clears s.stage (server_bytes (server.Raw kind bytes)) s refl h) clear
act_clear r (act.ToAll kind bytes) clear =
    let frame = server_bytes (server.Msg kind bytes) in
    mapped_clear (λ (s : Session). session_after s (told_to frame s)) r.sessions (λ s h. after_clears s (told_to frame s) h (told_clears s.stage frame s refl h)) clear
act_clear r (act.Kick id code) clear = kick_cases (λ x. IsClearRoom x.0) r id code (λ f nobody. clear) (λ s found. fewer_clear id r.sessions clear)
act_clear r act.Lock clear = clear
act_clear r act.Unlock clear = clear
act_clear r (act.Keep id ms) clear = acted_clear r id (keep_set ms) (λ s h. edited_clears s (keep_set ms s) h (keep_edits ms s)) clear

pub step_clear : (r : RoomValue) (e : RoomEvent) → IsClearRoom r → IsClearRoom (room_step r e).0
step_clear r (event.Reserve session lapse) clear =
    more_clear r.sessions (record { id = session; stage = Reserved; members = no_members; permitted = root_alone r.schema; queue = []; keep = r.def.keep }) refl clear
step_clear r (event.Enter session token fresh) clear =
    let joins : AreClear (change_session session (at_stage Joining) r.sessions) = changed_clear session (at_stage Joining) r.sessions (λ s h. tt) clear in
    enter_cases (λ x. IsClearRoom x.0) r session fresh token clear clear (λ lapse at new. joins) (λ t lapse is at new. joins)
step_clear r (event.Frame session bytes) clear =
    where_cases (λ x. IsClearRoom x.0) r (session_of r.sessions session) (λ s. after_read r session (read_client bytes)) (λ off. clear) (λ s found is. read_clear r session (read_client bytes) clear)
step_clear r (event.Lost session now) clear =
    loss_cases (λ x. IsClearRoom x.0) r session now (λ off. clear) (λ s lapse found is. changed_clear session (dropped r.schema) r.sessions (λ s h. refl) clear)
    (λ s found is. fewer_clear session r.sessions clear)
step_clear r (event.Moment now) clear = moment_cases (λ x. IsClearRoom x.0) r now clear (λ x id h. fewer_clear id x.0.sessions h)
step_clear r (event.Act a) clear = act_clear r a clear
step_clear r event.Tick clear =
    mapped_clear (λ (s : Session). ticked_at s.stage (permitted r.schema (swept r.state).rows s.members.now) s) (map (session_swept (swept r.state).rows) r.sessions)
    (λ s h. ticked_clear s.stage (permitted r.schema (swept r.state).rows s.members.now) s refl h) (mapped_clear (session_swept (swept r.state).rows) r.sessions (λ s h. h) clear)
