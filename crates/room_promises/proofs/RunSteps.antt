-- What holds of a run at each point holds after each event, and after every list of them.
use Rattle.std.proofs.Common.{◌≡◌, ℕ, Bool, true, false, cond, List, [], ◌∷◌, ◌++◌, map, All, Some, None, refl, sym, ap, subst, ◌∙◌}
use Rattle.std.specs.List.{flat_map, fold, list_all}
use Rattle.std.specs.Option.{option_or}
use Rattle.std.specs.Str.{bytes_eq}
use Rattle.std.proofs.lemmas.Bool.{and_parts}
use Rattle.std.proofs.lemmas.List.Elements.{All-nil, All-cons, All-append, All-map}
use Rattle.lists.proofs.SameBytes.{bytes_eq_self}
use Rattle.lists.proofs.Options.{none_there}
use Rattle.schema_model.specs.Classes.{Schema, is_kept}
use Rattle.state_model.specs.declared.row.RowEntry.{RowEntry}
use Rattle.state_model.specs.Rows.{root_alone}
use Rattle.state_model.specs.State.{State, swept}
use Rattle.state_model.specs.Members.{no_members}
use Rattle.state_model.specs.Shown.{shared}
use Rattle.state_model.specs.Commands.{do_command}
use Rattle.frame_model.specs.Frames.{server_bytes}
use Rattle.frame_model.specs.declared.frame.ServerFrame.TheVariants as server
use Rattle.room_model.specs.declared.event.Act.TheVariants as act
use Rattle.room_model.specs.declared.event.RoomEvent.{RoomEvent}
use Rattle.room_model.specs.declared.event.RoomEvent.TheVariants as event
use Rattle.room_model.specs.declared.event.Stage.TheVariants.{Reserved}
use Rattle.room_model.specs.Ledger.{set_locked}
use Rattle.room_model.specs.Sessions.{Session, session_of, view_added_to, view_removed_from, keep_set}
use Rattle.room_model.specs.Room.{RoomValue, room_step}
use Rattle.room_laws.specs.Places.{may_happen, may_follow}
use Rattle.room_laws.proofs.PlacedSteps.{added_stays, removed_stays, keep_stays}
use Rattle.room_laws.proofs.SessionLists.{named_more}
use Rattle.room_like.specs.Worded.{is_worded_event}
use Rattle.life_model.specs.RoomLives.{RoomLife, RoomRun, is_in, room_entries, given_by, view_after, lived, new_life, begun, run_step}
use Rattle.room_promises.proofs.GoodLives.{GoesOn, GoodLife, good_life, with_more}
use Rattle.room_promises.proofs.Openings.{enter_on}
use Rattle.room_promises.proofs.Frames.{frame_on}
use Rattle.room_promises.proofs.Losses.{loss_on}
use Rattle.room_promises.proofs.Lapses.{moment_on}
use Rattle.room_promises.proofs.Kicks.{kick_on}
use Rattle.room_promises.proofs.Edits.{edit_on, added_edits, removed_edits, keep_edits, command_on, seats_on, reserve_on}
use Rattle.room_promises.proofs.Messages.{told_on, all_told_on}
use Rattle.room_promises.proofs.TickFits.{TickDecodes}
use Rattle.room_promises.proofs.TickSteps.{tick_on}
use Rattle.room_promises.proofs.TickBytes.{tick_decodes}
use Rattle.room_promises.proofs.RoomSteps.{GoodRoom, is_tick, step_good, tick_good}

-- the room is good, with the state of the last tick, and so is each life
pub record GoodRun (schema : Schema) (x : RoomRun) : Type 0 where
  pub last : State
  pub room : GoodRoom schema last x.room
  pub lives : All (GoodLife schema last.rows x.room.sessions) x.lives

-- ---- a life

-- a life that goes on, behind an event
abbrev stepped : RoomValue → RoomEvent → RoomLife → RoomLife
stepped r e l = with_more l (is_in (room_step r e).0 l.session) (room_entries r e (room_step r e).0 l.session) (flat_map (given_by l.session) (room_step r e).1) (view_after e (room_step r e).0 l)

-- one that has ended stays as it is
life_lived : (schema : Schema) (rows next : List RowEntry) (r : RoomValue) (e : RoomEvent) (l : RoomLife) → GoodLife schema rows r.sessions l
    → (GoesOn schema rows r.sessions l → GoodLife schema next (room_step r e).0.sessions (stepped r e l)) → GoodLife schema next (room_step r e).0.sessions (lived r e (room_step r e) l)
life_lived schema rows next r e l g steps = go l.lasts refl
  where
    go : (b : Bool) → l.lasts ≡ b → GoodLife schema next (room_step r e).0.sessions (cond b (stepped r e l) l)
    go true is = steps (g.goes_on is)
    go false is = record { equal = g.equal; goes_on = λ h. absurd (cc) }

-- a life behind a tick
pub life_ticked : (schema : Schema) (last : State) (r : RoomValue) (l : RoomLife) → is_kept schema ≡ true → GoodRoom schema last r → GoodLife schema last.rows r.sessions l
    → GoodLife schema (swept r.state).rows (room_step r event.Tick).0.sessions (lived r event.Tick (room_step r event.Tick) l)
life_ticked schema last r l kept room g =
    life_lived schema last.rows (swept r.state).rows r event.Tick l g (λ on. good_life schema (swept r.state).rows (room_step r event.Tick).0.sessions (stepped r event.Tick l) (steps on))
  where
    -- of the room's own schema
    own : GoesOn r.schema last.rows r.sessions l → GoesOn r.schema (swept r.state).rows (room_step r event.Tick).0.sessions (stepped r event.Tick l)
    own on =
        tick_on last.rows r l on room.placed.distinct (subst (λ s. r.shared ≡ shared s last.rows) (sym room.schema_is) room.shared_is)
        (subst (λ s. TickDecodes s last.rows (swept r.state).rows) (sym room.schema_is) (tick_decodes schema last r.state kept room.states))

    steps : GoesOn schema last.rows r.sessions l → GoesOn schema (swept r.state).rows (room_step r event.Tick).0.sessions (stepped r event.Tick l)
    steps = subst (λ s. GoesOn s last.rows r.sessions l → GoesOn s (swept r.state).rows (room_step r event.Tick).0.sessions (stepped r event.Tick l)) room.schema_is own

-- and behind any other event
pub life_stepped : (schema : Schema) (last : State) (r : RoomValue) (e : RoomEvent) (l : RoomLife) → is_tick e ≡ false → GoodRoom schema last r → GoodLife schema last.rows r.sessions l
    → GoodLife schema last.rows (room_step r e).0.sessions (lived r e (room_step r e) l)
life_stepped schema last r e l other room g = life_lived schema last.rows last.rows r e l g (λ on. by_event e other on)
  where
    goes_good : (e : RoomEvent) → GoesOn schema last.rows (room_step r e).0.sessions (stepped r e l) → GoodLife schema last.rows (room_step r e).0.sessions (stepped r e l)
    goes_good e on = good_life schema last.rows (room_step r e).0.sessions (stepped r e l) on

    by_event : (e : RoomEvent) → is_tick e ≡ false → GoesOn schema last.rows r.sessions l → GoodLife schema last.rows (room_step r e).0.sessions (stepped r e l)
    by_event (event.Reserve session lapse) other on = goes_good (event.Reserve session lapse) (reserve_on schema last.rows r l on session lapse)
    by_event (event.Enter session token fresh) other on = goes_good (event.Enter session token fresh) (enter_on schema last.rows r l on session token fresh room.placed)
    by_event (event.Frame session bytes) other on = frame_on schema last.rows r l on session bytes
    by_event (event.Lost session now) other on = loss_on schema last.rows r l on session now
    by_event (event.Moment now) other on = moment_on schema last.rows r l on now
    by_event (event.Act (act.State c)) other on = goes_good (event.Act (act.State c)) (command_on schema last.rows r l on (do_command r.schema r.state c))
    by_event (event.Act (act.ViewAdd id pair)) other on = goes_good (event.Act (act.ViewAdd id pair))
        (edit_on schema last.rows r l on id (view_added_to r.schema r.state.rows pair) (added_stays r.schema r.state.rows pair) (added_edits r.schema r.state.rows pair))
    by_event (event.Act (act.ViewDel id pair)) other on = goes_good (event.Act (act.ViewDel id pair))
        (edit_on schema last.rows r l on id (view_removed_from r.schema r.state.rows pair) (removed_stays r.schema r.state.rows pair) (removed_edits r.schema r.state.rows pair))
    by_event (event.Act (act.Send id kind payload)) other on = goes_good (event.Act (act.Send id kind payload)) (told_on schema last.rows r l on (server_bytes (server.Msg kind payload)) (λ frames. refl) id)
    by_event (event.Act (act.Raw id kind payload)) other on = goes_good (event.Act (act.Raw id kind payload)) (told_on schema last.rows r l on (server_bytes (server.Raw kind payload)) (λ frames. refl) id)
    by_event (event.Act (act.ToAll kind payload)) other on = goes_good (event.Act (act.ToAll kind payload)) (all_told_on schema last.rows r l on (server_bytes (server.Msg kind payload)) (λ frames. refl) room.placed.distinct)
    by_event (event.Act (act.Kick id code)) other on = kick_on schema last.rows r l on id code
    by_event (event.Act act.Lock) other on = goes_good (event.Act act.Lock) (seats_on schema last.rows r l on (set_locked r.seats true))
    by_event (event.Act act.Unlock) other on = goes_good (event.Act act.Unlock) (seats_on schema last.rows r l on (set_locked r.seats false))
    by_event (event.Act (act.Keep id ms)) other on = goes_good (event.Act (act.Keep id ms)) (edit_on schema last.rows r l on id (keep_set ms) (keep_stays ms) (keep_edits ms))
    by_event event.Tick other on = cc

-- a life that begins
pub life_begun : (schema : Schema) (rows : List RowEntry) (r : RoomValue) (session : List ℕ) (lapse : ℕ) → is_in r session ≡ false
    → GoodLife schema rows (room_step r (event.Reserve session lapse)).0.sessions (lived r (event.Reserve session lapse) (room_step r (event.Reserve session lapse)) (new_life r session))
life_begun schema rows r session lapse new = good_life schema rows _ _ (record { session = mine; there = there; fits = record { progress = refl; queue = refl; sees = tt } })
  where
    mine : Session
    mine = record { id = session; stage = Reserved; members = no_members; permitted = root_alone r.schema; queue = []; keep = r.def.keep }

    there : session_of (room_step r (event.Reserve session lapse)).0.sessions session ≡ Some mine
    there =
        named_more (λ (s : Session). s.id) session r.sessions mine
        ∙ (ap (λ o. option_or o (cond (bytes_eq session session) (Some mine) None)) (none_there (session_of r.sessions session) new) ∙ ap (λ b. cond b (Some mine) None) (bytes_eq_self session))

-- ---- all lives

-- those there were, and those that begin
all_lived : (P : RoomLife → Type 0) (f : RoomLife → RoomLife) (ls new : List RoomLife) → All (λ l. P (f l)) ls → All (λ l. P (f l)) new → All P (map f (ls ++ new))
all_lived P f ls new a b = All-map P f (ls ++ new) (All-append (λ l. P (f l)) ls new a b)

lives_begun : (schema : Schema) (rows : List RowEntry) (r : RoomValue) (e : RoomEvent) → All (λ l. GoodLife schema rows (room_step r e).0.sessions (lived r e (room_step r e) l)) (begun r e)
lives_begun schema rows r (event.Reserve session lapse) =
    let P : RoomLife → Type 0 = λ (l : RoomLife). GoodLife schema rows (room_step r (event.Reserve session lapse)).0.sessions (lived r (event.Reserve session lapse) (room_step r (event.Reserve session lapse)) l) in
    let go : (b : Bool) → is_in r session ≡ b → All P (cond b [] (new_life r session ∷ [])) = elim [
      | true ↦ λ e. All-nil P
      | false ↦ λ e. All-cons P (new_life r session) [] (life_begun schema rows r session lapse e) (All-nil P)
    ] in go (is_in r session) refl
lives_begun schema rows r e = All-nil _

-- ---- an event

pub run_steps : (schema : Schema) (x : RoomRun) (e : RoomEvent) → is_kept schema ≡ true → is_worded_event e ≡ true → may_happen x.room e ≡ true → GoodRun schema x → GoodRun schema (run_step x e)
run_steps schema x e kept words may g = by_tick (is_tick e) refl
  where
    other : is_tick e ≡ false → GoodRun schema (run_step x e)
    other no_tick = record {
      last = g.last;
      room = step_good schema g.last x.room e kept no_tick words may g.room;
      lives =
          all_lived (GoodLife schema g.last.rows (room_step x.room e).0.sessions) (lived x.room e (room_step x.room e)) x.lives (begun x.room e)
          (λ k d h. life_stepped schema g.last x.room e _ no_tick g.room (g.lives k d h)) (lives_begun schema g.last.rows x.room e);
    }

    ticks : (e : RoomEvent) → is_tick e ≡ true → GoodRun schema (run_step x e)
    ticks event.Tick is = record {
      last = swept x.room.state;
      room = tick_good schema g.last x.room g.room;
      lives =
          all_lived (GoodLife schema (swept x.room.state).rows (room_step x.room event.Tick).0.sessions) (lived x.room event.Tick (room_step x.room event.Tick)) x.lives []
          (λ k d h. life_ticked schema g.last x.room _ kept g.room (g.lives k d h)) (All-nil _);
    }
    ticks e is = cc

    by_tick : (b : Bool) → is_tick e ≡ b → GoodRun schema (run_step x e)
    by_tick true is = ticks e is
    by_tick false is = other is

-- ---- a list of events

pub runs_good : (schema : Schema) (x : RoomRun) (es : List RoomEvent) → is_kept schema ≡ true → list_all is_worded_event es ≡ true → may_follow x.room es ≡ true → GoodRun schema x → GoodRun schema (fold run_step x es)
runs_good schema x [] kept words may g = g
runs_good schema x (e ∷ es) kept words may g =
    let w = and_parts (is_worded_event e) (list_all is_worded_event es) words in
    let m = and_parts (may_happen x.room e) (may_follow (room_step x.room e).0 es) may in
    runs_good schema (run_step x e) es kept w.1 m.1 (run_steps schema x e kept w.0 m.0 g)
