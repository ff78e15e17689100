-- A client that comes back to its kept seat, after every list of events that may happen.
use Rattle.std.proofs.Common.{◌≡◌, ℕ, true, false, List, [], ◌∷◌, map, Option, Some, Ok, refl, sym, ap, subst, ◌∙◌}
use Rattle.std.specs.List.{flat_map, list_any}
use Rattle.std.specs.Str.{bytes_eq}
use Rattle.state_model.specs.State.{swept}
use Rattle.frame_model.specs.declared.frame.ClientFrame.TheVariants as client
use Rattle.room_model.specs.declared.event.RoomEvent.{RoomEvent}
use Rattle.room_model.specs.declared.event.RoomOut.{RoomOut}
use Rattle.room_model.specs.declared.event.RoomOut.TheVariants as out
use Rattle.room_model.specs.declared.event.Stage.{Stage}
use Rattle.room_model.specs.declared.event.Stage.TheVariants.{Reserved, Joining, Due, Live, Kept}
use Rattle.room_model.specs.declared.seat.Seat.TheVariants as seat
use Rattle.room_model.specs.Seats.{seat_of, is_kept_seat, seated}
use Rattle.room_model.specs.Ledger.{has_token}
use Rattle.room_model.specs.Sessions.{Session, session_of, change_session, at_stage}
use Rattle.room_model.specs.Room.{RoomValue, new_room, room_step, opened_by, after_enter, after_read, after_tick, where_connected, acknowledged, with_sessions}
use Rattle.room_laws.specs.Placed.{Placed, AreDistinct, is_kept}
use Rattle.room_laws.specs.Places.{room_after}
use Rattle.room_laws.proofs.AlikeLists.{has_kept}
use Rattle.room_laws.proofs.PlacedSteps.{there_at}
use Rattle.room_laws.proofs.RoomPlaced.{rooms_stay_placed}
use Rattle.room_laws.proofs.SessionLists.{distinct_changed}
use Rattle.room_laws.proofs.SessionNames.{acknowledged_name}
use Rattle.life_model.specs.Entries.{Frame}
use Rattle.life_model.specs.RoomLives.{given_by, room_run}
use Rattle.room_promises.specs.Returns.{Returns, ClientsReturn, is_back, given_at_tick, whole_frame}
use Rattle.room_promises.proofs.EventCases.{enter_cases}
use Rattle.room_promises.proofs.LifeSteps.{changed_here}
use Rattle.room_promises.proofs.TickSteps.{tick_given}
use Rattle.room_promises.proofs.Tokens.{OneEachIn, step_tokens, used_dead}
use Rattle.room_promises.proofs.Waiting.{NoneWaits, IsClearRoom, found_clear, step_clear}
use Rattle.room_promises.proofs.RoomsKept.{run_room}

-- ---- a run

-- each token of a room is one session's, and nothing waits but where a session is joining or due
pub record IsTidy (r : RoomValue) : Type 0 where
  pub tokens : OneEachIn r
  pub clear : IsClearRoom r

pub runs_tidy : (r : RoomValue) (es : List RoomEvent) → IsTidy r → IsTidy (room_after r es)
runs_tidy r [] t = t
runs_tidy r (e ∷ es) t = runs_tidy (room_step r e).0 es (record { tokens = step_tokens r e t.tokens; clear = step_clear r e t.clear })

-- ---- a session that is joining sees the whole at the tick behind its acknowledgement

-- the acknowledgement, where the session is so
abbrev acking : RoomValue → List ℕ → Option Session → RoomValue
acking r session o = (where_connected r o (λ s. after_read r session (Ok client.Ack))).0

whole_given : (r : RoomValue) (session : List ℕ) (s : Session) → AreDistinct r.sessions → session_of r.sessions session ≡ Some (at_stage Joining s) → s.queue ≡ []
    → given_at_tick r session ≡ Frame (whole_frame r (swept r.state).rows (at_stage Joining s)) ∷ []
whole_given r session s distinct there clear =
    ap (λ o. flat_map (given_by session) (after_tick (acking r session o)).1) there
    ∙ (tick_given acked session (at_stage Due s) (distinct_changed session acknowledged r.sessions keeps distinct) (changed_here session acknowledged r.sessions (at_stage Joining s) keeps there)
    ∙ ap (λ queue. Frame (whole_frame r (swept r.state).rows (at_stage Joining s)) ∷ map Frame queue) clear)
  where
    acked : RoomValue
    acked = with_sessions r (change_session session acknowledged r.sessions)

    keeps : (s : Session) → bytes_eq s.id session ≡ true → (acknowledged s).id ≡ s.id
    keeps s e = acknowledged_name s.stage s

-- ---- a return

stage_kept : (st : Stage) → is_kept st ≡ true → st ≡ Kept
stage_kept Reserved h = cc
stage_kept Joining h = cc
stage_kept Due h = cc
stage_kept Live h = cc
stage_kept Kept h = refl

module _ (r : RoomValue) (session token fresh : List ℕ) (p : Placed r) (t : IsTidy r) where
  -- the room behind it
  abbrev taken : RoomValue × List RoomOut
  taken = opened_by r session fresh (out.Back session) (Ok (seated r.seats session (seat.Taken fresh)))

  same_token : (k : List ℕ) → Some token ≡ Some k → token ≡ k
  same_token k h = cc

  back : (k : List ℕ) (lapse : ℕ) → Some token ≡ Some k → seat_of r.seats session ≡ Some (seat.Kept k lapse) → has_token r.seats fresh ≡ false → Returns r session token taken.0
  back k lapse is at new =
      let found = there_at is_kept r.sessions session (sym (has_kept r session p) ∙ ap is_kept_seat at) in
      let s : Session = found.0 in
      let stays : s.stage ≡ Kept = stage_kept s.stage found.2 in
      let clear : s.queue ≡ [] = subst (λ st. NoneWaits st s.queue) stays (found_clear session s r.sessions t.clear found.1) in
      let there : session_of taken.0.sessions session ≡ Some (at_stage Joining s) = changed_here session (at_stage Joining) r.sessions s (λ s e. refl) found.1 in
      record {
        was = s;
        now = at_stage Joining s;
        was_there = found.1;
        is_there = there;
        was_kept = stays;
        members = refl;
        keep = refl;
        queue = clear;
        whole = whole_given taken.0 session s (distinct_changed session (at_stage Joining) r.sessions (λ s e. refl) p.distinct) there clear;
        dead = used_dead session token fresh lapse r.seats.entries t.tokens new (at ∙ ap (λ k. Some (seat.Kept k lapse)) (sym (same_token k is)));
      }

  returned : list_any (is_back session) (after_enter r session (Some token) fresh).1 ≡ true → Returns r session token (after_enter r session (Some token) fresh).0
  returned =
      enter_cases (λ x. list_any (is_back session) x.1 ≡ true → Returns r session token x.0) r session fresh (Some token)
      (λ h. absurd (cc)) (λ h. absurd (cc)) (λ lapse at new h. absurd (cc)) (λ k lapse is at new h. back k lapse is at new)

-- so clients return
pub clients_return : ClientsReturn
clients_return schema def criteria events can session token fresh back =
    let same : (room_run schema def criteria events).room ≡ room_after (new_room schema def criteria) events = run_room (record { room = new_room schema def criteria; lives = [] }) events in
    returned (room_run schema def criteria events).room session token fresh
    (subst Placed (sym same) (rooms_stay_placed schema def criteria events can.follow))
    (subst IsTidy (sym same) (runs_tidy (new_room schema def criteria) events (record { tokens = λ t. ([], tt); clear = tt }))) back
