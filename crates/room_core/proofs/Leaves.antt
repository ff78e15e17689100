-- What becomes of a room whose client sends a frame, loses its connection, is kicked, or lapses.
use Rattle.std.proofs.Common.{◌≡◌, ℕ, zero, suc, ◌+◌, ◌-◌, ◌<◌, ◌≤◌, arith, true, false, cond, List, [], ◌∷◌, ◌++◌, map, set, remove, Option, Some, None, Result, Ok, Err, refl, sym, ap, ◌∙◌}
use Rattle.std.specs.Prelude.{nat_lt, slice_get, IfOk, OnOk}
use Rattle.std.specs.Option.{option_map, option_map_or}
use Rattle.std.proofs.lemmas.Bool.{lt-ltb}
use Rattle.state_model.specs.Reached.{times}
use Rattle.frame_model.specs.Reading.{read_client}
use Rattle.frame_model.specs.declared.frame.ClientFrame.{ClientFrame}
use Rattle.frame_model.specs.declared.fault.FrameFault.{FrameFault}
use Rattle.frame_model.specs.declared.fault.FrameFault.TheVariants as fault
use Rattle.client_frames.specs.Given.{GivesFrame}
use Rattle.lists.specs.declared.memory.Memory.{Memory}
use Rattle.room_model.specs.declared.definition.RoomDef.{RoomDef}
use Rattle.room_model.specs.declared.event.RoomOut.{RoomOut}
use Rattle.room_model.specs.declared.event.RoomOut.TheVariants as out
use Rattle.room_model.specs.declared.event.Stage.{Stage}
use Rattle.room_model.specs.Seats.{Seats, seat_of, is_kept_seat, left_seat}
use Rattle.room_model.specs.Ledger.{keep, expire}
use Rattle.room_model.specs.Sessions.{Session, session_of, change_session, is_connected}
use Rattle.room_model.specs.Room.{RoomValue, with_seats, with_sessions, ended, accepted, after_read, after_frame, after_drop, after_loss, after_kick, after_lapse, dropped, where_connected, unread_frame}
use Rattle.room_laws.specs.Placed.{Placed, AreDistinct, is_kept}
use Rattle.room_laws.specs.Places.{is_connected_in}
use Rattle.room_laws.proofs.AlikeLists.{has_kept}
use Rattle.live_state.specs.Live.{Live as State-now, schema_of}
use Rattle.view_counts.specs.Settled.{View}
use Rattle.room_core.specs.declared.client.Client.{Client}
use Rattle.room_core.specs.Leaving.{lapse_told, lapsed_at}
use Rattle.room_core.specs.Steps.{dropped_client, UnreadTells}
use Rattle.room_core.specs.Values.{room_with, session_of_client}
use Rattle.room_core.proofs.ClientLists.{named_there, changed_there, gone_there}

-- ---- sessions with a connection

-- where there is no session nothing happens
pub nothing_happens : (r : RoomValue) (session : List ℕ) (happens : Session → RoomValue × List RoomOut) → session_of r.sessions session ≡ None → where_connected r (session_of r.sessions session) happens ≡ (r, [])
nothing_happens r session happens gone = ap (λ o. where_connected r o happens) gone

-- a frame of a connected session is read, whatever the session is
read_alike : (r : RoomValue) (o : Option Session) (x : RoomValue × List RoomOut) → option_map_or (λ (s : Session). is_connected s.stage) o false ≡ true → where_connected r o (λ s. x) ≡ x
read_alike r None x connected = absurd cc
read_alike r (Some s) x connected = ap (λ b. cond b x (r, [])) connected

pub read_step : (r : RoomValue) (session bytes : List ℕ) → is_connected_in r session ≡ true → after_frame r session bytes ≡ after_read r session (read_client bytes)
read_step r session bytes connected = read_alike r (session_of r.sessions session) (after_read r session (read_client bytes)) connected

-- where it has a connection it happens
happens_to : (r : RoomValue) (session : List ℕ) (s : Session) (happens : Session → RoomValue × List RoomOut) → session_of r.sessions session ≡ Some s → is_connected_in r session ≡ true
    → where_connected r (session_of r.sessions session) happens ≡ happens s
happens_to r session s happens there connected =
    ap (λ o. where_connected r o happens) there
    ∙ ap (λ b. cond b (happens s) (r, [])) (sym (ap (λ o. option_map_or (λ (s : Session). is_connected s.stage) o false) there) ∙ connected)

-- a frame that can't be read is answered, and changes nothing
module _ (room : RoomValue) (session : List ℕ) (read : Result ClientFrame FrameFault) (step : RoomValue × List RoomOut) (is : step ≡ after_read room session read) where
  unread_step : (f : FrameFault) → read ≡ Err f → step ≡ (room, out.Send session unread_frame ∷ [])
  unread_step f gives = is ∙ ap (after_read room session) gives

  pub unread_told : (f : FrameFault) (r : Result (List RoomOut) Memory) → GivesFrame (Err f) read → UnreadTells session f r → IfOk r (λ outs. outs ≡ step.1)
  unread_told fault.Memory (Ok outs) gives tells = absurd (cc)
  unread_told fault.Empty (Ok outs) gives tells = tells ∙ sym (ap (λ x. x.1) (unread_step fault.Empty gives))
  unread_told (fault.UnknownCode code) (Ok outs) gives tells = tells ∙ sym (ap (λ x. x.1) (unread_step (fault.UnknownCode code) gives))
  unread_told (fault.Bad at) (Ok outs) gives tells = tells ∙ sym (ap (λ x. x.1) (unread_step (fault.Bad at) gives))
  unread_told fault.TooLong (Ok outs) gives tells = tells ∙ sym (ap (λ x. x.1) (unread_step fault.TooLong gives))
  unread_told f (Err e) gives tells = tt

  pub unread_room : (f : FrameFault) (r : Result (List RoomOut) Memory) → GivesFrame (Err f) read → UnreadTells session f r → OnOk r (room ≡ step.0)
  unread_room fault.Memory (Ok outs) gives tells = absurd (cc)
  unread_room fault.Empty (Ok outs) gives tells = sym (ap (λ x. x.0) (unread_step fault.Empty gives))
  unread_room (fault.UnknownCode code) (Ok outs) gives tells = sym (ap (λ x. x.0) (unread_step (fault.UnknownCode code) gives))
  unread_room (fault.Bad at) (Ok outs) gives tells = sym (ap (λ x. x.0) (unread_step (fault.Bad at) gives))
  unread_room fault.TooLong (Ok outs) gives tells = sym (ap (λ x. x.0) (unread_step fault.TooLong gives))
  unread_room f (Err e) gives tells = tt

-- ---- the client of a session, which stands at a place

module _ (def : RoomDef) (criteria : List (List ℕ)) (live : State-now) (shared : View) (places : Seats) (cs : List Client) (session : List ℕ) (distinct : AreDistinct (map session_of_client cs)) (at : ℕ) (c : Client)
    (there : slice_get cs at ≡ Some c) (name : c.id ≡ session) where
  abbrev room : RoomValue
  room = room_with def criteria live shared places cs

  pub own : session_of (map session_of_client cs) session ≡ Some (session_of_client c)
  own = named_there session cs at c distinct there name

  -- it goes
  pub end_room : (now : Seats) → now ≡ left_seat places session → room_with def criteria live shared now (remove cs at) ≡ ended room session
  end_room now is =
      ap (λ ss. with_seats (with_sessions room ss) now) (gone_there session cs at c distinct there name)
      ∙ ap (λ seats. with_seats (ended room session) seats) is

  -- it sends a frame
  pub frame_step : (bytes : List ℕ) (read : Result ClientFrame FrameFault) → read_client bytes ≡ read → is_connected_in room session ≡ true → after_frame room session bytes ≡ after_read room session read
  frame_step bytes read is connected =
      happens_to room session (session_of_client c) (λ s. after_read room session (read_client bytes)) own connected ∙ ap (after_read room session) is

  -- its connection is lost
  by_name : (f : List ℕ → RoomValue × List RoomOut) → f c.id ≡ f session
  by_name f = ap f name

  -- the room that keeps the seat of a session of this name, and what it tells
  abbrev kept_by : List ℕ → ℕ → RoomValue × List RoomOut
  kept_by n now = (with_seats (with_sessions room (change_session n (dropped (schema_of live)) (map session_of_client cs))) (accepted places (keep places n (now + c.keep))), out.Dropped n ∷ [])

  pub lost_end : (now : ℕ) → c.keep ≡ 0 → is_connected_in room session ≡ true → after_loss room session now ≡ (ended room session, out.Left session ∷ [])
  lost_end now never connected =
      happens_to room session (session_of_client c) (after_drop room now) own connected
      ∙ ap (λ b. cond b (kept_by c.id now) (ended room c.id, out.Left c.id ∷ [])) (ap (nat_lt 0) never)
      ∙ by_name (λ n. (ended room n, out.Left n ∷ []))

  -- the room that keeps its seat
  abbrev kept_room : Seats → RoomValue
  kept_room seats = with_seats (with_sessions room (change_session session (dropped (schema_of live)) (map session_of_client cs))) seats

  pub lost_kept : (now : ℕ) → nat_lt 0 c.keep ≡ true → is_connected_in room session ≡ true → after_loss room session now ≡ (kept_room (accepted places (keep places session (now + c.keep))), out.Dropped session ∷ [])
  lost_kept now some connected =
      happens_to room session (session_of_client c) (after_drop room now) own connected
      ∙ ap (λ b. cond b (kept_by c.id now) (ended room c.id, out.Left c.id ∷ [])) some
      ∙ by_name (λ n. kept_by n now)

  pub drop_room : (seats : Seats) → room_with def criteria live shared seats (set cs at (dropped_client (schema_of live) c)) ≡ kept_room seats
  drop_room seats =
      ap (λ ss. with_seats (with_sessions room ss) seats)
      (changed_there session (dropped (schema_of live)) cs at c (dropped_client (schema_of live) c) distinct there name refl)

  -- it is kicked
  pub kick_step : (code : ℕ) → after_kick room code (session_of (map session_of_client cs) session)
      ≡ (ended room session, cond (is_connected c.stage) (out.Close session code ∷ out.Left session ∷ []) (out.Left session ∷ []))
  kick_step code =
      ap (after_kick room code) own
      ∙ by_name (λ n. (ended room n, cond (is_connected c.stage) (out.Close n code ∷ out.Left n ∷ []) (out.Left n ∷ [])))

  -- it lapses
  has_kept_seat : Placed room → is_kept_seat (seat_of places session) ≡ is_kept c.stage
  has_kept_seat p = has_kept room session p ∙ ap (λ o. option_map_or is_kept (option_map-stage o) false) own
    where
      option_map-stage : Option Session → Option Stage
      option_map-stage o = option_map (λ (s : Session). s.stage) o

  pub lapse_step : (now : ℕ) (outs : List RoomOut) → Placed room → expire places now ≡ Some (session, left_seat places session)
      → after_lapse (room, outs) (expire places now) ≡ (ended room session, outs ++ lapse_told session c.stage)
  lapse_step now outs p is =
      ap (after_lapse (room, outs)) is
      ∙ ap (λ b. (ended room session, outs ++ cond b (out.Left session ∷ []) [])) (has_kept_seat p)

-- a keep time that isn't 0
pub is_kept_for : (k : ℕ) → (k ≡ 0 → ⊥) → nat_lt 0 k ≡ true
is_kept_for zero never = absurd (never refl)
is_kept_for (suc k) never = lt-ltb 0 (suc k) (omega arith)

-- ---- a moment, lapse by lapse

-- what a step leaves that is taken any number of times
pub still : {X : Type 0} (f : X → X) (x : X) (k : ℕ) → f x ≡ x → times k f x ≡ x
still f x zero same = refl
still f x (suc k) same = ap (times k f) same ∙ still f x k same

-- one lapse more of those that are left
pub one_lapse : (now first n : ℕ) (x y z : RoomValue × List RoomOut) → n < first → y ≡ lapsed_at now x → times (first - n) (lapsed_at now) x ≡ z → times (first - (n + 1)) (lapsed_at now) y ≡ z
one_lapse now first n x y z within is so_far =
    let more : first - n ≡ suc (first - (n + 1)) = omega arith in
    ap (times (first - (n + 1)) (lapsed_at now)) is ∙ (ap (λ k. times k (lapsed_at now) x) (sym more) ∙ so_far)

-- where none is left
pub no_lapse : (now k : ℕ) (x y z : RoomValue × List RoomOut) → y ≡ lapsed_at now x → expire x.0.seats now ≡ None → times k (lapsed_at now) x ≡ z → y ≡ z
no_lapse now k x y z is gone so_far =
    let same : lapsed_at now x ≡ x = ap (after_lapse x) gone in
    is ∙ (same ∙ (sym (still (lapsed_at now) x k same) ∙ so_far))

pub all_lapsed : (now first n : ℕ) (x z : RoomValue × List RoomOut) → first ≤ n → times (first - n) (lapsed_at now) x ≡ z → x ≡ z
all_lapsed now first n x z past so_far =
    let over : first - n ≡ 0 = omega arith in
    sym (ap (λ k. times k (lapsed_at now) x) over) ∙ so_far
