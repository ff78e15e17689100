-- What an opening and an acknowledgement make of a room, by the client of the session.
use Rattle.std.proofs.Common.{◌≡◌, ℕ, Bool, true, false, cond, List, [], ◌∷◌, map, set, Option, Some, None, Ok, Err, refl, sym, ap, ◌∙◌}
use Rattle.std.specs.Prelude.{slice_get}
use Rattle.std.specs.Option.{option_map_or}
use Rattle.room_model.specs.declared.definition.RoomDef.{RoomDef}
use Rattle.room_model.specs.declared.event.RoomOut.{RoomOut}
use Rattle.room_model.specs.declared.event.RoomOut.TheVariants as out
use Rattle.room_model.specs.declared.event.Stage.{Stage}
use Rattle.room_model.specs.declared.event.Stage.TheVariants.{Reserved, Joining, Due, Live, Kept}
use Rattle.room_model.specs.declared.seat.Seat.{Seat}
use Rattle.room_model.specs.declared.seat.Seat.TheVariants as seat
use Rattle.room_model.specs.declared.seat.SeatFault.{SeatFault}
use Rattle.room_model.specs.declared.seat.SeatFault.TheVariants as fault
use Rattle.room_model.specs.Seats.{Seats, seat_of, is_kept_seat, is_reservation, has_reservation}
use Rattle.room_model.specs.Ledger.{take_seat, retake_of}
use Rattle.room_model.specs.Sessions.{Session, session_of, change_session, is_connected, at_stage}
use Rattle.room_model.specs.Room.{RoomValue, with_sessions, after_enter, after_return, acknowledged, acknowledged_at, opened_by}
use Rattle.room_laws.specs.Placed.{Placed, AreDistinct, is_reserved, is_kept}
use Rattle.room_laws.proofs.AlikeLists.{has_reserved, has_kept}
use Rattle.room_laws.proofs.PlacedSteps.{there_at, reserved_alone, kept_alone}
use Rattle.live_state.specs.Live.{Live as State-now}
use Rattle.view_counts.specs.Settled.{View}
use Rattle.room_core.specs.declared.client.Client.{Client}
use Rattle.room_core.specs.Entries.{entered, returned, told_first, opening_outs, refused_opening}
use Rattle.room_core.specs.Steps.{client_at, acknowledged_stage}
use Rattle.room_core.specs.Values.{room_with, session_of_client}
use Rattle.room_core.proofs.ClientLists.{named_there, changed_there}

-- an acknowledged client is an acknowledged session
acknowledged_client : (stage : Stage) (c : Client) → c.stage ≡ stage → session_of_client (client_at (acknowledged_stage stage) c) ≡ acknowledged_at stage (session_of_client c)
acknowledged_client Joining c at = refl
acknowledged_client Reserved c at = ap (λ s. session_of_client (client_at s c)) (sym at)
acknowledged_client Due c at = ap (λ s. session_of_client (client_at s c)) (sym at)
acknowledged_client Live c at = ap (λ s. session_of_client (client_at s c)) (sym at)
acknowledged_client Kept c at = ap (λ s. session_of_client (client_at s c)) (sym at)

-- ---- an opening, by its places

-- what an opening makes of a room and gives, by what it makes of the places
pub after_entered : (r : RoomValue) (session : List ℕ) (token : Option (List ℕ)) (fresh : List ℕ) → after_enter r session token fresh ≡ opened_by r session fresh (told_first r.seats session) (entered r.seats session token fresh)
after_entered r session token fresh =
    let go : (b : Bool) → cond b (opened_by r session fresh (out.Entered session) (take_seat r.seats session fresh)) (after_return r session token fresh)
    ≡ opened_by r session fresh (cond b (out.Entered session) (out.Back session)) (cond b (take_seat r.seats session fresh) (returned r.seats session token fresh)) = elim [
      | true ↦ refl
      | false ↦ by_token token
    ] in go (has_reservation r.seats session)
  where
    by_token : (o : Option (List ℕ)) → after_return r session o fresh ≡ opened_by r session fresh (out.Back session) (returned r.seats session o fresh)
    by_token None = refl
    by_token (Some t) = refl

-- one that is refused leaves the room
pub refused_room : (r : RoomValue) (session fresh : List ℕ) (told : RoomOut) (f : SeatFault) → opened_by r session fresh told (Err f) ≡ (r, refused_opening session f ∷ [])
refused_room r session fresh told fault.IdInUse = refl
refused_room r session fresh told fault.Locked = refl
refused_room r session fresh told fault.Full = refl
refused_room r session fresh told fault.NoSeat = refl
refused_room r session fresh told fault.WrongToken = refl

-- a session that is entered had no connection
pub entered_apart : (r : RoomValue) (session : List ℕ) (token : Option (List ℕ)) (fresh : List ℕ) (now : Seats) → Placed r → entered r.seats session token fresh ≡ Ok now
    → (s : Session) × (session_of r.sessions session ≡ Some s) × (is_connected s.stage ≡ false)
entered_apart r session token fresh now p h =
    let go : (b : Bool) → has_reservation r.seats session ≡ b → cond b (take_seat r.seats session fresh) (returned r.seats session token fresh) ≡ Ok now
    → (s : Session) × (session_of r.sessions session ≡ Some s) × (is_connected s.stage ≡ false) = elim [
      | true ↦ λ has e. (let found = there_at is_reserved r.sessions session (sym (has_reserved r session p) ∙ has) in (found.0, found.1, (reserved_alone found.0.stage found.2).0))
      | false ↦ λ has e. (let found = there_at is_kept r.sessions session (sym (has_kept r session p) ∙ by_token token e) in (found.0, found.1, (kept_alone found.0.stage found.2).0))
    ] in go (has_reservation r.seats session) refl h
  where
    by_seat : (t : List ℕ) (o : Option Seat) → retake_of r.seats session t fresh o ≡ Ok now → is_kept_seat o ≡ true
    by_seat t None e = cc
    by_seat t (Some (seat.Reserved lapse)) e = cc
    by_seat t (Some (seat.Taken own)) e = cc
    by_seat t (Some (seat.Kept own lapse)) e = refl

    by_token : (o : Option (List ℕ)) → returned r.seats session o fresh ≡ Ok now → is_kept_seat (seat_of r.seats session) ≡ true
    by_token None e = cc
    by_token (Some t) e = by_seat t (seat_of r.seats session) e

module _ (def : RoomDef) (criteria : List (List ℕ)) (live : State-now) (shared : View) (cs : List Client) (session : List ℕ) where
  abbrev room_at : Seats → List Client → RoomValue
  room_at seats clients = room_with def criteria live shared seats clients

  -- one that is refused
  pub refused_step : (old : Seats) (token : Option (List ℕ)) (fresh : List ℕ) (f : SeatFault) → entered old session token fresh ≡ Err f
      → after_enter (room_at old cs) session token fresh ≡ (room_at old cs, refused_opening session f ∷ [])
  refused_step old token fresh f refused =
      after_entered (room_at old cs) session token fresh
      ∙ (ap (opened_by (room_at old cs) session fresh (told_first old session)) refused ∙ refused_room (room_at old cs) session fresh (told_first old session) f)

  -- one that isn't
  pub enter_outs : (old now : Seats) (token : Option (List ℕ)) (fresh : List ℕ) → entered old session token fresh ≡ Ok now → opening_outs old session fresh ≡ (after_enter (room_at old cs) session token fresh).1
  enter_outs old now token fresh taken =
      sym (ap (λ (x : RoomValue × List RoomOut). x.1) (after_entered (room_at old cs) session token fresh)
      ∙ ap (λ x. (opened_by (room_at old cs) session fresh (told_first old session) x).1) taken)

  -- one of a session that isn't there
  pub missed_opening : (old : Seats) (token : Option (List ℕ)) (fresh : List ℕ) → seat_of old session ≡ None → after_enter (room_at old cs) session token fresh ≡ (room_at old cs, out.NoSeat session ∷ [])
  missed_opening old token fresh gone = ap (λ o. cond (is_reservation o) (opened_by r session fresh (out.Entered session) (take_seat old session fresh)) (after_return r session token fresh)) gone ∙ by_token token
    where
      r : RoomValue
      r = room_at old cs

      by_token : (o : Option (List ℕ)) → after_return r session o fresh ≡ (r, out.NoSeat session ∷ [])
      by_token None = refl
      by_token (Some t) = ap (λ o. opened_by r session fresh (out.Back session) (retake_of old session t fresh o)) gone

  module _ (distinct : AreDistinct (map session_of_client cs)) (at : ℕ) (c : Client) (there : slice_get cs at ≡ Some c) (name : c.id ≡ session) where
    -- the room whose client changes there
    changed_room : (seats : Seats) (d : Client) (g : Session → Session) → session_of_client d ≡ g (session_of_client c)
        → room_at seats (set cs at d) ≡ with_sessions (room_at seats cs) (change_session session g (map session_of_client cs))
    changed_room seats d g same = ap (λ ss. with_sessions (room_at seats cs) ss) (changed_there session g cs at c d distinct there name same)

    pub acknowledge_room : (seats : Seats) → room_at seats (set cs at (client_at (acknowledged_stage c.stage) c)) ≡ with_sessions (room_at seats cs) (change_session session acknowledged (map session_of_client cs))
    acknowledge_room seats = changed_room seats (client_at (acknowledged_stage c.stage) c) acknowledged (acknowledged_client c.stage c refl)

    pub enter_room : (old now : Seats) (token : Option (List ℕ)) (fresh : List ℕ) → entered old session token fresh ≡ Ok now → room_at now (set cs at (client_at Joining c)) ≡ (after_enter (room_at old cs) session token fresh).0
    enter_room old now token fresh taken =
        changed_room now (client_at Joining c) (at_stage Joining) refl
        ∙ sym (ap (λ (x : RoomValue × List RoomOut). x.0) (after_entered (room_at old cs) session token fresh)
        ∙ ap (λ x. (opened_by (room_at old cs) session fresh (told_first old session) x).0) taken)

    -- it had no connection
    pub joins_apart : (old now : Seats) (token : Option (List ℕ)) (fresh : List ℕ) → Placed (room_at old cs) → entered old session token fresh ≡ Ok now → is_connected c.stage ≡ false
    joins_apart old now token fresh p taken =
        let found = entered_apart (room_at old cs) session token fresh now p taken in
        let own : Some found.0 ≡ Some (session_of_client c) = sym found.1 ∙ named_there session cs at c distinct there name in
        ap (λ o. option_map_or (λ (s : Session). is_connected s.stage) o false) (sym own) ∙ found.2
