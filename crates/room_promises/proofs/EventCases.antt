-- The ways in which events may go: what holds of a room and its outputs in each of them holds after the event.
use Rattle.std.proofs.Common.{◌≡◌, ℕ, zero, suc, ◌+◌, Bool, true, false, cond, List, [], ◌∷◌, ◌++◌, length, Option, Some, None, Result, Ok, Err, refl, sym, ap, subst, ◌∙◌}
use Rattle.std.specs.Prelude.{nat_lt}
use Rattle.std.specs.Option.{option_map}
use Rattle.std.specs.Str.{bytes_eq}
use Rattle.lists.proofs.SameBytes.{same_bytes}
use Rattle.state_model.specs.Reached.{times}
use Rattle.room_model.specs.declared.event.RoomOut.{RoomOut}
use Rattle.room_model.specs.declared.event.RoomOut.TheVariants as out
use Rattle.room_model.specs.declared.refusal.Refusal.{Refusal}
use Rattle.room_model.specs.declared.refusal.Refusal.TheVariants as refusal
use Rattle.room_model.specs.declared.seat.Seat.{Seat}
use Rattle.room_model.specs.declared.seat.Seat.TheVariants as seat
use Rattle.room_model.specs.declared.seat.SeatFault.TheVariants as fault
use Rattle.room_model.specs.Seats.{Seats, seat_of, seated, has_reservation}
use Rattle.room_model.specs.Ledger.{has_token, seated_with, take_of, take_seat, retake_of, keep, expire}
use Rattle.room_model.specs.Sessions.{Session, Acted, session_of, change_session, is_connected}
use Rattle.room_model.specs.Room.{RoomValue, opened_by, after_enter, after_return, where_connected, accepted, dropped, after_drop, after_loss, ended, after_lapse, lapse_outs, after_moment, acted_on, after_kick, with_seats, with_sessions}
use Rattle.room_laws.proofs.SessionLists.{named_key}
use Rattle.life_model.specs.Lives.{is_at}

-- ---- an opening: the fresh token is in use, there is no seat, or a reservation or a kept seat is taken

module _ (P : RoomValue × List RoomOut → Type 0) (r : RoomValue) (session fresh : List ℕ) (token : Option (List ℕ)) (in_use : P (r, out.TokenInUse session ∷ [])) (no_seat : P (r, out.NoSeat session ∷ []))
    (entered : (lapse : ℕ) → seat_of r.seats session ≡ Some (seat.Reserved lapse) → has_token r.seats fresh ≡ false → P (opened_by r session fresh (out.Entered session) (Ok (seated r.seats session (seat.Taken fresh)))))
    (back : (t : List ℕ) (lapse : ℕ) → token ≡ Some t → seat_of r.seats session ≡ Some (seat.Kept t lapse) → has_token r.seats fresh ≡ false → P (opened_by r session fresh (out.Back session) (Ok (seated r.seats session (seat.Taken fresh))))) where
  by_token : (told : RoomOut) → (has_token r.seats fresh ≡ false → P (opened_by r session fresh told (Ok (seated r.seats session (seat.Taken fresh))))) → P (opened_by r session fresh told (seated_with r.seats session fresh))
  by_token told opened =
      let go : (b : Bool) → has_token r.seats fresh ≡ b → P (opened_by r session fresh told (cond b (Err fault.IdInUse) (Ok (seated r.seats session (seat.Taken fresh))))) = elim [
        | true ↦ λ e. in_use
        | false ↦ λ e. opened e
      ] in go (has_token r.seats fresh) refl

  by_reservation : (o : Option Seat) → seat_of r.seats session ≡ o → P (opened_by r session fresh (out.Entered session) (take_of r.seats session fresh o))
  by_reservation None at = no_seat
  by_reservation (Some (seat.Reserved lapse)) at = by_token (out.Entered session) (entered lapse at)
  by_reservation (Some (seat.Taken t)) at = no_seat
  by_reservation (Some (seat.Kept t lapse)) at = no_seat

  by_kept : (t : List ℕ) (o : Option Seat) → token ≡ Some t → seat_of r.seats session ≡ o → P (opened_by r session fresh (out.Back session) (retake_of r.seats session t fresh o))
  by_kept t None is at = no_seat
  by_kept t (Some (seat.Reserved lapse)) is at = no_seat
  by_kept t (Some (seat.Taken k)) is at = no_seat
  by_kept t (Some (seat.Kept k lapse)) is at =
      let go : (b : Bool) → bytes_eq k t ≡ b → P (opened_by r session fresh (out.Back session) (cond b (seated_with r.seats session fresh) (Err fault.WrongToken))) = elim [
        | true ↦ λ e. by_token (out.Back session) (back t lapse is (at ∙ ap (λ k. Some (seat.Kept k lapse)) (same_bytes k t e)))
        | false ↦ λ e. no_seat
      ] in go (bytes_eq k t) refl

  by_return : (o : Option (List ℕ)) → token ≡ o → P (after_return r session o fresh)
  by_return None is = no_seat
  by_return (Some t) is = by_kept t (seat_of r.seats session) is refl

  pub enter_cases : P (after_enter r session token fresh)
  enter_cases =
      let go : (b : Bool) → P (cond b (opened_by r session fresh (out.Entered session) (take_seat r.seats session fresh)) (after_return r session token fresh)) = elim [
        | true ↦ by_reservation (seat_of r.seats session) refl
        | false ↦ by_return token refl
      ] in go (has_reservation r.seats session)

module _ (P : RoomValue × List RoomOut → Type 0) (r : RoomValue) where
  -- ---- a session that has a connection, or has none

  pub where_cases : (o : Option Session) (happens : Session → RoomValue × List RoomOut) → (is_at is_connected o ≡ false → P (r, [])) → ((s : Session) → o ≡ Some s → is_connected s.stage ≡ true → P (happens s)) → P (where_connected r o happens)
  where_cases None happens unheard heard = unheard refl
  where_cases (Some s) happens unheard heard =
      let go : (b : Bool) → is_connected s.stage ≡ b → P (cond b (happens s) (r, [])) = elim [ true ↦ λ e. heard s refl e | false ↦ λ e. unheard e ] in
      go (is_connected s.stage) refl

  -- ---- a loss: the seat is kept, or the session ends

  pub loss_cases : (id : List ℕ) (now : ℕ) → (is_at is_connected (session_of r.sessions id) ≡ false → P (r, []))
      → ((s : Session) (lapse : ℕ) → session_of r.sessions id ≡ Some s → is_connected s.stage ≡ true
      → P (with_seats (with_sessions r (change_session id (dropped r.schema) r.sessions)) (accepted r.seats (keep r.seats id lapse)), out.Dropped id ∷ []))
      → ((s : Session) → session_of r.sessions id ≡ Some s → is_connected s.stage ≡ true → P (ended r id, out.Left id ∷ [])) → P (after_loss r id now)
  loss_cases id now unheard drops leaves = where_cases (session_of r.sessions id) (after_drop r now) unheard by_keep
    where
      by_keep : (s : Session) → session_of r.sessions id ≡ Some s → is_connected s.stage ≡ true → P (after_drop r now s)
      by_keep s found is =
          let go : (b : Bool)
          → P (cond b (with_seats (with_sessions r (change_session id (dropped r.schema) r.sessions)) (accepted r.seats (keep r.seats id (now + s.keep))), out.Dropped id ∷ []) (ended r id, out.Left id ∷ [])) = elim [
            | true ↦ drops s (now + s.keep) found is
            | false ↦ leaves s found is
          ] in
          subst (λ n. P (cond (nat_lt 0 s.keep) (with_seats (with_sessions r (change_session n (dropped r.schema) r.sessions)) (accepted r.seats (keep r.seats n (now + s.keep))), out.Dropped n ∷ []) (ended r n, out.Left n ∷ [])))
          (sym (named_key (λ (s : Session). s.id) id r.sessions s found)) (go (nat_lt 0 s.keep))

  -- ---- a moment: one session after another ends

  pub moment_cases : (now : ℕ) → P (r, []) → ((x : RoomValue × List RoomOut) (id : List ℕ) → P x → P (ended x.0 id, x.1 ++ lapse_outs x.0.seats id)) → P (after_moment r now)
  moment_cases now start ends = often (length r.seats.entries) (r, []) start
    where
      once : (x : RoomValue × List RoomOut) (o : Option (List ℕ × Seats)) → P x → P (after_lapse x o)
      once x None h = h
      once x (Some entry) h = ends x entry.0 h

      often : (n : ℕ) (x : RoomValue × List RoomOut) → P x → P (times n (λ (x : RoomValue × List RoomOut). after_lapse x (expire x.0.seats now)) x)
      often zero x h = h
      often (suc n) x h = often n (after_lapse x (expire x.0.seats now)) (once x (expire x.0.seats now) h)

  -- ---- an act on a session: it is refused, or changes the session

  pub acted_cases : (id : List ℕ) (does : Session → Result Acted Refusal) → ((f : Refusal) → P (r, out.Refused f ∷ []))
      → ((s : Session) (a : Acted) → session_of r.sessions id ≡ Some s → does s ≡ Ok a → P (with_sessions r (change_session id (λ t. a.session) r.sessions), a.outs)) → P (acted_on r id (option_map does (session_of r.sessions id)))
  acted_cases id does refused done = by_found (session_of r.sessions id) refl
    where
      by_answer : (s : Session) (x : Result Acted Refusal) → session_of r.sessions id ≡ Some s → does s ≡ x → P (acted_on r id (Some x))
      by_answer s (Err f) found is = refused f
      by_answer s (Ok a) found is = done s a found is

      by_found : (o : Option Session) → session_of r.sessions id ≡ o → P (acted_on r id (option_map does o))
      by_found None found = refused refusal.NoSession
      by_found (Some s) found = by_answer s (does s) found refl

  -- ---- a kick: there is no such session, or it ends

  pub kick_cases : (id : List ℕ) (code : ℕ) → ((f : Refusal) → session_of r.sessions id ≡ None → P (r, out.Refused f ∷ []))
      → ((s : Session) → session_of r.sessions id ≡ Some s → P (ended r id, cond (is_connected s.stage) (out.Close id code ∷ out.Left id ∷ []) (out.Left id ∷ []))) → P (after_kick r code (session_of r.sessions id))
  kick_cases id code refused ends = by_found (session_of r.sessions id) refl
    where
      by_found : (o : Option Session) → session_of r.sessions id ≡ o → P (after_kick r code o)
      by_found None found = refused refusal.NoSession found
      by_found (Some s) found =
          subst (λ n. P (ended r n, cond (is_connected s.stage) (out.Close n code ∷ out.Left n ∷ []) (out.Left n ∷ [])))
          (sym (named_key (λ (s : Session). s.id) id r.sessions s found)) (ends s found)
