-- An opening, and what it makes of a life that goes on.
use Rattle.std.proofs.Common.{◌≡◌, ℕ, Bool, true, false, not, cond, ◌&&◌, List, [], ◌∷◌, ◌++◌, Option, Some, Ok, refl, sym, ap, ap₂, subst, ◌∙◌}
use Rattle.std.specs.List.{flat_map}
use Rattle.std.specs.Option.{option_map, option_map_or}
use Rattle.std.specs.Str.{bytes_eq}
use Rattle.lists.proofs.SameBytes.{same_bytes}
use Rattle.schema_model.specs.Classes.{Schema}
use Rattle.state_model.specs.declared.row.RowEntry.{RowEntry}
use Rattle.room_model.specs.declared.event.RoomOut.{RoomOut}
use Rattle.room_model.specs.declared.event.RoomOut.TheVariants as out
use Rattle.room_model.specs.declared.event.Stage.{Stage}
use Rattle.room_model.specs.declared.event.Stage.TheVariants.{Reserved, Joining, Due, Live, Kept}
use Rattle.room_model.specs.declared.seat.Seat.TheVariants as seat
use Rattle.room_model.specs.Seats.{Seats, seat_of, seated, is_reservation, is_kept_seat}
use Rattle.room_model.specs.Sessions.{Session, session_of, change_session, at_stage}
use Rattle.room_model.specs.Room.{RoomValue, opened_by, after_enter, join_frame}
use Rattle.room_laws.specs.Placed.{Placed, is_reserved, is_kept}
use Rattle.room_laws.proofs.AlikeLists.{has_reserved, has_kept}
use Rattle.life_model.specs.Entries.{Entry, Record, Opened, Sending, Frame}
use Rattle.life_model.specs.Lives.{entry_if, is_at, is_open}
use Rattle.life_model.specs.Sent as standing
use Rattle.life_model.specs.Sent.{Progress}
use Rattle.life_model.specs.RoomLives.{RoomLife, has_conn, given_by}
use Rattle.room_promises.proofs.GoodLives.{held, AreMessages, Fits, GoesOn}
use Rattle.room_promises.proofs.EventCases.{enter_cases}
use Rattle.room_promises.proofs.LifeSteps.{recorded, unopened, StepsOn, goes_with, quiet, changed_here, changed_elsewhere}

-- a session without a connection
abbrev pub is_at_rest : Stage → Bool
is_at_rest Reserved = true
is_at_rest Joining = false
is_at_rest Due = false
is_at_rest Live = false
is_at_rest Kept = true

reserved_rests : (st : Stage) → is_reserved st ≡ true → is_at_rest st ≡ true
reserved_rests Reserved h = refl
reserved_rests Kept h = refl
reserved_rests Joining h = cc
reserved_rests Due h = cc
reserved_rests Live h = cc

kept_rests : (st : Stage) → is_kept st ≡ true → is_at_rest st ≡ true
kept_rests Reserved h = refl
kept_rests Kept h = refl
kept_rests Joining h = cc
kept_rests Due h = cc
kept_rests Live h = cc

rests_closed : (st : Stage) → is_at_rest st ≡ true → is_open st ≡ false
rests_closed Reserved h = refl
rests_closed Kept h = refl
rests_closed Joining h = cc
rests_closed Due h = cc
rests_closed Live h = cc

-- a session with a reservation or a kept seat has no connection
rests_reserved : (r : RoomValue) (session : List ℕ) (lapse : ℕ) → Placed r → seat_of r.seats session ≡ Some (seat.Reserved lapse) → (s : Session) → session_of r.sessions session ≡ Some s → is_at_rest s.stage ≡ true
rests_reserved r session lapse p at s there =
    reserved_rests s.stage (sym (ap (λ o. option_map_or is_reserved (option_map (λ (s : Session). s.stage) o) false) there) ∙ (sym (has_reserved r session p) ∙ ap is_reservation at))

rests_kept : (r : RoomValue) (session t : List ℕ) (lapse : ℕ) → Placed r → seat_of r.seats session ≡ Some (seat.Kept t lapse) → (s : Session) → session_of r.sessions session ≡ Some s → is_at_rest s.stage ≡ true
rests_kept r session t lapse p at s there =
    kept_rests s.stage (sym (ap (λ o. option_map_or is_kept (option_map (λ (s : Session). s.stage) o) false) there) ∙ (sym (has_kept r session p) ∙ ap is_kept_seat at))

-- ---- a life

-- a record that is opened
fits_opened : (schema : Schema) (rows : List RowEntry) (st : Stage) (s : Session) (token : List ℕ) (entries : Record) (outputs : List Sending) (view : List RowEntry) → is_at_rest st ≡ true
    → Fits schema rows (held (at_stage st s)) entries outputs view → Fits schema rows (held (at_stage Joining s)) (entries ++ Opened token ∷ []) (outputs ++ Frame (join_frame token) ∷ []) view
fits_opened schema rows Reserved s token entries outputs view h f = record {
  progress = recorded schema entries (Opened token) _ f.progress ∙ ap (joined token outputs) (sym f.queue);
  queue = subst AreMessages (sym f.queue) tt;
  sees = tt;
}
  where
    joined : List ℕ → List Sending → List (List ℕ) → Progress
    joined token outputs queue = record { standing = standing.Joining queue; given = outputs ++ Frame (join_frame token) ∷ [] }
fits_opened schema rows Kept s token entries outputs view h f = record {
  progress = recorded schema entries (Opened token) _ f.progress ∙ ap (joined token outputs) (sym f.queue);
  queue = subst AreMessages (sym f.queue) tt;
  sees = tt;
}
  where
    joined : List ℕ → List Sending → List (List ℕ) → Progress
    joined token outputs queue = record { standing = standing.Joining queue; given = outputs ++ Frame (join_frame token) ∷ [] }
fits_opened schema rows Joining s token entries outputs view h f = cc
fits_opened schema rows Due s token entries outputs view h f = cc
fits_opened schema rows Live s token entries outputs view h f = cc

module _ (schema : Schema) (rows : List RowEntry) (r : RoomValue) (l : RoomLife) (g : GoesOn schema rows r.sessions l) where
  -- what is recorded of an opening
  abbrev opening : List ℕ → RoomValue → List Entry
  opening fresh after = entry_if (not (has_conn r l.session) && has_conn after l.session) (Opened fresh)

  -- an opening that changes no session here
  refused : (fresh : List ℕ) (o : RoomOut) → given_by l.session o ≡ [] → StepsOn schema rows (r, o ∷ []) (opening fresh r) l
  refused fresh o given = quiet schema rows r.sessions (r, o ∷ []) (opening fresh r) l g g.session g.there refl (unopened (has_conn r l.session) (Opened fresh)) (ap (λ os. os ++ []) given)

  opened_on : (session fresh : List ℕ) (seats : Seats) (told : RoomOut) → ((q : List ℕ) → given_by q told ≡ []) → ((s : Session) → session_of r.sessions session ≡ Some s → is_at_rest s.stage ≡ true)
      → StepsOn schema rows (opened_by r session fresh told (Ok seats)) (opening fresh (opened_by r session fresh told (Ok seats)).0) l
  opened_on session fresh seats told given rests = by_name (bytes_eq session l.session) refl
    where
      after : RoomValue × List RoomOut
      after = opened_by r session fresh told (Ok seats)

      outs : (b : Bool) → bytes_eq session l.session ≡ b → flat_map (given_by l.session) after.1 ≡ cond b (Frame (join_frame fresh) ∷ []) [] ++ []
      outs b e = ap₂ (λ os b. os ++ (cond b (Frame (join_frame fresh) ∷ []) [] ++ [])) (given l.session) e

      by_name : (b : Bool) → bytes_eq session l.session ≡ b → StepsOn schema rows after (opening fresh after.0) l
      by_name true e =
          let same : session ≡ l.session = same_bytes session l.session e in
          let now : session_of after.0.sessions l.session ≡ Some (at_stage Joining g.session) =
          subst (λ n. session_of (change_session n (at_stage Joining) r.sessions) l.session ≡ Some (at_stage Joining g.session)) (sym same)
          (changed_here l.session (at_stage Joining) r.sessions g.session (λ s e. refl) g.there) in
          let rest : is_at_rest g.session.stage ≡ true = rests g.session (ap (session_of r.sessions) same ∙ g.there) in
          let closed : has_conn r l.session ≡ false = ap (is_at is_open) g.there ∙ rests_closed g.session.stage rest in
          let entries : opening fresh after.0 ≡ Opened fresh ∷ [] = ap₂ (λ b c. entry_if (not b && c) (Opened fresh)) closed (ap (is_at is_open) now) in
          goes_with schema rows after (opening fresh after.0) (Opened fresh ∷ []) (Frame (join_frame fresh) ∷ []) l (at_stage Joining g.session) now entries (outs true e)
          (fits_opened schema rows g.session.stage g.session fresh l.entries l.outputs l.view rest g.fits)
      by_name false e =
          let now : session_of after.0.sessions l.session ≡ Some g.session = changed_elsewhere session l.session (at_stage Joining) r.sessions g.session (λ s e. refl) e g.there in
          quiet schema rows r.sessions after (opening fresh after.0) l g g.session now refl
          (ap₂ (λ b c. entry_if (not b && c) (Opened fresh)) (ap (is_at is_open) g.there) (ap (is_at is_open) now) ∙ unopened (is_open g.session.stage) (Opened fresh)) (outs false e)

  pub enter_on : (session : List ℕ) (token : Option (List ℕ)) (fresh : List ℕ) → Placed r → StepsOn schema rows (after_enter r session token fresh) (opening fresh (after_enter r session token fresh).0) l
  enter_on session token fresh p =
      enter_cases (λ x. StepsOn schema rows x (opening fresh x.0) l) r session fresh token (refused fresh (out.TokenInUse session) refl) (refused fresh (out.NoSeat session) refl)
      (λ lapse at new. opened_on session fresh (seated r.seats session (seat.Taken fresh)) (out.Entered session) (λ q. refl) (rests_reserved r session lapse p at))
      (λ t lapse is at new. opened_on session fresh (seated r.seats session (seat.Taken fresh)) (out.Back session) (λ q. refl) (rests_kept r session t lapse p at))
