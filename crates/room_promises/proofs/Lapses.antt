-- A moment, and what it makes of a life that goes on: its reservation or its kept seat lapses, or it isn't concerned.
use Rattle.std.proofs.Common.{◌≡◌, ℕ, Bool, true, false, not, cond, ◌||◌, List, [], ◌∷◌, ◌++◌, Option, Some, None, is_some, refl, ap, ◌∙◌}
use Rattle.std.specs.List.{flat_map}
use Rattle.std.specs.Str.{bytes_eq}
use Rattle.std.proofs.lemmas.Grind.{flat_map-append}
use Rattle.schema_model.specs.Classes.{Schema}
use Rattle.state_model.specs.declared.row.RowEntry.{RowEntry}
use Rattle.state_model.specs.Shown.{shared}
use Rattle.room_model.specs.declared.event.RoomOut.{RoomOut}
use Rattle.room_model.specs.declared.event.RoomOut.TheVariants as out
use Rattle.room_model.specs.declared.event.Stage.{Stage}
use Rattle.room_model.specs.declared.event.Stage.TheVariants.{Reserved, Joining, Due, Live, Kept}
use Rattle.room_model.specs.Seats.{Seats, seat_of, is_kept_seat}
use Rattle.room_model.specs.Sessions.{Session, session_of}
use Rattle.room_model.specs.Room.{RoomValue, after_moment, ended, lapse_outs}
use Rattle.room_laws.proofs.SessionLists.{named_but}
use Rattle.life_model.specs.Entries.{Entry, Lapsed}
use Rattle.life_model.specs.Lives.{entry_if}
use Rattle.life_model.specs.Sent.{sent_for}
use Rattle.life_model.specs.RoomLives.{RoomLife, is_in, given_by}
use Rattle.room_promises.proofs.GoodLives.{standing_at, GoesOn}
use Rattle.room_promises.proofs.EventCases.{moment_cases}
use Rattle.room_promises.proofs.LifeSteps.{quiet, StepsGood, steps_good, ends_with}

-- a record is sent nothing for a lapse
lapse_sent : (schema : Schema) (st : Stage) (queue : List (List ℕ)) (sh permitted : List RowEntry) → (sent_for schema (standing_at st queue sh permitted) Lapsed).1 ≡ []
lapse_sent schema Reserved queue sh permitted = refl
lapse_sent schema Joining queue sh permitted = refl
lapse_sent schema Due queue sh permitted = refl
lapse_sent schema Live queue sh permitted = refl
lapse_sent schema Kept queue sh permitted = refl

-- what lapsed so far, as a session sees it: it is there as before, or gone, and is given nothing
record Lapses (r : RoomValue) (q : List ℕ) (x : RoomValue × List RoomOut) : Type 0 where
  gone : Bool
  is : session_of x.0.sessions q ≡ cond gone None (session_of r.sessions q)
  silent : flat_map (given_by q) x.1 ≡ []

none_given : (q session : List ℕ) (seats : Seats) → flat_map (given_by q) (lapse_outs seats session) ≡ []
none_given q session seats =
    let go : (b : Bool) → flat_map (given_by q) (cond b (out.Left session ∷ []) []) ≡ [] = elim [ true ↦ refl | false ↦ refl ] in
    go (is_kept_seat (seat_of seats session))

either_gone : (b c : Bool) (o : Option Session) → cond b None (cond c None o) ≡ cond (b || c) None o
either_gone true c o = refl
either_gone false c o = refl

lapses_more : (r : RoomValue) (q : List ℕ) (x : RoomValue × List RoomOut) (id : List ℕ) → Lapses r q x → Lapses r q (ended x.0 id, x.1 ++ lapse_outs x.0.seats id)
lapses_more r q x id h = record {
  gone = bytes_eq id q || h.gone;
  is =
      named_but (λ (s : Session). s.id) id q x.0.sessions
      ∙ (ap (λ o. cond (bytes_eq id q) None o) h.is ∙ either_gone (bytes_eq id q) h.gone (session_of r.sessions q));
  silent =
      flat_map-append (given_by q) x.1 (lapse_outs x.0.seats id)
      ∙ (ap (λ os. os ++ flat_map (given_by q) (lapse_outs x.0.seats id)) h.silent ∙ none_given q id x.0.seats);
}

module _ (schema : Schema) (rows : List RowEntry) (r : RoomValue) (l : RoomLife) (g : GoesOn schema rows r.sessions l) where
  -- what is recorded of it
  abbrev lapsing : RoomValue → List Entry
  lapsing after = entry_if (not (is_in after l.session)) Lapsed

  lapsed_on : (x : RoomValue × List RoomOut) (b : Bool) → session_of x.0.sessions l.session ≡ cond b None (session_of r.sessions l.session) → flat_map (given_by l.session) x.1 ≡ [] → StepsGood schema rows x (lapsing x.0) l
  lapsed_on x true is silent =
      ends_with schema rows r.sessions x (lapsing x.0) Lapsed [] l g is (ap (λ o. entry_if (not (is_some o)) Lapsed) is) silent
      (lapse_sent schema g.session.stage g.session.queue (shared schema rows) g.session.permitted)
  lapsed_on x false is silent =
      let there : session_of x.0.sessions l.session ≡ Some g.session = is ∙ g.there in
      steps_good schema rows x (lapsing x.0) l (quiet schema rows r.sessions x (lapsing x.0) l g g.session there refl (ap (λ o. entry_if (not (is_some o)) Lapsed) there) silent)

  pub moment_on : (now : ℕ) → StepsGood schema rows (after_moment r now) (lapsing (after_moment r now).0) l
  moment_on now =
      let all : Lapses r l.session (after_moment r now) =
      moment_cases (Lapses r l.session) r now (record { gone = false; is = refl; silent = refl }) (λ x id h. lapses_more r l.session x id h) in
      lapsed_on (after_moment r now) all.gone all.is all.silent
