-- A lost connection, and what it makes of a life that goes on: its seat is kept, or it ends.
use Rattle.std.proofs.Common.{◌≡◌, ℕ, Bool, true, false, ◌&&◌, List, [], ◌∷◌, ◌++◌, Some, is_some, refl, sym, ap, subst, ◌∙◌}
use Rattle.std.specs.Str.{bytes_eq}
use Rattle.lists.proofs.SameBytes.{same_bytes}
use Rattle.schema_model.specs.Classes.{Schema}
use Rattle.state_model.specs.declared.row.RowEntry.{RowEntry}
use Rattle.state_model.specs.Shown.{shared}
use Rattle.room_model.specs.declared.event.RoomOut.{RoomOut}
use Rattle.room_model.specs.declared.event.RoomOut.TheVariants as out
use Rattle.room_model.specs.declared.event.Stage.{Stage}
use Rattle.room_model.specs.declared.event.Stage.TheVariants.{Reserved, Joining, Due, Live, Kept}
use Rattle.room_model.specs.Ledger.{keep}
use Rattle.room_model.specs.Sessions.{Session, session_of, change_session, is_connected, at_stage}
use Rattle.room_model.specs.Room.{RoomValue, accepted, dropped, after_loss, ended, with_seats, with_sessions}
use Rattle.life_model.specs.Entries.{Entry, Record, Dropped, Sending}
use Rattle.life_model.specs.Lives.{entry_if}
use Rattle.life_model.specs.Sent.{sent_for}
use Rattle.life_model.specs.RoomLives.{RoomLife, is_in, has_conn}
use Rattle.room_promises.proofs.GoodLives.{held, standing_at, Fits, GoesOn}
use Rattle.room_promises.proofs.EventCases.{loss_cases}
use Rattle.room_promises.proofs.LifeSteps.{recorded, goes_with, quiet, StepsGood, steps_good, ends_with, changed_here, changed_elsewhere, ended_own, ended_other, unheard, heard, overheard, one_session}

-- the record of a session whose seat is kept
fits_dropped : (own schema : Schema) (rows : List RowEntry) (st : Stage) (s : Session) (entries : Record) (outputs : List Sending) (view : List RowEntry) → is_connected st ≡ true
    → Fits schema rows (held (at_stage st s)) entries outputs view → Fits schema rows (held (dropped own s)) (entries ++ Dropped true ∷ []) (outputs ++ []) view
fits_dropped own schema rows Reserved s entries outputs view h f = cc
fits_dropped own schema rows Joining s entries outputs view h f = record { progress = recorded schema entries (Dropped true) _ f.progress; queue = refl; sees = tt }
fits_dropped own schema rows Due s entries outputs view h f = record { progress = recorded schema entries (Dropped true) _ f.progress; queue = refl; sees = tt }
fits_dropped own schema rows Live s entries outputs view h f = record { progress = recorded schema entries (Dropped true) _ f.progress; queue = refl; sees = tt }
fits_dropped own schema rows Kept s entries outputs view h f = cc

-- a record is sent nothing for a loss
loss_sent : (schema : Schema) (st : Stage) (queue : List (List ℕ)) (sh permitted : List RowEntry) (stays : Bool) → (sent_for schema (standing_at st queue sh permitted) (Dropped stays)).1 ≡ []
loss_sent schema Reserved queue sh permitted stays = refl
loss_sent schema Joining queue sh permitted stays = refl
loss_sent schema Due queue sh permitted stays = refl
loss_sent schema Live queue sh permitted stays = refl
loss_sent schema Kept queue sh permitted stays = refl

module _ (schema : Schema) (rows : List RowEntry) (r : RoomValue) (l : RoomLife) (g : GoesOn schema rows r.sessions l) (id : List ℕ) (now : ℕ) where
  -- what is recorded of it
  abbrev losing : RoomValue → List Entry
  losing after = entry_if (bytes_eq id l.session && has_conn r l.session) (Dropped (is_in after l.session))

  -- the room where the seat is kept
  abbrev keeping : ℕ → RoomValue × List RoomOut
  keeping lapse = (with_seats (with_sessions r (change_session id (dropped r.schema) r.sessions)) (accepted r.seats (keep r.seats id lapse)), out.Dropped id ∷ [])

  abbrev leaving : RoomValue × List RoomOut
  leaving = (ended r id, out.Left id ∷ [])

  drops : (s : Session) (lapse : ℕ) → session_of r.sessions id ≡ Some s → is_connected s.stage ≡ true → (b : Bool) → bytes_eq id l.session ≡ b → StepsGood schema rows (keeping lapse) (losing (keeping lapse).0) l
  drops s lapse found is true e =
      let one : s ≡ g.session = one_session r.sessions id l.session s g.session e found g.there in
      let there : session_of (keeping lapse).0.sessions l.session ≡ Some (dropped r.schema g.session) =
      subst (λ n. session_of (change_session n (dropped r.schema) r.sessions) l.session ≡ Some (dropped r.schema g.session)) (sym (same_bytes id l.session e))
      (changed_here l.session (dropped r.schema) r.sessions g.session (λ s e. refl) g.there) in
      let entries : losing (keeping lapse).0 ≡ Dropped true ∷ [] = heard r id l.session s (Dropped (is_in (keeping lapse).0 l.session)) e found is ∙ ap (λ o. Dropped (is_some o) ∷ []) there in
      steps_good schema rows (keeping lapse) (losing (keeping lapse).0) l
      (goes_with schema rows (keeping lapse) (losing (keeping lapse).0) (Dropped true ∷ []) [] l (dropped r.schema g.session) there entries refl
      (fits_dropped r.schema schema rows g.session.stage g.session l.entries l.outputs l.view (subst (λ (s : Session). is_connected s.stage ≡ true) one is) g.fits))
  drops s lapse found is false e =
      steps_good schema rows (keeping lapse) (losing (keeping lapse).0) l
      (quiet schema rows r.sessions (keeping lapse) (losing (keeping lapse).0) l g g.session (changed_elsewhere id l.session (dropped r.schema) r.sessions g.session (λ s e. refl) e g.there) refl
      (overheard r id l.session (Dropped (is_in (keeping lapse).0 l.session)) e) refl)

  leaves : (s : Session) → session_of r.sessions id ≡ Some s → is_connected s.stage ≡ true → (b : Bool) → bytes_eq id l.session ≡ b → StepsGood schema rows leaving (losing leaving.0) l
  leaves s found is true e =
      ends_with schema rows r.sessions leaving (losing leaving.0) (Dropped (is_in leaving.0 l.session)) [] l g (ended_own r id l.session e) (heard r id l.session s (Dropped (is_in leaving.0 l.session)) e found is) refl
      (loss_sent schema g.session.stage g.session.queue (shared schema rows) g.session.permitted (is_in leaving.0 l.session))
  leaves s found is false e =
      steps_good schema rows leaving (losing leaving.0) l
      (quiet schema rows r.sessions leaving (losing leaving.0) l g g.session (ended_other r id l.session g.session e g.there) refl (overheard r id l.session (Dropped (is_in leaving.0 l.session)) e) refl)

  pub loss_on : StepsGood schema rows (after_loss r id now) (losing (after_loss r id now).0) l
  loss_on =
      loss_cases (λ x. StepsGood schema rows x (losing x.0) l) r id now
      (λ off. steps_good schema rows (r, []) (losing r) l (quiet schema rows r.sessions (r, []) (losing r) l g g.session g.there refl (unheard r id l.session (Dropped (is_in r l.session)) off) refl))
      (λ s lapse found is. drops s lapse found is (bytes_eq id l.session) refl) (λ s found is. leaves s found is (bytes_eq id l.session) refl)
