-- An act on one session, and what it makes of a life that goes on.
use Rattle.std.proofs.Common.{◌≡◌, ℕ, true, false, List, [], ◌∷◌, ◌++◌, Some, Result, Ok, Err, refl, sym, ap, subst, ◌∙◌}
use Rattle.std.specs.List.{flat_map}
use Rattle.std.specs.Option.{option_map}
use Rattle.std.specs.Str.{bytes_eq}
use Rattle.lists.proofs.SameBytes.{same_bytes}
use Rattle.schema_model.specs.Classes.{Schema}
use Rattle.state_model.specs.declared.row.RowEntry.{RowEntry}
use Rattle.room_model.specs.declared.event.RoomOut.TheVariants as out
use Rattle.room_model.specs.declared.refusal.Refusal.{Refusal}
use Rattle.room_model.specs.Sessions.{Session, Acted, session_of, change_session}
use Rattle.room_model.specs.Room.{RoomValue, acted_on, on_session, with_sessions, session_after, outs_after}
use Rattle.room_laws.proofs.PlacedSteps.{Stays}
use Rattle.room_laws.proofs.SessionLists.{named_key}
use Rattle.life_model.specs.Entries.{Entry, Sending}
use Rattle.life_model.specs.RoomLives.{RoomLife, given_by}
use Rattle.room_promises.proofs.GoodLives.{held, Fits, GoesOn}
use Rattle.room_promises.proofs.EventCases.{acted_cases}
use Rattle.room_promises.proofs.LifeSteps.{StepsOn, goes_with, quiet, changed_here, changed_elsewhere}

module _ (schema : Schema) (rows : List RowEntry) (r : RoomValue) (l : RoomLife) (g : GoesOn schema rows r.sessions l) (id : List ℕ) where
  -- the session that it makes has the name of the act
  keeps : (s : Session) (a : Acted) → s.id ≡ id → a.session.id ≡ s.id → (t : Session) → bytes_eq t.id id ≡ true → a.session.id ≡ t.id
  keeps s a name same t e = same ∙ (name ∙ sym (same_bytes t.id id e))

  -- ---- on its own session

  answered_own : (x : Result Acted Refusal) (es : List Entry) (os : List Sending) → id ≡ l.session → Stays g.session x → flat_map (given_by l.session) (outs_after x) ≡ os
      → Fits schema rows (held (session_after g.session x)) (l.entries ++ es) (l.outputs ++ os) l.view → StepsOn schema rows (acted_on r id (Some x)) es l
  answered_own (Err f) es os own stays given fits = goes_with schema rows (r, out.Refused f ∷ []) es es os l g.session g.there refl given fits
  answered_own (Ok a) es os own stays given fits =
      let there : session_of r.sessions id ≡ Some g.session = ap (session_of r.sessions) own ∙ g.there in
      let name : g.session.id ≡ id = named_key (λ (s : Session). s.id) id r.sessions g.session there in
      let now : session_of (change_session id (λ t. a.session) r.sessions) id ≡ Some a.session = changed_here id (λ t. a.session) r.sessions g.session (keeps g.session a name stays.0) there in
      goes_with schema rows (with_sessions r (change_session id (λ t. a.session) r.sessions), a.outs) es es os l a.session
      (ap (session_of (change_session id (λ t. a.session) r.sessions)) (sym own) ∙ now) refl given fits

  pub acted_own : (does : Session → Result Acted Refusal) (es : List Entry) (os : List Sending) → bytes_eq id l.session ≡ true → Stays g.session (does g.session)
      → flat_map (given_by l.session) (outs_after (does g.session)) ≡ os → Fits schema rows (held (session_after g.session (does g.session))) (l.entries ++ es) (l.outputs ++ os) l.view
      → StepsOn schema rows (on_session r id does) es l
  acted_own does es os is stays given fits =
      let own : id ≡ l.session = same_bytes id l.session is in
      subst (λ o. StepsOn schema rows (acted_on r id (option_map does o)) es l) (sym (ap (session_of r.sessions) own ∙ g.there)) (answered_own (does g.session) es os own stays given fits)

  -- ---- on another one

  pub acted_other : (does : Session → Result Acted Refusal) → bytes_eq id l.session ≡ false → ((s : Session) → Stays s (does s))
      → ((s : Session) → s.id ≡ id → flat_map (given_by l.session) (outs_after (does s)) ≡ []) → StepsOn schema rows (on_session r id does) [] l
  acted_other does is stays given =
      acted_cases (λ x. StepsOn schema rows x [] l) r id does
      (λ f. quiet schema rows r.sessions (r, out.Refused f ∷ []) [] l g g.session g.there refl refl refl)
      (λ s a found made. changed s a made (named_key (λ (s : Session). s.id) id r.sessions s found))
    where
      changed : (s : Session) (a : Acted) → does s ≡ Ok a → s.id ≡ id → StepsOn schema rows (with_sessions r (change_session id (λ t. a.session) r.sessions), a.outs) [] l
      changed s a made name =
          let same : Stays s (Ok a) = subst (Stays s) made (stays s) in
          quiet schema rows r.sessions (with_sessions r (change_session id (λ t. a.session) r.sessions), a.outs) [] l g g.session
          (changed_elsewhere id l.session (λ t. a.session) r.sessions g.session (keeps s a name same.0) is g.there) refl refl
          (subst (λ x. flat_map (given_by l.session) (outs_after x) ≡ []) made (given s name))
