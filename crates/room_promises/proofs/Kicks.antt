-- A kick, and what it makes of a life that goes on.
use Rattle.std.proofs.Common.{◌≡◌, ℕ, Bool, true, false, cond, List, [], ◌∷◌, ◌++◌, Some, None, refl, sym, ap, ◌∙◌}
use Rattle.std.specs.List.{flat_map}
use Rattle.std.specs.Str.{bytes_eq}
use Rattle.lists.proofs.SameBytes.{same_bytes}
use Rattle.schema_model.specs.Classes.{Schema}
use Rattle.state_model.specs.declared.row.RowEntry.{RowEntry}
use Rattle.state_model.specs.Shown.{shared}
use Rattle.room_model.specs.declared.event.RoomOut.{RoomOut}
use Rattle.room_model.specs.declared.event.RoomOut.TheVariants as out
use Rattle.room_model.specs.declared.event.Stage.{Stage}
use Rattle.room_model.specs.declared.event.Stage.TheVariants.{Reserved, Joining, Due, Live, Kept}
use Rattle.room_model.specs.declared.refusal.Refusal.{Refusal}
use Rattle.room_model.specs.Sessions.{Session, session_of, is_connected}
use Rattle.room_model.specs.Room.{RoomValue, after_kick, ended}
use Rattle.life_model.specs.Entries.{Entry, Kicked, Closing}
use Rattle.life_model.specs.Lives.{entry_if}
use Rattle.life_model.specs.Sent.{sent_for}
use Rattle.life_model.specs.RoomLives.{RoomLife, given_by}
use Rattle.room_promises.proofs.GoodLives.{standing_at, GoesOn}
use Rattle.room_promises.proofs.EventCases.{kick_cases}
use Rattle.room_promises.proofs.LifeSteps.{quiet, StepsGood, steps_good, ends_with, ended_own, ended_other, one_session}

-- what a record is sent for a kick
kick_sent : (schema : Schema) (st : Stage) (queue : List (List ℕ)) (sh permitted : List RowEntry) (code : ℕ)
    → (sent_for schema (standing_at st queue sh permitted) (Kicked code)).1 ≡ cond (is_connected st) (Closing code ∷ []) []
kick_sent schema Reserved queue sh permitted code = refl
kick_sent schema Joining queue sh permitted code = refl
kick_sent schema Due queue sh permitted code = refl
kick_sent schema Live queue sh permitted code = refl
kick_sent schema Kept queue sh permitted code = refl

-- what a kick gives: a closing, where it is the session's own and has a connection
kick_given : (q id : List ℕ) (code : ℕ) (own there : Bool) → bytes_eq id q ≡ own
    → flat_map (given_by q) (cond there (out.Close id code ∷ out.Left id ∷ []) (out.Left id ∷ [])) ≡ cond own (cond there (Closing code ∷ []) []) []
kick_given q id code true true e = ap (λ b. cond b (Closing code ∷ []) [] ++ []) e
kick_given q id code true false e = refl
kick_given q id code false true e = ap (λ b. cond b (Closing code ∷ []) [] ++ []) e
kick_given q id code false false e = refl

module _ (schema : Schema) (rows : List RowEntry) (r : RoomValue) (l : RoomLife) (g : GoesOn schema rows r.sessions l) (id : List ℕ) (code : ℕ) where
  -- what is recorded of it
  abbrev kicking : List Entry
  kicking = entry_if (bytes_eq id l.session) (Kicked code)

  -- no session of a name is not that of the life
  refused : (f : Refusal) → session_of r.sessions id ≡ None → (b : Bool) → bytes_eq id l.session ≡ b → StepsGood schema rows (r, out.Refused f ∷ []) (entry_if b (Kicked code)) l
  refused f nobody true e = absurd (let both = sym nobody ∙ (ap (session_of r.sessions) (same_bytes id l.session e) ∙ g.there) in cc)
  refused f nobody false e = steps_good schema rows (r, out.Refused f ∷ []) [] l (quiet schema rows r.sessions (r, out.Refused f ∷ []) [] l g g.session g.there refl refl refl)

  -- the room without the session
  abbrev kicked : Session → RoomValue × List RoomOut
  kicked s = (ended r id, cond (is_connected s.stage) (out.Close id code ∷ out.Left id ∷ []) (out.Left id ∷ []))

  ends : (s : Session) → session_of r.sessions id ≡ Some s → (b : Bool) → bytes_eq id l.session ≡ b → StepsGood schema rows (kicked s) kicking l
  ends s found true e =
      let one : s ≡ g.session = one_session r.sessions id l.session s g.session e found g.there in
      ends_with schema rows r.sessions (kicked s) kicking (Kicked code) (cond (is_connected s.stage) (Closing code ∷ []) []) l g (ended_own r id l.session e) (ap (λ b. entry_if b (Kicked code)) e)
      (kick_given l.session id code true (is_connected s.stage) e)
      (kick_sent schema g.session.stage g.session.queue (shared schema rows) g.session.permitted code ∙ ap (λ (s : Session). cond (is_connected s.stage) (Closing code ∷ []) []) (sym one))
  ends s found false e =
      steps_good schema rows (kicked s) kicking l
      (quiet schema rows r.sessions (kicked s) kicking l g g.session (ended_other r id l.session g.session e g.there) refl (ap (λ b. entry_if b (Kicked code)) e)
      (kick_given l.session id code false (is_connected s.stage) e))

  pub kick_on : StepsGood schema rows (after_kick r code (session_of r.sessions id)) kicking l
  kick_on = kick_cases (λ x. StepsGood schema rows x kicking l) r id code (λ f nobody. refused f nobody (bytes_eq id l.session) refl) (λ s found. ends s found (bytes_eq id l.session) refl)
