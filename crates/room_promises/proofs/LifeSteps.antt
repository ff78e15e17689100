-- A life that goes on, over an event: nothing new of it, one entry more, or its end.
use Rattle.std.proofs.Common.{◌≡◌, ℕ, Bool, true, false, not, cond, ◌&&◌, List, [], ◌∷◌, ◌++◌, Option, Some, None, is_some, refl, sym, ap, subst, ◌∙◌, append-nil}
use Rattle.std.specs.List.{flat_map, fold}
use Rattle.std.specs.Option.{option_map}
use Rattle.std.specs.Str.{bytes_eq}
use Rattle.std.proofs.lemmas.List.Sums.{fold-append}
use Rattle.lists.proofs.SameBytes.{same_bytes, bytes_eq_self, bytes_eq_sym}
use Rattle.schema_model.specs.Classes.{Schema}
use Rattle.state_model.specs.declared.row.RowEntry.{RowEntry}
use Rattle.state_model.specs.Shown.{shared}
use Rattle.wire_model.specs.Decoded.{seen}
use Rattle.room_model.specs.declared.event.RoomOut.{RoomOut}
use Rattle.room_model.specs.declared.event.Stage.{Stage}
use Rattle.room_model.specs.declared.event.Stage.TheVariants as stage
use Rattle.room_model.specs.Sessions.{Session, session_of, change_session, is_connected}
use Rattle.room_model.specs.Room.{RoomValue, ended}
use Rattle.room_laws.proofs.SessionLists.{named_key, named_but, session_changed}
use Rattle.life_model.specs.Entries.{Entry, Record, Sending}
use Rattle.life_model.specs.Lives.{entry_if, is_at, is_open}
use Rattle.life_model.specs.LatestFrames.{with_sending, latest_frames}
use Rattle.life_model.specs.Sent.{Progress, progress_of, with_answer, after_entry, life_start, sent, sent_for}
use Rattle.life_model.specs.RoomLives.{RoomLife, is_in, has_conn, given_by}
use Rattle.room_promises.proofs.GoodLives.{Held, held, standing_at, SeesAt, Fits, GoesOn, GoodLife, good_life, with_more}

-- ---- records

-- a record with an entry more
pub recorded : (schema : Schema) (entries : Record) (e : Entry) (p : Progress) → progress_of schema entries ≡ p → progress_of schema (entries ++ e ∷ []) ≡ after_entry schema p e
recorded schema entries e p h = fold-append (after_entry schema) life_start entries (e ∷ []) ∙ ap (λ r. after_entry schema r e) h

-- nothing is recorded where a connection stays as it is
pub unopened : (b : Bool) (e : Entry) → entry_if (not b && b) e ≡ []
unopened true e = refl
unopened false e = refl

-- nothing more, and nothing else of the session
pub fits_still : (schema : Schema) (rows : List RowEntry) (h k : Held) (entries es : Record) (outputs os : List Sending) (view : List RowEntry) → Fits schema rows h entries outputs view
    → k ≡ h → es ≡ [] → os ≡ [] → Fits schema rows k (entries ++ es) (outputs ++ os) view
fits_still schema rows h k entries es outputs os view f same no_entry no_output =
    subst (λ h. Fits schema rows h (entries ++ es) (outputs ++ os) view) (sym same)
    (subst (λ e. Fits schema rows h e (outputs ++ os) view) (sym (ap (λ e. entries ++ e) no_entry ∙ append-nil entries))
    (subst (λ o. Fits schema rows h entries o view) (sym (ap (λ o. outputs ++ o) no_output ∙ append-nil outputs)) f))

-- sendings among which is no state frame
abbrev pub Pass : List Sending → Type 0
Pass os = (frames : List (List ℕ)) → fold with_sending frames os ≡ frames

-- what is seen stays as it is behind them
sees_still : (st : Stage) (schema : Schema) (rows : List RowEntry) (h : Held) (outputs os : List Sending) (view : List RowEntry) → Pass os → SeesAt st schema rows h outputs view → SeesAt st schema rows h (outputs ++ os) view
sees_still stage.Reserved schema rows h outputs os view pass s = tt
sees_still stage.Joining schema rows h outputs os view pass s = tt
sees_still stage.Due schema rows h outputs os view pass s = tt
sees_still stage.Live schema rows h outputs os view pass s = record {
  is_permitted = s.is_permitted;
  is_view = s.is_view;
  is_free = s.is_free;
  decodes = ap (seen schema) (fold-append with_sending [] outputs os ∙ pass (latest_frames outputs)) ∙ s.decodes;
}
sees_still stage.Kept schema rows h outputs os view pass s = tt

-- an entry more whose answer leaves the session as it is
pub fits_answered : (schema : Schema) (rows : List RowEntry) (h : Held) (entries : Record) (e : Entry) (outputs os : List Sending) (view : List RowEntry) → Fits schema rows h entries outputs view
    → sent_for schema (standing_at h.stage h.queue (shared schema rows) h.permitted) e ≡ (standing_at h.stage h.queue (shared schema rows) h.permitted, os) → Pass os
    → Fits schema rows h (entries ++ e ∷ []) (outputs ++ os) view
fits_answered schema rows h entries e outputs os view f answer pass = record {
  progress = recorded schema entries e _ f.progress ∙ ap (with_answer outputs) answer;
  queue = f.queue;
  sees = sees_still h.stage schema rows h outputs os view pass f.sees;
}

-- ---- a life

-- a life goes on in the room behind an event that gives so much, with these entries more
abbrev pub StepsOn : Schema → List RowEntry → RoomValue × List RoomOut → List Entry → RoomLife → Type 0
StepsOn schema rows x es l = GoesOn schema rows x.0.sessions (with_more l (is_in x.0 l.session) es (flat_map (given_by l.session) x.1) l.view)

-- an event with these entries and sendings more, behind which its session is this one
pub goes_with : (schema : Schema) (rows : List RowEntry) (x : RoomValue × List RoomOut) (es fs : List Entry) (os : List Sending) (l : RoomLife) (s : Session) → session_of x.0.sessions l.session ≡ Some s
    → es ≡ fs → flat_map (given_by l.session) x.1 ≡ os → Fits schema rows (held s) (l.entries ++ fs) (l.outputs ++ os) l.view → StepsOn schema rows x es l
goes_with schema rows x es fs os l s there same given f = record {
  session = s;
  there = there;
  fits =
      subst (λ es. Fits schema rows (held s) (l.entries ++ es) (l.outputs ++ flat_map (given_by l.session) x.1) l.view) (sym same)
      (subst (λ os. Fits schema rows (held s) (l.entries ++ fs) (l.outputs ++ os) l.view) (sym given) f);
}

-- an event that doesn't concern it
pub quiet : (schema : Schema) (rows : List RowEntry) (ss : List Session) (x : RoomValue × List RoomOut) (es : List Entry) (l : RoomLife) (g : GoesOn schema rows ss l) (s : Session)
    → session_of x.0.sessions l.session ≡ Some s → held s ≡ held g.session → es ≡ [] → flat_map (given_by l.session) x.1 ≡ [] → StepsOn schema rows x es l
quiet schema rows ss x es l g s there same no_entry no_output = record {
  session = s;
  there = there;
  fits = fits_still schema rows (held g.session) (held s) l.entries es l.outputs _ l.view g.fits same no_entry no_output;
}

-- a life behind an event, whether it goes on or has ended
abbrev pub StepsGood : Schema → List RowEntry → RoomValue × List RoomOut → List Entry → RoomLife → Type 0
StepsGood schema rows x es l = GoodLife schema rows x.0.sessions (with_more l (is_in x.0 l.session) es (flat_map (given_by l.session) x.1) l.view)

pub steps_good : (schema : Schema) (rows : List RowEntry) (x : RoomValue × List RoomOut) (es : List Entry) (l : RoomLife) → StepsOn schema rows x es l → StepsGood schema rows x es l
steps_good schema rows x es l on = good_life schema rows x.0.sessions (with_more l (is_in x.0 l.session) es (flat_map (given_by l.session) x.1) l.view) on

-- a life that ends with an entry was given what its record is sent
pub ends_with : (schema : Schema) (rows : List RowEntry) (ss : List Session) (x : RoomValue × List RoomOut) (es : List Entry) (e : Entry) (os : List Sending) (l : RoomLife) (g : GoesOn schema rows ss l)
    → session_of x.0.sessions l.session ≡ None → es ≡ e ∷ [] → flat_map (given_by l.session) x.1 ≡ os
    → (sent_for schema (standing_at g.session.stage g.session.queue (shared schema rows) g.session.permitted) e).1 ≡ os → StepsGood schema rows x es l
ends_with schema rows ss x es e os l g gone one given answer = record {
  equal =
      ap (λ os. l.outputs ++ os) (given ∙ sym answer)
      ∙ sym (ap (λ es. sent schema (l.entries ++ es)) one ∙ ap (λ (p : Progress). p.given) (recorded schema l.entries e _ g.fits.progress));
  goes_on = λ h. absurd (lost h);
}
  where
    lost : is_in x.0 l.session ≡ true → ⊥
    lost h = let never = sym (ap is_some gone) ∙ h in cc

-- ---- sessions of which one is changed

-- that one
pub changed_here : (q : List ℕ) (change : Session → Session) (ss : List Session) (s : Session) → ((s : Session) → bytes_eq s.id q ≡ true → (change s).id ≡ s.id)
    → session_of ss q ≡ Some s → session_of (change_session q change ss) q ≡ Some (change s)
changed_here q change ss s keeps there =
    let name : s.id ≡ q = named_key (λ (s : Session). s.id) q ss s there in
    session_changed q q change ss keeps ∙ (ap (option_map (λ (s : Session). cond (bytes_eq s.id q) (change s) s)) there
    ∙ ap (λ b. let t : Session = cond b (change s) s in Some t) (ap (λ n. bytes_eq n q) name ∙ bytes_eq_self q))

-- another one
pub changed_elsewhere : (id q : List ℕ) (change : Session → Session) (ss : List Session) (s : Session) → ((s : Session) → bytes_eq s.id id ≡ true → (change s).id ≡ s.id)
    → bytes_eq id q ≡ false → session_of ss q ≡ Some s → session_of (change_session id change ss) q ≡ Some s
changed_elsewhere id q change ss s keeps apart there =
    let name : s.id ≡ q = named_key (λ (s : Session). s.id) q ss s there in
    session_changed id q change ss keeps ∙ (ap (option_map (λ (s : Session). cond (bytes_eq s.id id) (change s) s)) there
    ∙ ap (λ b. let t : Session = cond b (change s) s in Some t) (ap (λ n. bytes_eq n id) name ∙ (bytes_eq_sym q id ∙ apart)))

-- ---- a room without a session that ended

pub ended_own : (r : RoomValue) (id q : List ℕ) → bytes_eq id q ≡ true → session_of (ended r id).sessions q ≡ None
ended_own r id q same = named_but (λ (s : Session). s.id) id q r.sessions ∙ ap (λ b. cond b None (session_of r.sessions q)) same

pub ended_other : (r : RoomValue) (id q : List ℕ) (s : Session) → bytes_eq id q ≡ false → session_of r.sessions q ≡ Some s → session_of (ended r id).sessions q ≡ Some s
ended_other r id q s apart there = named_but (λ (s : Session). s.id) id q r.sessions ∙ (ap (λ b. cond b None (session_of r.sessions q)) apart ∙ there)

-- ---- an event of a connection, of which an entry is recorded

pub open_connected : (st : Stage) → is_open st ≡ is_connected st
open_connected stage.Reserved = refl
open_connected stage.Joining = refl
open_connected stage.Due = refl
open_connected stage.Live = refl
open_connected stage.Kept = refl

open_at : (o : Option Session) → is_at is_open o ≡ is_at is_connected o
open_at None = refl
open_at (Some s) = open_connected s.stage

-- where the connection isn't there
pub unheard : (r : RoomValue) (id q : List ℕ) (e : Entry) → is_at is_connected (session_of r.sessions id) ≡ false → entry_if (bytes_eq id q && has_conn r q) e ≡ []
unheard r id q e closed = go (bytes_eq id q) refl
  where
    go : (b : Bool) → bytes_eq id q ≡ b → entry_if (b && has_conn r q) e ≡ []
    go true is = ap (λ b. entry_if b e) (ap (has_conn r) (sym (same_bytes id q is)) ∙ (open_at (session_of r.sessions id) ∙ closed))
    go false is = refl

-- where it is the session's own
pub heard : (r : RoomValue) (id q : List ℕ) (s : Session) (e : Entry) → bytes_eq id q ≡ true → session_of r.sessions id ≡ Some s → is_connected s.stage ≡ true → entry_if (bytes_eq id q && has_conn r q) e ≡ e ∷ []
heard r id q s e is found connected =
    ap (λ b. entry_if (b && has_conn r q) e) is
    ∙ ap (λ b. entry_if b e) (ap (has_conn r) (sym (same_bytes id q is)) ∙ (ap (is_at is_open) found ∙ (open_connected s.stage ∙ connected)))

-- where it is another's
pub overheard : (r : RoomValue) (id q : List ℕ) (e : Entry) → bytes_eq id q ≡ false → entry_if (bytes_eq id q && has_conn r q) e ≡ []
overheard r id q e apart = ap (λ b. entry_if (b && has_conn r q) e) apart

-- the session of the life
pub one_session : (ss : List Session) (id q : List ℕ) (s t : Session) → bytes_eq id q ≡ true → session_of ss id ≡ Some s → session_of ss q ≡ Some t → s ≡ t
one_session ss id q s t is found there =
    let same : Some s ≡ Some t = sym found ∙ (ap (session_of ss) (same_bytes id q is) ∙ there) in
    cc
