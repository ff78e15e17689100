-- A client that stands at a place: it is the one of its session, and what becomes of the sessions where it changes or goes.
use Rattle.std.proofs.Common.{◌≡◌, ℕ, zero, suc, Bool, true, false, not, cond, List, [], ◌∷◌, map, set, remove, Option, Some, None, is_some, get_or, refl, sym, ap, subst, ◌∙◌}
use Rattle.std.specs.Prelude.{slice_get}
use Rattle.std.proofs.lemmas.List.{set-get_or}
use Rattle.std.proofs.lemmas.Option.{get_or_from_slice_get}
use Rattle.std.specs.List.{find}
use Rattle.std.specs.Str.{bytes_eq}
use Rattle.lists.proofs.SameBytes.{same_bytes, bytes_eq_self}
use Rattle.lists.proofs.Options.{none_there, same_some}
use Rattle.room_model.specs.declared.seat.SeatEntry.{SeatEntry}
use Rattle.room_model.specs.Sessions.{Session, session_of, change_session, sessions_but}
use Rattle.room_laws.specs.Placed.{AreDistinct, entry_tells}
use Rattle.room_laws.proofs.AlikeLists.{Alike, first_alike, rest_alike}
use Rattle.seat_ledger.specs.Calls.{StandsAt}
use Rattle.room_core.specs.declared.client.Client.{Client}
use Rattle.room_core.specs.Clients.{IsClientOf, IsClientAt, TellTheSame, client_tells}
use Rattle.room_core.specs.Values.{session_of_client}

-- the sessions of clients
abbrev pub sessions : List Client → List Session
sessions cs = map session_of_client cs

-- ---- names that are not there

-- where no session has a name, none is changed by it
none_changed : (id : List ℕ) (g : Session → Session) (ss : List Session) → session_of ss id ≡ None → change_session id g ss ≡ ss
none_changed id g [] none = refl
none_changed id g (s ∷ ss) none =
    let go : (b : Bool) → cond b (Some s) (session_of ss id) ≡ None → cond b (g s) s ∷ change_session id g ss ≡ s ∷ ss = elim [
      | true ↦ λ h. absurd (cc)
      | false ↦ λ h. ap (λ xs. s ∷ xs) (none_changed id g ss h)
    ] in go (bytes_eq s.id id) none

-- and none goes
none_gone : (id : List ℕ) (ss : List Session) → session_of ss id ≡ None → sessions_but id ss ≡ ss
none_gone id [] none = refl
none_gone id (s ∷ ss) none =
    let go : (b : Bool) → cond b (Some s) (session_of ss id) ≡ None → cond (not b) (s ∷ sessions_but id ss) (sessions_but id ss) ≡ s ∷ ss = elim [
      | true ↦ λ h. absurd (cc)
      | false ↦ λ h. ap (λ xs. s ∷ xs) (none_gone id ss h)
    ] in go (bytes_eq s.id id) none

-- ---- a client at a place

module _ (id : List ℕ) where
  -- it is the one of its session
  pub named_there : (cs : List Client) (at : ℕ) (c : Client) → AreDistinct (sessions cs) → slice_get cs at ≡ Some c → c.id ≡ id → session_of (sessions cs) id ≡ Some (session_of_client c)
  named_there [] at c distinct there name = absurd (cc)
  named_there (x ∷ xs) zero c distinct there name =
      let same : x ≡ c = same_some x c there in
      let own : bytes_eq x.id id ≡ true = ap (λ (y : Client). bytes_eq y.id id) same ∙ (ap (λ n. bytes_eq n id) name ∙ bytes_eq_self id) in
      ap (λ b. cond b (Some (session_of_client x)) (session_of (sessions xs) id)) own ∙ ap (λ (y : Client). Some (session_of_client y)) same
  named_there (x ∷ xs) (suc n) c distinct there name =
      let later = named_there xs n c distinct.1 there name in
      let go : (b : Bool) → bytes_eq x.id id ≡ b → cond b (Some (session_of_client x)) (session_of (sessions xs) id) ≡ Some (session_of_client c) = elim [
        | true ↦ λ e. absurd (let none : session_of (sessions xs) id ≡ None = subst (λ n. session_of (sessions xs) n ≡ None) (same_bytes x.id id e) distinct.0 in cc)
        | false ↦ λ e. later
      ] in go (bytes_eq x.id id) refl

  -- a client before it has another name
  before : (x : Client) (xs : List Client) (n : ℕ) (c : Client) → AreDistinct (sessions (x ∷ xs)) → slice_get xs n ≡ Some c → c.id ≡ id → bytes_eq x.id id ≡ false
  before x xs n c distinct there name =
      let later = named_there xs n c distinct.1 there name in
      let go : (b : Bool) → bytes_eq x.id id ≡ b → b ≡ false = elim [
        | true ↦ λ e. absurd (let none : session_of (sessions xs) id ≡ None = subst (λ n. session_of (sessions xs) n ≡ None) (same_bytes x.id id e) distinct.0 in cc)
        | false ↦ λ e. refl
      ] in go (bytes_eq x.id id) refl

  -- the first one has its name, and the others don't
  first_own : (x : Client) (xs : List Client) (c : Client) → AreDistinct (sessions (x ∷ xs)) → Some x ≡ Some c → c.id ≡ id → (bytes_eq x.id id ≡ true) × (session_of (sessions xs) id ≡ None)
  first_own x xs c distinct there name =
      let same : x.id ≡ id = ap (λ (y : Client). y.id) (same_some x c there) ∙ name in
      (ap (λ n. bytes_eq n id) same ∙ bytes_eq_self id, subst (λ n. session_of (sessions xs) n ≡ None) same distinct.0)

  -- where it changes its session does
  pub changed_there : (g : Session → Session) (cs : List Client) (at : ℕ) (c d : Client) → AreDistinct (sessions cs) → slice_get cs at ≡ Some c → c.id ≡ id → session_of_client d ≡ g (session_of_client c)
      → sessions (set cs at d) ≡ change_session id g (sessions cs)
  changed_there g [] at c d distinct there name is = absurd (cc)
  changed_there g (x ∷ xs) zero c d distinct there name is =
      let own = first_own x xs c distinct there name in
      let head : session_of_client d ≡ cond (bytes_eq x.id id) (g (session_of_client x)) (session_of_client x) =
      is ∙ (ap (λ (y : Client). g (session_of_client y)) (sym (same_some x c there)) ∙ sym (ap (λ b. cond b (g (session_of_client x)) (session_of_client x)) own.0)) in
      ap (λ s. s ∷ sessions xs) head ∙ ap (λ ss. cond (bytes_eq x.id id) (g (session_of_client x)) (session_of_client x) ∷ ss) (sym (none_changed id g (sessions xs) own.1))
  changed_there g (x ∷ xs) (suc n) c d distinct there name is =
      let other = before x xs n c distinct there name in
      ap (λ ss. session_of_client x ∷ ss) (changed_there g xs n c d distinct.1 there name is)
      ∙ ap (λ b. cond b (g (session_of_client x)) (session_of_client x) ∷ change_session id g (sessions xs)) (sym other)

  -- where it goes its session does
  pub gone_there : (cs : List Client) (at : ℕ) (c : Client) → AreDistinct (sessions cs) → slice_get cs at ≡ Some c → c.id ≡ id → sessions (remove cs at) ≡ sessions_but id (sessions cs)
  gone_there [] at c distinct there name = absurd (cc)
  gone_there (x ∷ xs) zero c distinct there name =
      let own = first_own x xs c distinct there name in
      sym (none_gone id (sessions xs) own.1) ∙ sym (ap (λ b. cond (not b) (session_of_client x ∷ sessions_but id (sessions xs)) (sessions_but id (sessions xs))) own.0)
  gone_there (x ∷ xs) (suc n) c distinct there name =
      let other = before x xs n c distinct there name in
      ap (λ ss. session_of_client x ∷ ss) (gone_there xs n c distinct.1 there name)
      ∙ sym (ap (λ b. cond (not b) (session_of_client x ∷ sessions_but id (sessions xs)) (sessions_but id (sessions xs))) other)

  -- one that is read there is the one that stands there
  pub as_read : (cs : List Client) (at : ℕ) (d : Client) → IsClientOf id cs at → d ≡ get_or cs at d → (slice_get cs at ≡ Some d) × (d.id ≡ id)
  as_read cs at d is read =
      let same : d ≡ is.0 = read ∙ get_or_from_slice_get cs at is.0 d is.1 in
      (is.1 ∙ ap Some (sym same), ap (λ (x : Client). x.id) same ∙ is.2)

  -- there is one where the session is
  pub has_place : (cs : List Client) (o : Option ℕ) → AreDistinct (sessions cs) → IsClientAt id cs o → is_some o ≡ is_some (session_of (sessions cs) id)
  has_place cs None distinct gone = sym (ap is_some gone)
  has_place cs (Some at) distinct own = sym (ap is_some (named_there cs at own.0 distinct own.1 own.2))

-- what was there stays where it is put again
pub set_same : (cs : List Client) (at : ℕ) (c : Client) → slice_get cs at ≡ Some c → set cs at c ≡ cs
set_same cs at c there = ap (set cs at) (sym (get_or_from_slice_get cs at c c there)) ∙ set-get_or cs at c

-- what is read off all, where one changes of which the same is read
pub same_set : {X : Type 0} (f : Client → X) (cs : List Client) (at : ℕ) (c d : Client) → slice_get cs at ≡ Some c → f d ≡ f c → map f (set cs at d) ≡ map f cs
same_set f [] at c d there same = refl
same_set f (x ∷ xs) zero c d there same = ap (λ t. t ∷ map f xs) (same ∙ ap f (sym (same_some x c there)))
same_set f (x ∷ xs) (suc n) c d there same = ap (λ ts. f x ∷ ts) (same_set f xs n c d there same)

-- so it is with what they tell
pub told_set : (cs : List Client) (at : ℕ) (c d : Client) → slice_get cs at ≡ Some c → client_tells d ≡ client_tells c → TellTheSame (set cs at d) cs
told_set = same_set client_tells

-- ---- clients stand as the entries of places

-- where an entry stands a client does that tells the same
pub alike_there : (es : List SeatEntry) (cs : List Client) (at : ℕ) (e : SeatEntry) → Alike es (sessions cs) → slice_get es at ≡ Some e → (c : Client) × (slice_get cs at ≡ Some c) × (entry_tells e ≡ client_tells c)
alike_there [] cs at e h there = absurd (cc)
alike_there (x ∷ xs) [] at e h there = absurd (cc)
alike_there (x ∷ xs) (c ∷ cs) zero e h there = (c, refl, ap entry_tells (sym (same_some x e there)) ∙ first_alike x (session_of_client c) xs (sessions cs) h)
alike_there (x ∷ xs) (c ∷ cs) (suc n) e h there = alike_there xs cs n e (rest_alike x (session_of_client c) xs (sessions cs) h) there

-- an entry has a name where a session does
pub same_there : (q : List ℕ) (es : List SeatEntry) (ss : List Session) → Alike es ss → is_some (find (λ (e : SeatEntry). bytes_eq e.session q) es) ≡ is_some (session_of ss q)
same_there q [] [] h = refl
same_there q [] (s ∷ ss) h = absurd (cc)
same_there q (e ∷ es) [] h = absurd (cc)
same_there q (e ∷ es) (s ∷ ss) h =
    let name : e.session ≡ s.id = ap (λ x. x.0) (first_alike e s es ss h) in
    let go : (b : Bool) → is_some (cond b (Some e) (find (λ (e : SeatEntry). bytes_eq e.session q) es)) ≡ is_some (cond b (Some s) (session_of ss q)) = elim [
      | true ↦ refl
      | false ↦ same_there q es ss (rest_alike e s es ss h)
    ] in
    ap (λ n. is_some (cond (bytes_eq n q) (Some e) (find (λ (e : SeatEntry). bytes_eq e.session q) es))) name ∙ go (bytes_eq s.id q)

pub client_place : (q : List ℕ) (es : List SeatEntry) (cs : List Client) (o : Option ℕ) → Alike es (sessions cs) → StandsAt q es o → IsClientAt q cs o
client_place q es cs None h none = none_there (session_of (sessions cs) q) (sym (same_there q es (sessions cs) h) ∙ ap is_some none)
client_place q es cs (Some at) h there =
    let found = alike_there es cs at there.0 h there.1 in
    (found.0, found.1, sym (ap (λ x. x.0) found.2) ∙ there.2)
