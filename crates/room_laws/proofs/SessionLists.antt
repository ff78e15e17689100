-- Lists that are looked up by a name: sessions that are changed, added and taken out, and the entries of places.
use Rattle.std.proofs.Common.{◌≡◌, ℕ, Bool, true, false, not, cond, ◌||◌, List, [], ◌∷◌, ◌++◌, map, filter, Option, Some, None, is_some, refl, sym, ap, subst, ◌∙◌}
use Rattle.std.specs.List.{find, list_any}
use Rattle.std.specs.Option.{option_map, option_or}
use Rattle.std.specs.Str.{bytes_eq}
use Rattle.lists.proofs.SameBytes.{same_bytes, bytes_eq_sym}
use Rattle.room_model.specs.Sessions.{Session, session_of, change_session, sessions_but}
use Rattle.room_laws.specs.Placed.{AreDistinct}

module _ {X : Type 0} (name : X → List ℕ) where
  -- what has a name
  abbrev pub named : List ℕ → List X → Option X
  named q xs = find (λ x. bytes_eq (name x) q) xs

  pub named_key : (q : List ℕ) (xs : List X) (x : X) → named q xs ≡ Some x → name x ≡ q
  named_key q [] x h = cc
  named_key q (y ∷ ys) x h =
      let go : (b : Bool) → bytes_eq (name y) q ≡ b → cond b (Some y) (named q ys) ≡ Some x → name x ≡ q = elim [
        | true ↦ λ e h. (let same : y ≡ x = cc in subst (λ z. name z ≡ q) same (same_bytes (name y) q e))
        | false ↦ λ e h. named_key q ys x h
      ] in go (bytes_eq (name y) q) refl h

  pub any_named : (q : List ℕ) (xs : List X) → list_any (λ x. bytes_eq (name x) q) xs ≡ is_some (named q xs)
  any_named q [] = refl
  any_named q (x ∷ xs) =
      let go : (b : Bool) → (b || list_any (λ x. bytes_eq (name x) q) xs) ≡ is_some (cond b (Some x) (named q xs)) = elim [ true ↦ refl | false ↦ any_named q xs ] in
      go (bytes_eq (name x) q)

  -- without those of a name
  pub named_but : (id q : List ℕ) (xs : List X) → named q (filter (λ x. not (bytes_eq (name x) id)) xs) ≡ cond (bytes_eq id q) None (named q xs)
  named_but id q [] = (let none : Option X = None in let go : (b : Bool) → none ≡ cond b none none = elim [ true ↦ refl | false ↦ refl ] in go (bytes_eq id q))
  named_but id q (x ∷ xs) =
      let go : (a b : Bool) → bytes_eq (name x) id ≡ a → bytes_eq (name x) q ≡ b
      → named q (cond (not a) (x ∷ filter (λ x. not (bytes_eq (name x) id)) xs) (filter (λ x. not (bytes_eq (name x) id)) xs)) ≡ cond (bytes_eq id q) None (cond b (Some x) (named q xs)) = elim [
        | true ↦ elim [
          | true ↦ λ is_id is_q. (let same : bytes_eq id q ≡ true = subst (λ n. bytes_eq n q ≡ true) (same_bytes (name x) id is_id) is_q in
              named_but id q xs ∙ (ap (λ c. cond c None (named q xs)) same ∙ sym (ap (λ c. cond c None (Some x)) same)))
          | false ↦ λ is_id is_q. named_but id q xs
        ]
        | false ↦ elim [
          | true ↦ λ is_id is_q. (let apart : bytes_eq id q ≡ false = bytes_eq_sym id q ∙ subst (λ n. bytes_eq n id ≡ false) (same_bytes (name x) q is_q) is_id in
              ap (λ c. cond c (Some x) (named q (filter (λ x. not (bytes_eq (name x) id)) xs))) is_q ∙ sym (ap (λ c. cond c None (Some x)) apart))
          | false ↦ λ is_id is_q. ap (λ c. cond c (Some x) (named q (filter (λ x. not (bytes_eq (name x) id)) xs))) is_q ∙ named_but id q xs
        ]
      ] in go (bytes_eq (name x) id) (bytes_eq (name x) q) refl refl

  -- with one more behind
  pub named_more : (q : List ℕ) (xs : List X) (x : X) → named q (xs ++ x ∷ []) ≡ option_or (named q xs) (cond (bytes_eq (name x) q) (Some x) None)
  named_more q [] x = refl
  named_more q (y ∷ ys) x =
      let go : (b : Bool) → cond b (Some y) (named q (ys ++ x ∷ [])) ≡ option_or (cond b (Some y) (named q ys)) (cond (bytes_eq (name x) q) (Some x) None) = elim [ true ↦ refl | false ↦ named_more q ys x ] in
      go (bytes_eq (name y) q)

-- a session of a name, where all are changed
pub session_mapped : (q : List ℕ) (f : Session → Session) (ss : List Session) → ((s : Session) → (f s).id ≡ s.id) → session_of (map f ss) q ≡ option_map f (session_of ss q)
session_mapped q f [] keeps = refl
session_mapped q f (s ∷ ss) keeps =
    let go : (b : Bool) → cond b (Some (f s)) (session_of (map f ss) q) ≡ option_map f (cond b (Some s) (session_of ss q)) = elim [
      | true ↦ refl
      | false ↦ session_mapped q f ss keeps
    ] in ap (λ n. cond (bytes_eq n q) (Some (f s)) (session_of (map f ss) q)) (keeps s) ∙ go (bytes_eq s.id q)

-- and where that of one name is
changed_name : (id : List ℕ) (change : Session → Session) → ((s : Session) → bytes_eq s.id id ≡ true → (change s).id ≡ s.id) → (s : Session) → (cond (bytes_eq s.id id) (change s) s).id ≡ s.id
changed_name id change keeps s =
    let go : (b : Bool) → bytes_eq s.id id ≡ b → (cond b (change s) s).id ≡ s.id = elim [ true ↦ λ e. keeps s e | false ↦ λ e. refl ] in
    go (bytes_eq s.id id) refl

pub session_changed : (id q : List ℕ) (change : Session → Session) (ss : List Session) → ((s : Session) → bytes_eq s.id id ≡ true → (change s).id ≡ s.id) →
    session_of (change_session id change ss) q ≡ option_map (λ (s : Session). cond (bytes_eq s.id id) (change s) s) (session_of ss q)
session_changed id q change ss keeps = session_mapped q (λ (s : Session). cond (bytes_eq s.id id) (change s) s) ss (changed_name id change keeps)

-- ---- sessions of different names

pub distinct_more : (ss : List Session) (x : Session) → AreDistinct ss → session_of ss x.id ≡ None → AreDistinct (ss ++ x ∷ [])
distinct_more [] x d new = (refl, tt)
distinct_more (s ∷ ss) x d new = (by_first (bytes_eq s.id x.id) refl new, distinct_more ss x d.1 (behind (bytes_eq s.id x.id) new))
  where
    behind : (b : Bool) → cond b (Some s) (session_of ss x.id) ≡ None → session_of ss x.id ≡ None
    behind true h = cc
    behind false h = h

    by_first : (b : Bool) → bytes_eq s.id x.id ≡ b → cond b (Some s) (session_of ss x.id) ≡ None → session_of (ss ++ x ∷ []) s.id ≡ None
    by_first true e h = cc
    by_first false e h =
        named_more (λ (s : Session). s.id) s.id ss x
        ∙ (ap (λ o. option_or o (cond (bytes_eq x.id s.id) (Some x) None)) d.0 ∙ ap (λ b. cond b (Some x) None) (bytes_eq_sym x.id s.id ∙ e))

pub distinct_mapped : (f : Session → Session) (ss : List Session) → ((s : Session) → (f s).id ≡ s.id) → AreDistinct ss → AreDistinct (map f ss)
distinct_mapped f [] keeps d = tt
distinct_mapped f (s ∷ ss) keeps d = (session_mapped (f s).id f ss keeps ∙ ap (option_map f) (ap (session_of ss) (keeps s) ∙ d.0), distinct_mapped f ss keeps d.1)

pub distinct_changed : (id : List ℕ) (change : Session → Session) (ss : List Session) → ((s : Session) → bytes_eq s.id id ≡ true → (change s).id ≡ s.id) → AreDistinct ss → AreDistinct (change_session id change ss)
distinct_changed id change ss keeps d = distinct_mapped (λ (s : Session). cond (bytes_eq s.id id) (change s) s) ss (changed_name id change keeps) d

pub distinct_but : (id : List ℕ) (ss : List Session) → AreDistinct ss → AreDistinct (sessions_but id ss)
distinct_but id [] d = tt
distinct_but id (s ∷ ss) d =
    let none : session_of (sessions_but id ss) s.id ≡ None =
    named_but (λ (s : Session). s.id) id s.id ss ∙ (ap (λ o. cond (bytes_eq id s.id) None o) d.0 ∙ either (bytes_eq id s.id)) in
    let go : (b : Bool) → AreDistinct (cond b (s ∷ sessions_but id ss) (sessions_but id ss)) = elim [ true ↦ (none, distinct_but id ss d.1) | false ↦ distinct_but id ss d.1 ] in
    go (not (bytes_eq s.id id))
  where
    either : (b : Bool) → cond b None (let o : Option Session = None in o) ≡ None
    either true = refl
    either false = refl
