-- Targets of requests.
use Rattle.std.proofs.Common.{◌≡◌, ℕ, ◌==◌, ◌++◌, ◌||◌, true, Bool, false, true≢false, List, [], ◌∷◌, Option, Some, None, option_and_then, refl, inl, inr, sym}
use Rattle.std.proofs.lemmas.Bool.{cases_Bool}
use Rattle.hub_model.specs.Requests.{after_prefix, up_to}
use Rattle.matchmaker.specs.Gives.{has_escape}
use Rattle.matchmaker.proofs.Asking.{or_last}

-- a prefix of two parts
pub behind_parts : (a b t : List ℕ) → after_prefix (a ++ b) t ≡ option_and_then (after_prefix b) (after_prefix a t)
behind_parts [] b t = refl
behind_parts (x ∷ xs) b [] = refl
behind_parts (x ∷ xs) b (y ∷ ys) = elim (cases_Bool (x == y)) [ inl same ↦ rw same (behind_parts xs b ys) | inr other ↦ rw other refl ]

pub behind_some : (a b t u rest : List ℕ) (r : Option (List ℕ)) → u ≡ t → Some rest ≡ after_prefix a u → r ≡ after_prefix b rest → r ≡ after_prefix (a ++ b) t
behind_some a b t u rest r same first behind_is = let found : after_prefix a t ≡ Some rest = rw (← same) (sym first) in rw (behind_parts a b t, found) behind_is

pub behind_nothing : (a b t u : List ℕ) → u ≡ t → None ≡ after_prefix a u → None ≡ after_prefix (a ++ b) t
behind_nothing a b t u same first = let found : after_prefix a t ≡ None = rw (← same) (sym first) in rw (behind_parts a b t, found) refl

-- ---- escapes

escape_both : (a b c : Bool) → (b ≡ true → c ≡ true) → (a || b) ≡ true → (a || c) ≡ true
escape_both true b c f h = refl
escape_both false b c f h = f h

-- an escape up to a byte is one of the whole
escape_up_to : (b : ℕ) (t : List ℕ) → has_escape (up_to b t) ≡ true → has_escape t ≡ true
escape_up_to b [] h = h
escape_up_to b (x ∷ xs) h = elim (cases_Bool (x == b)) [
  | inl same ↦ (let k = rw same at h in absurd (true≢false (sym k)))
  | inr other ↦ escape_both (x == 37) _ _ (escape_up_to b xs) (rw other at h)
]

-- and one behind a prefix
escape_prefix : (prefix t r : List ℕ) → after_prefix prefix t ≡ Some r → has_escape r ≡ true → has_escape t ≡ true
escape_prefix [] t r h e = let is : t ≡ r = cc in rw is e
escape_prefix (x ∷ xs) [] r h e = absurd cc
escape_prefix (x ∷ xs) (y ∷ ys) r h e = elim (cases_Bool (x == y)) [
  | inl same ↦ or_last (y == 37) _ (escape_prefix xs ys r (rw same at h) e)
  | inr other ↦ (let k = rw other at h in absurd cc)
]

pub escape_behind : (prefix t r : List ℕ) → after_prefix prefix (up_to 63 t) ≡ Some r → has_escape r ≡ true → has_escape t ≡ true
escape_behind prefix t r h e = escape_up_to 63 t (escape_prefix prefix (up_to 63 t) r h e)
