-- Pairs of a row's number and a place, as keys of a set: putting in, taking out, and the first key of a row.
use Rattle.std.proofs.Common.{◌≡◌, ℕ, ◌≤◌, Bool, true, false, cond, ◌&&◌, ◌==◌, List, [], ◌∷◌, Some, None, nat_cmp, Ordering, refl, sym, ◌∙◌, arith}
use Rattle.std.specs.Bool.{IsTrue}
use Rattle.std.specs.Ordering.{ordering_then, is_gt}
use Rattle.std.specs.List.{list_any}
use Rattle.std.specs.BTreeMap.{is_at}
use Rattle.std.specs.BTreeSet.{BTreeSet, IsKeyRangeOf}
use Rattle.std.specs.declared.ops.Bound.TheVariants.{Included, Unbounded}
use Rattle.std.proofs.lemmas.Bool.Decides.{nat_tests}
use Rattle.schema_model.specs.declared.value.Value.{Value}
use Rattle.schema_model.specs.declared.value.Value.TheVariants as value
use Rattle.wire_ops.specs.Places.{is_noted, IsFirstPlace, NotesAlso, NotesNoMore}

-- the order of the keys
abbrev place_cmp : ℕ × ℕ → ℕ × ℕ → Ordering
place_cmp x y = ordering_then (nat_cmp x.0 y.0) (nat_cmp x.1 y.1)

-- a key is there
abbrev has_place : List (ℕ × ℕ) → ℕ × ℕ → Bool
has_place ks k = list_any (is_at (place_cmp k)) ks

at_place : (a b n m : ℕ) → is_at (place_cmp (a, b)) (n, m) ≡ ((n == a) && (m == b))
at_place a b n m = grind (arith, nat_tests)

noted_key : (pairs : List (ℕ × ℕ)) (who place : ℕ) → has_place pairs (who, place) ≡ is_noted pairs who place
noted_key [] who place = refl
noted_key (k ∷ ks) who place = grind (arith, nat_tests, at_place who place k.0 k.1, noted_key ks who place)

-- the new keys have this one or don't, and all others that the old ones have
abbrev IsChangedAt : ℕ × ℕ → Bool → List (ℕ × ℕ) → List (ℕ × ℕ) → Type 0
IsChangedAt key there old new = (k : ℕ × ℕ) → has_place new k ≡ cond (is_at (place_cmp key) k) there (has_place old k)

module _ (old new : List (ℕ × ℕ)) (v : Value) (n at : ℕ) (is : v ≡ value.Link n) where
  -- a link's key was put in
  pub noted_also : IsChangedAt (n, at) true old new → NotesAlso (Some v) at old new
  noted_also h who place = rw is (grind (arith, nat_tests, h (who, place), at_place n at who place, noted_key old who place, noted_key new who place))

  -- a link's key was taken out
  pub noted_no_more : IsChangedAt (n, at) false old new → NotesNoMore (Some v) at old new
  noted_no_more h who place = rw is (grind (arith, nat_tests, h (who, place), at_place n at who place, noted_key old who place, noted_key new who place))

from_zero : (who place : ℕ) → is_gt (place_cmp (who, 0) (who, place)) ≡ false
from_zero who place = grind (arith, nat_tests)

at_least : (a b n m : ℕ) → is_gt (place_cmp (a, b) (n, m)) ≡ false → a ≤ n
at_least a b n m h = grind (arith, nat_tests)

at_least_within : (a b m : ℕ) → is_gt (place_cmp (a, b) (a, m)) ≡ false → b ≤ m
at_least_within a b m h = grind (arith, nat_tests)

-- the keys of a set from the least possible one of a row on
module _ (s : BTreeSet (ℕ × ℕ)) (ks : List (ℕ × ℕ)) (who : ℕ) (from : IsKeyRangeOf place_cmp (Included (who, 0)) Unbounded s ks) where
  -- there is none
  pub none_from : ks ≡ [] → IsFirstPlace s.keys who None
  none_from e place = sym (noted_key s.keys who place) ∙ from.5 e (who, place) (from_zero who place, tt)

  module _ (n place : ℕ) (rest : List (ℕ × ℕ)) (e : ks ≡ (n, place) ∷ rest) where
    -- no key of the row is below the first one
    below_none : (q : ℕ) → IsTrue (is_noted s.keys who q) → is_gt (place_cmp (n, place) (who, q)) ≡ false
    below_none q t = rw e at (from.2 (who, q) (from_zero who q, tt) (rw (noted_key s.keys who q) t))

    -- the first is one of the row
    pub first_from : n ≡ who → IsFirstPlace s.keys who (Some place)
    first_from same =
        let found = rw (e, same) at from.1 in
        (rw (← noted_key s.keys who place) found.1, λ q t. at_least_within who place q (rw same at (below_none q t)))

    -- the first is one of another row
    pub other_from : (n ≡ who → ⊥) → IsFirstPlace s.keys who None
    other_from other q =
        let found = rw e at from.1 in
        let above : who ≤ n = at_least who 0 n place found.0.0 in
        let go : (b : Bool) → is_noted s.keys who q ≡ b → b ≡ false = elim [
          | true ↦ λ t. absurd (other (omega (arith, above, at_least n place who q (below_none q t))))
          | false ↦ λ t. refl
        ] in
        go (is_noted s.keys who q) refl
