-- Moments with the numbers of rooms: what adding one and taking one out makes of them.
use Rattle.std.proofs.Common.{◌≡◌, ℕ, Bool, true, false, not, cond, ◌&&◌, ◌||◌, ◌==◌, List, [], ◌∷◌, refl, sym, ap₂, ◌∙◌, ◌≤◌, ◌<◌, suc, zero-le, arith}
use Rattle.std.specs.List.{list_any}
use Rattle.std.specs.BTreeMap.{is_at}
use Rattle.std.specs.Ordering.{nat_cmp, ordering_then}
use Rattle.std.specs.declared.cmp.Ordering.{Ordering}
use Rattle.std.specs.declared.cmp.Ordering.TheVariants.{Less, Equal, Greater}
use Rattle.std.proofs.lemmas.Bool.Decides.{nat_tests}
use Rattle.std.specs.Prelude.{nat_le}
use Rattle.std.specs.List.{AllByRecursion}
use Rattle.std.specs.List.Sorted.{IsStrictlySortedBy}
use Rattle.lists.specs.Rising.{RisesFrom}
use Rattle.lists.proofs.Numbers.{cmp_same}
use Rattle.hub_core.specs.Lapses.{has_lapse, is_past, itself}
use Rattle.hub_core.proofs.ConnLaws.{both_equal}

-- how a moment with a number stands to others
abbrev pub by_pair : ℕ × ℕ → ℕ × ℕ → Ordering
by_pair a b = ordering_then (nat_cmp a.0 b.0) (nat_cmp a.1 b.1)

same_pair : (lapse serial at n : ℕ) → is_at (by_pair (lapse, serial)) (at, n) ≡ (lapse == at) && (serial == n)
same_pair lapse serial at n = both_equal (nat_cmp lapse at) (nat_cmp serial n) ∙ ap₂ (λ a b. a && b) (cmp_same lapse at) (cmp_same serial n)

turned : (lapse serial at n : ℕ) → (lapse == at) && (serial == n) ≡ (at == lapse) && (n == serial)
turned lapse serial at n = grind (arith, nat_tests)

or_same : (a b c d : Bool) → a ≡ c → b ≡ d → a || b ≡ c || d
or_same a b c d h k = ap₂ (λ x y. x || y) h k

has_is : (ks : List (ℕ × ℕ)) (at n : ℕ) → list_any (is_at (by_pair (at, n))) ks ≡ has_lapse ks at n
has_is [] at n = refl
has_is (k ∷ ks) at n = or_same _ _ _ _ (same_pair at n k.0 k.1 ∙ turned at n k.0 k.1) (has_is ks at n)

set_or : (b x : Bool) → cond b true x ≡ b || x
set_or true x = refl
set_or false x = refl

out_and : (b x : Bool) → cond b false x ≡ not b && x
out_and true x = refl
out_and false x = refl

-- the moments with one set or taken out
abbrev pub Changed : ℕ × ℕ → Bool → List (ℕ × ℕ) → List (ℕ × ℕ) → Type 0
Changed k b ks ls = (q : ℕ × ℕ) → list_any (is_at (by_pair q)) ls ≡ cond (is_at (by_pair k) q) b (list_any (is_at (by_pair q)) ks)

pub has_put : (lapse serial : ℕ) (ks ls : List (ℕ × ℕ)) → Changed (lapse, serial) true ks ls → (at n : ℕ) → has_lapse ls at n ≡ ((lapse == at) && (serial == n)) || has_lapse ks at n
has_put lapse serial ks ls step at n =
    sym (has_is ls at n) ∙ step (at, n) ∙ set_or (is_at (by_pair (lapse, serial)) (at, n)) (list_any (is_at (by_pair (at, n))) ks) ∙ or_same _ _ _ _ (same_pair lapse serial at n) (has_is ks at n)

pub has_take : (lapse serial : ℕ) (ks ls : List (ℕ × ℕ)) → Changed (lapse, serial) false ks ls → (at n : ℕ) → has_lapse ls at n ≡ not ((lapse == at) && (serial == n)) && has_lapse ks at n
has_take lapse serial ks ls step at n =
    sym (has_is ls at n) ∙ step (at, n) ∙ out_and (is_at (by_pair (lapse, serial)) (at, n)) (list_any (is_at (by_pair (at, n))) ks) ∙ ap₂ (λ a b. not a && b) (same_pair lapse serial at n) (has_is ks at n)

-- ---- what has come

-- numbers that are sorted rise
above_all : (low : ℕ) (ks : List ℕ) → AllByRecursion (λ y. nat_cmp low y ≡ Less) ks → IsStrictlySortedBy nat_cmp ks → RisesFrom itself (suc low) ks
unfolding IsStrictlySortedBy
above_all low [] above sorted = tt
above_all low (k ∷ ks) above sorted = (let less : low < k = grind (arith, nat_tests, above.0) in less, above_all k ks sorted.0 sorted.1)

pub rises : (ks : List ℕ) → IsStrictlySortedBy nat_cmp ks → RisesFrom itself 0 ks
unfolding IsStrictlySortedBy
rises [] sorted = tt
rises (k ∷ ks) sorted = (zero-le, above_all k ks sorted.0 sorted.1)

-- where the first moment hasn't come, none has
not_before : (a b : Ordering) (x y : ℕ) → a ≡ nat_cmp x y → ordering_then a b ≡ Less → x ≤ y
not_before Less b x y is less = grind (arith, nat_tests, is)
not_before Equal b x y is less = grind (arith, nat_tests, is)
not_before Greater b x y is less = absurd cc

none_later : (now n : ℕ) (x : ℕ × ℕ) (ks : List (ℕ × ℕ)) → now < x.0 → AllByRecursion (λ y. by_pair x y ≡ Less) ks → is_past now n ks ≡ false
none_later now n x [] high above = refl
none_later now n x (k ∷ ks) high above =
    let later : x.0 ≤ k.0 = not_before (nat_cmp x.0 k.0) (nat_cmp x.1 k.1) x.0 k.0 refl above.0 in
    let none : nat_le k.0 now ≡ false = grind (arith, nat_tests, later, high) in
    rw (none, none_later now n x ks high above.1) refl

pub none_past : (now n : ℕ) (x : ℕ × ℕ) (ks : List (ℕ × ℕ)) → now < x.0 → IsStrictlySortedBy by_pair (x ∷ ks) → is_past now n (x ∷ ks) ≡ false
unfolding IsStrictlySortedBy
none_past now n x ks high sorted =
    let none : nat_le x.0 now ≡ false = grind (arith, nat_tests, high) in rw (none, none_later now n x ks high sorted.0) refl

pub sorted_rest : (x : ℕ × ℕ) (ks : List (ℕ × ℕ)) → IsStrictlySortedBy by_pair (x ∷ ks) → IsStrictlySortedBy by_pair ks
unfolding IsStrictlySortedBy
sorted_rest x ks sorted = sorted.1

-- ---- what is noted

-- numbers with one more
abbrev pub Added : ℕ → List ℕ → List ℕ → Type 0
Added serial old new = (q : ℕ) → list_any (is_at (nat_cmp q)) new ≡ cond (is_at (nat_cmp serial) q) true (list_any (is_at (nat_cmp q)) old)

swapped : (n k : ℕ) → (n == k) ≡ (k == n)
swapped n k = grind (arith, nat_tests)

number_is : (n : ℕ) (ks : List ℕ) → list_any (is_at (nat_cmp n)) ks ≡ list_any (λ k. k == n) ks
number_is n [] = refl
number_is n (k ∷ ks) = or_same _ _ _ _ (cmp_same n k ∙ swapped n k) (number_is n ks)

or_right : (b c p : Bool) → b || c ≡ p → (b || false) || c ≡ p
or_right true c p h = h
or_right false c p h = h

or_moved : (a b c d p : Bool) → d ≡ b || a → a || (b || c) ≡ p → d || c ≡ p
or_moved true true c d p is h = rw is h
or_moved true false c d p is h = rw is h
or_moved false b c d p is h = rw is (or_right b c p h)

-- one that has come is noted
pub noted : (now n lapse serial : ℕ) (rest : List (ℕ × ℕ)) (old new : List ℕ) (p : Bool) → lapse ≤ now → Added serial old new → list_any (λ k. k == n) old || is_past now n ((lapse, serial) ∷ rest) ≡ p
    → list_any (λ k. k == n) new || is_past now n rest ≡ p
noted now n lapse serial rest old new p low added h =
    let come : nat_le lapse now ≡ true = grind (arith, nat_tests, low) in
    let more : list_any (λ k. k == n) new ≡ (serial == n) || list_any (λ k. k == n) old =
    sym (number_is n new) ∙ added n ∙ set_or (is_at (nat_cmp serial) n) (list_any (is_at (nat_cmp n)) old) ∙ or_same _ _ _ _ (cmp_same serial n) (number_is n old) in
    or_moved (list_any (λ k. k == n) old) (serial == n) (is_past now n rest) (list_any (λ k. k == n) new) p more (rw come at h)

-- where none of the others has come, all are noted
pub all_noted : (a c p : Bool) → c ≡ false → a || c ≡ p → a ≡ p
all_noted true c p none h = h
all_noted false c p none h = sym none ∙ h
