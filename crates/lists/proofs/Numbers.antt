-- Small facts of numbers and of how they are ordered.
use Rattle.std.proofs.Common.{◌≡◌, ℕ, suc, ◌+◌, true, ◌&&◌, ◌==◌, nat_cmp, Ordering, Less, Equal, Greater, refl, arith}
use Rattle.std.specs.Ordering.{is_eq, ordering_then}
use Rattle.std.proofs.lemmas.Bool.{eq-eqb}
use Rattle.std.proofs.lemmas.Bool.Decides.{nat_tests}

-- a number is itself
pub same_number : (n : ℕ) → (n == n) ≡ true
same_number n = eq-eqb n n refl

-- two orders, one after the other, call equal what both do
pub both_equal : (a b : Ordering) → is_eq (ordering_then a b) ≡ (is_eq a && is_eq b)
both_equal Less b = refl
both_equal Equal b = refl
both_equal Greater b = refl

-- numbers that their order calls equal are the same
pub cmp_same : (a b : ℕ) → is_eq (nat_cmp a b) ≡ (a == b)
cmp_same a b = grind (arith, nat_tests)

-- one more than a number is the next one
pub one_up : (n : ℕ) → 1 + n ≡ suc n
one_up n = omega arith
