-- How often a number stands among numbers: with one more before it, over two lists, and whether it is there.
use Rattle.std.proofs.Common.{◌≡◌, ℕ, ◌+◌, cond, not, ◌==◌, List, [], ◌∷◌, ◌++◌, refl, arith}
use Rattle.std.proofs.lemmas.Bool.Decides.{nat_tests}
use Rattle.std.proofs.lemmas.List.Sums.{sum_by-cons, sum_by-append}
use Rattle.state_model.specs.Reached.{is_among}
use Rattle.state_laws.specs.Counts.{count_of}

-- with one more before it
pub count_first : (k n : ℕ) (ns : List ℕ) → count_of k (n ∷ ns) ≡ cond (n == k) 1 0 + count_of k ns
count_first k n ns = sum_by-cons (λ (m : ℕ). cond (m == k) 1 0) n ns

-- over two lists it stands as often as in both
pub count_both : (k : ℕ) (ms ns : List ℕ) → count_of k (ms ++ ns) ≡ count_of k ms + count_of k ns
count_both k ms ns = sum_by-append (λ (m : ℕ). cond (m == k) 1 0) ms ns

-- a number is there exactly where it stands there at least once
pub count_among : (k : ℕ) (ns : List ℕ) → is_among k ns ≡ not (count_of k ns == 0)
count_among k [] = refl
count_among k (n ∷ ns) = grind (arith, nat_tests, count_first k n ns, count_among k ns)
