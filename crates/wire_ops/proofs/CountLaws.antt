-- How many of some rising places are passed over, and how many are below a place, from what stands at one index.
use Rattle.std.proofs.Common.{ℕ, zero, suc, ◌+◌, ◌<◌, ◌≤◌, List, [], ◌∷◌, length, get_or, arith}
use Rattle.std.proofs.lemmas.Bool.Decides.{nat_tests}
use Rattle.lists.specs.Rising.{RisesFrom}
use Rattle.wire_ops.specs.Places.{count_passed, count_below}

rises_at : (low : ℕ) (ps : List ℕ) (k d : ℕ) → RisesFrom (λ p. p) low ps → k < length ps → low + k ≤ get_or ps k d
rises_at low [] k d r l = absurd (omega (arith, l))
rises_at low (p ∷ ps) zero d r l = omega (arith, r.0)
rises_at low (p ∷ ps) (suc k) d r l = omega (arith, r.0, rises_at (suc p) ps k d r.1 (omega (arith, l)))

pub passed_most : (place : ℕ) (ps : List ℕ) → count_passed ps place ≤ length ps
passed_most place [] = omega arith
passed_most place (p ∷ ps) = grind (arith, nat_tests, passed_most (suc place) ps)

pub passed_more : (low place : ℕ) (ps : List ℕ) (k d : ℕ) → RisesFrom (λ p. p) low ps → k < length ps → get_or ps k d ≤ place + k → k < count_passed ps place
passed_more low place [] k d r l h = absurd (omega (arith, l))
passed_more low place (p ∷ ps) zero d r l h = grind (arith, nat_tests, h)
passed_more low place (p ∷ ps) (suc k) d r l h =
    let within : k < length ps = omega (arith, l) in
    grind (arith, nat_tests, h, rises_at (suc p) ps k d r.1 within, passed_more (suc p) (suc place) ps k d r.1 within (omega (arith, h)))

pub passed_less : (place : ℕ) (ps : List ℕ) (k d : ℕ) → k < length ps → place + k < get_or ps k d → count_passed ps place ≤ k
passed_less place [] k d l h = omega arith
passed_less place (p ∷ ps) zero d l h = grind (arith, nat_tests, h)
passed_less place (p ∷ ps) (suc k) d l h = grind (arith, nat_tests, passed_less (suc place) ps k d (omega (arith, l)) (omega (arith, h)))

pub below_most : (place : ℕ) (ps : List ℕ) → count_below ps place ≤ length ps
below_most place [] = omega arith
below_most place (p ∷ ps) = grind (arith, nat_tests, below_most place ps)

pub below_more : (low place : ℕ) (ps : List ℕ) (k d : ℕ) → RisesFrom (λ p. p) low ps → k < length ps → get_or ps k d < place → k < count_below ps place
below_more low place [] k d r l h = absurd (omega (arith, l))
below_more low place (p ∷ ps) zero d r l h = grind (arith, nat_tests, h)
below_more low place (p ∷ ps) (suc k) d r l h =
    let within : k < length ps = omega (arith, l) in
    grind (arith, nat_tests, h, rises_at (suc p) ps k d r.1 within, below_more (suc p) place ps k d r.1 within h)

pub below_less : (place : ℕ) (ps : List ℕ) (k d : ℕ) → k < length ps → place ≤ get_or ps k d → count_below ps place ≤ k
below_less place [] k d l h = omega arith
below_less place (p ∷ ps) zero d l h = grind (arith, nat_tests, h)
below_less place (p ∷ ps) (suc k) d l h = grind (arith, nat_tests, below_less place ps k d (omega (arith, l)) h)
