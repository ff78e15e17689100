-- Tests of which one or the other holds.
use Rattle.std.proofs.Common.{◌≡◌, Bool, true, false, ◌||◌, refl}

-- a test or nothing is that test
pub or-none : (b : Bool) → b ≡ (b || false)
or-none true = refl
or-none false = refl

-- three tests, taken together from either end
pub or_moved : (a b c : Bool) → ((a || b) || c) ≡ (a || (b || c))
or_moved true b c = refl
or_moved false b c = refl

-- what follows from each of two tests follows from either
pub in_either : (a b c : Bool) → (a ≡ true → c ≡ true) → (b ≡ true → c ≡ true) → (a || b) ≡ true → c ≡ true
in_either true b c f g h = f refl
in_either false b c f g h = g h
