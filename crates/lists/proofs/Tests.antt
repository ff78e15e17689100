-- Small facts of tests, beside those of std's `Math.Bool` and `lemmas.Bool`.
use Rattle.std.proofs.Common.{◌≡◌, Bool, true, false, not, ◌||◌, refl, sym}

-- two tests that imply each other are one
pub both_ways : (a b : Bool) → (a ≡ true → b ≡ true) → (b ≡ true → a ≡ true) → a ≡ b
both_ways true b f g = sym (f refl)
both_ways false true f g = g refl
both_ways false false f g = refl

-- what follows from each of two tests follows from either
pub either_case : {P : Type 0} (a b : Bool) → (a || b) ≡ true → (a ≡ true → P) → (b ≡ true → P) → P
either_case true b h f g = f refl
either_case false b h f g = g h

-- one of two tests still holds where the first is replaced by a wider one
pub or_wider : (a b c : Bool) → (a ≡ true → b ≡ true) → (a || c) ≡ true → (b || c) ≡ true
or_wider true b c f h = rw (f refl) refl
or_wider false true c f h = refl
or_wider false false c f h = h

-- two tests in either order
pub or_swapped : (a b : Bool) → (a || b) ≡ (b || (a || false))
or_swapped true true = refl
or_swapped true false = refl
or_swapped false true = refl
or_swapped false false = refl

-- a test that is the opposite of another holds where the other fails
pub from_not : (b c : Bool) → b ≡ not c → b ≡ true → c ≡ false
from_not b true e t = cc
from_not b false e t = refl

-- and fails where the other holds
pub from_is : (b c : Bool) → b ≡ not c → b ≡ false → c ≡ true
from_is b true e f = refl
from_is b false e f = cc

-- where neither of two tests holds
pub or_false : (a b : Bool) → (a || b) ≡ false → (a ≡ false) × (b ≡ false)
or_false true b h = cc
or_false false b h = (refl, h)
