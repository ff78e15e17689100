-- Lists of no items.
use Rattle.std.proofs.Common.{◌≡◌, List, [], ◌∷◌, length, refl, arith}

-- a list of no items is the empty one
pub nothing_left : {A : Type 0} (xs : List A) → 0 ≡ length xs → xs ≡ []
nothing_left [] h = refl
nothing_left (x ∷ xs) h = absurd (omega arith)
