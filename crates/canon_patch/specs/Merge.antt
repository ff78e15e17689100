-- A merge of two rising lists of numbers, number by number.
use Rattle.std.specs.Prelude.{ℕ, List, [], ◌∷◌, Option, Some, None, if◌then◌else◌, ◌==◌, nat_lt}

-- the lesser one of the first numbers
abbrev pub least_number : List ℕ → List ℕ → Option ℕ
least_number [] [] = None
least_number (m ∷ ms) [] = Some m
least_number [] (n ∷ ns) = Some n
least_number (m ∷ ms) (n ∷ ns) = Some (if nat_lt n m then n else m)

-- the items without a first one of this number
abbrev pub behind : {E : Type 0} → (E → ℕ) → ℕ → List E → List E
behind key n [] = []
behind key n (e ∷ es) = if key e == n then es else e ∷ es
