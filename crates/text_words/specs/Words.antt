-- The words of a line.
use Rattle.std.specs.Prelude.{ℕ, List, ◌∷◌, map}
use Rattle.std.specs.List.{flat_map}
use Rattle.std.specs.Borrow.{Bor}

-- the words, by their bytes
abbrev pub bytes_of : List (Bor (List ℕ)) → List (List ℕ)
bytes_of words = map (λ w. w.now) words

-- a space before each word
abbrev pub behind : List (List ℕ) → List ℕ
behind ws = flat_map (λ w. 32 ∷ w) ws
