-- Trees of items under their own numbers, as lists of entries.
use Rattle.std.specs.Prelude.{ℕ, ◌≡◌, List, [], ◌∷◌}

-- the items
abbrev pub entry_values : {X : Type 0} → List (ℕ × X) → List X
entry_values [] = []
entry_values (e ∷ es) = e.1 ∷ entry_values es

-- each item stands under its own number
abbrev pub IsKeyed : {X : Type 0} → (X → ℕ) → List (ℕ × X) → Type 0
IsKeyed key [] = Unit {0}
IsKeyed key (e ∷ es) = (e.0 ≡ key e.1) × IsKeyed key es
