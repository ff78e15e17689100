-- A list that gives its last entry again when it is spent.
use Rattle.std.specs.Prelude.{List, [], ◌∷◌, Option, Some, None}

-- the entry that it gives next
abbrev pub first_of : {X : Type 0} → List X → Option X
first_of [] = None
first_of (x ∷ xs) = Some x

-- what it has left then
abbrev pub after_first : {X : Type 0} → List X → List X
after_first [] = []
after_first (x ∷ []) = x ∷ []
after_first (x ∷ y ∷ ys) = y ∷ ys
