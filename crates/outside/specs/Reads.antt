-- What was read of a source, so far as it tells it.
use Rattle.std.specs.Prelude.{◌≡◌, ℕ, List, [], ◌++◌, Option, Some, IfSome}

-- these bytes were read
abbrev pub Reads : Option (List ℕ) → Option (List ℕ) → List ℕ → Type 0
Reads before after bytes = IfSome before (λ all. (rest : List ℕ) × (after ≡ Some rest) × (all ≡ bytes ++ rest))

-- these bytes were read, up to the end
abbrev pub ReadsAll : Option (List ℕ) → Option (List ℕ) → List ℕ → Type 0
ReadsAll before after bytes = IfSome before (λ all. (after ≡ Some []) × (all ≡ bytes))
