-- What a writer leaves behind: what was there, and more.
use Rattle.std.specs.Prelude.{◌≡◌, ℕ, List, ◌++◌}

-- the new bytes begin with the old ones
abbrev pub IsPrefixOf : List ℕ → List ℕ → Type 0
IsPrefixOf old new = (more : List ℕ) × (new ≡ old ++ more)
