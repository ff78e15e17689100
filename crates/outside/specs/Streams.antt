-- What a source hands over and a sink takes, so far as they show it.
use Rattle.std.specs.Prelude.{◌≡◌, ℕ, ◌<◌, List, ◌++◌, length, take, Option, Some, IfSome, Result, Ok, Err}
use Rattle.outside.specs.declared.fault.Failed.{Failed}

-- of its bytes it put so many at the front of the buffer, and has the others left; none are put
-- exactly where there are none or the buffer is empty
pub record Hands (bytes : List ℕ) (left : Option (List ℕ)) (count : ℕ) (buffer : List ℕ) : Type 0 where
  pub parts : (rest : List ℕ) × (left ≡ Some rest) × (bytes ≡ take count buffer ++ rest)
  pub some : 0 < length bytes → 0 < length buffer → 0 < count

-- all bytes are still left
abbrev pub Keeps : Option (List ℕ) → Option (List ℕ) → Type 0
Keeps before after = IfSome before (λ bytes. after ≡ Some bytes)

-- these bytes were taken
abbrev pub Takes : Option (List ℕ) → Option (List ℕ) → List ℕ → Type 0
Takes before after bytes = IfSome before (λ taken. after ≡ Some (taken ++ bytes))

-- a prefix of these bytes was taken
abbrev pub TakesPrefix : Option (List ℕ) → Option (List ℕ) → List ℕ → Type 0
TakesPrefix before after bytes = (count : ℕ) × Takes before after (take count bytes)

-- how many bytes a write took
abbrev pub count_of : Result ℕ Failed → ℕ
count_of (Ok count) = count
count_of (Err e) = 0
