-- How often a number stands among numbers.
use Rattle.std.specs.Prelude.{ℕ, List, count_by, ◌==◌}

-- how often a number stands among numbers
abbrev pub count_of : ℕ → List ℕ → ℕ
count_of n ns = count_by (λ m. m == n) ns
