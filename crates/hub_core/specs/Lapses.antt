-- The least moments at which something of a room lapses.
use Rattle.std.specs.Prelude.{ℕ, Bool, false, ◌&&◌, ◌==◌, List, Option, Some, None, nat_le}
use Rattle.std.specs.List.{list_any}

-- a moment with a room's number is there
abbrev pub has_lapse : List (ℕ × ℕ) → ℕ → ℕ → Bool
has_lapse ks lapse serial = list_any (λ k. (k.0 == lapse) && (k.1 == serial)) ks

-- a moment is this one
abbrev pub is_moment : ℕ → Option ℕ → Bool
is_moment at None = false
is_moment at (Some lapse) = lapse == at

-- a room's moment is there, and has come by this one
abbrev pub is_past : ℕ → ℕ → List (ℕ × ℕ) → Bool
is_past now serial ks = list_any (λ k. nat_le k.0 now && (k.1 == serial)) ks

-- a number by which it rises itself
abbrev pub itself : ℕ → ℕ
itself n = n
