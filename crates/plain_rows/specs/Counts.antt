-- How often numbers are held.
use Rattle.std.specs.Prelude.{ℕ, List, unwrap_or}
use Rattle.std.specs.Map.{lookup}
use Rattle.std.specs.BTreeMap.{is_at}
use Rattle.std.specs.Ordering.{nat_cmp}

-- the count of a number among entries
abbrev pub counted : List (ℕ × ℕ) → ℕ → ℕ
counted es k = unwrap_or (lookup (is_at (nat_cmp k)) es) 0
