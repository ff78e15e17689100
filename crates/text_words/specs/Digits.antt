-- The numbers of digits.
use Rattle.std.specs.Prelude.{ℕ, ◌+◌, ◌-◌, ◌*◌, ◌&&◌, List, Option, Some, None, nat_lt, if◌then◌else◌}
use Rattle.std.specs.Str.{all_ascii_digits}
use Rattle.std.specs.Char.{is_ascii_digit}
use Rattle.text_model.specs.Decimals.{digits_number}

-- the number below a limit that digits stand for, with leading zeros or without
abbrev pub digits_below : ℕ → List ℕ → Option ℕ
digits_below limit ds = if all_ascii_digits ds && nat_lt (digits_number ds) limit then Some (digits_number ds) else None

-- a number with one digit more behind it, below a limit
abbrev pub more_digit : ℕ → ℕ → ℕ → Option ℕ
more_digit limit n d = if is_ascii_digit d && nat_lt (n * 10 + (d - 48)) limit then Some (n * 10 + (d - 48)) else None
