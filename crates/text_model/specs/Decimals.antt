-- Decimals of schedules: no leading zeros, no plus; `-` stands only before a value that isn't 0. Ours.
use Rattle.std.specs.Prelude.{ℕ, zero, suc, ◌+◌, ◌-◌, ◌*◌, Bool, false, not, ◌&&◌, List, [], ◌∷◌, ℤ, pos, negsuc, Option, Some, None, option_and_then, nat_lt, nat_le, ◌==◌, if◌then◌else◌}
use Rattle.std.specs.List.{fold}
use Rattle.std.specs.Option.{option_map}
use Rattle.std.specs.Str.{all_ascii_digits}
use Rattle.std.specs.Fmt.{decimal}

-- a whole number as a text
abbrev pub signed_text : ℤ → List ℕ
signed_text (pos n) = decimal n
signed_text (negsuc n) = 45 ∷ decimal (suc n)

-- the number that digits stand for
abbrev pub digits_number : List ℕ → ℕ
digits_number ds = fold (λ n d. n * 10 + (d - 48)) 0 ds

-- digits, and no leading zero
abbrev pub is_decimal : List ℕ → Bool
is_decimal [] = false
is_decimal (d ∷ []) = all_ascii_digits (d ∷ [])
is_decimal (d ∷ e ∷ ds) = not (d == 48) && all_ascii_digits (d ∷ e ∷ ds)

-- the number below a limit that a word is the decimal of
abbrev pub decimal_below : ℕ → List ℕ → Option ℕ
decimal_below limit w = if is_decimal w && nat_lt (digits_number w) limit then Some (digits_number w) else None

-- the number of a word, from one to another
abbrev pub decimal_within : ℕ → ℕ → List ℕ → Option ℕ
decimal_within low high w = option_and_then (λ n. if nat_le low n then Some n else None) (decimal_below (suc high) w)

-- a number behind a `-`
abbrev pub negated : ℕ → Option ℤ
negated zero = None
negated (suc n) = Some (negsuc n)

-- the whole number in -2^(k-1) .. 2^(k-1)-1 that a word is the text of, where the half is 2^(k-1)
abbrev pub signed_within : ℕ → List ℕ → Option ℤ
signed_within half [] = None
signed_within half (c ∷ cs) =
    if c == 45 then option_and_then negated (decimal_below (suc half) cs) else option_map pos (decimal_below half (c ∷ cs))
