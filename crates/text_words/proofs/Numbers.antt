-- The number of digits, read from the first to the last.
use Rattle.std.proofs.Common.{◌≡◌, ℕ, ◌+◌, ◌-◌, ◌*◌, ◌<◌, ◌≤◌, Bool, true, false, cond, ltb, ◌&&◌, List, [], ◌∷◌, length, get_or, drop, Option, Some, None, refl, sym, ap, ◌∙◌, arith, nat_lt, if◌then◌else◌, option_and_then}
use Rattle.std.specs.List.{fold}
use Rattle.std.specs.Str.{all_ascii_digits}
use Rattle.std.specs.Char.{is_ascii_digit}
use Rattle.std.proofs.lemmas.Bool.{ltb-false, le-ltb, lt-ltb}
use Rattle.std.proofs.lemmas.List.{at_drop_more, at_drop_all}
use Rattle.text_words.specs.Digits.{more_digit}

-- the number of digits behind others
abbrev pub number_on : ℕ → List ℕ → ℕ
number_on n ds = fold (λ m d. m * 10 + (d - 48)) n ds

-- the same, where it is below a limit and all are digits
abbrev pub digits_on : ℕ → List ℕ → ℕ → Option ℕ
digits_on limit ds n = if all_ascii_digits ds && nat_lt (number_on n ds) limit then Some (number_on n ds) else None

number_on_ge : (n : ℕ) (ds : List ℕ) → n ≤ number_on n ds
number_on_ge n [] = omega arith
number_on_ge n (d ∷ ds) = omega (arith, number_on_ge (n * 10 + (d - 48)) ds)

-- behind a number that isn't below the limit nothing is
over_none : (limit n : ℕ) (ds : List ℕ) → limit ≤ n → digits_on limit ds n ≡ None
over_none limit n ds h =
    let e : nat_lt (number_on n ds) limit ≡ false = le-ltb (number_on n ds) limit (omega (arith, number_on_ge n ds)) in
    elim (all_ascii_digits ds) as (λ b. cond (b && nat_lt (number_on n ds) limit) (Some (number_on n ds)) None ≡ None) [
      | true ↦ ap (λ b. cond b (Some (number_on n ds)) None) e
      | false ↦ refl
    ]

digits_on-cons : (limit n d : ℕ) (ds : List ℕ) → digits_on limit (d ∷ ds) n ≡ option_and_then (digits_on limit ds) (more_digit limit n d)
digits_on-cons limit n d ds =
    let m = n * 10 + (d - 48) in
    let here : (b : Bool) → ltb m limit ≡ b → digits_on limit ds m ≡ option_and_then (digits_on limit ds) (cond b (Some m) None)
    = elim [ true ↦ λ h. refl | false ↦ λ h. over_none limit m ds (ltb-false m limit h) ] in
    elim (is_ascii_digit d) as (λ b. cond ((b && all_ascii_digits ds) && nat_lt (number_on m ds) limit) (Some (number_on m ds)) None ≡ option_and_then (digits_on limit ds) (cond (b && nat_lt m limit) (Some m) None)) [
      | true ↦ here (ltb m limit) refl
      | false ↦ refl
    ]

-- one digit after another
pub digits_on_more : (limit : ℕ) (ds : List ℕ) (i n : ℕ) → i < length ds → digits_on limit (drop i ds) n ≡ option_and_then (digits_on limit (drop (i + 1) ds)) (more_digit limit n (get_or ds i 0))
digits_on_more limit ds i n h =
    at_drop_more (λ t. digits_on limit t n) ds i 0 h ∙ digits_on-cons limit n (get_or ds i 0) (drop (i + 1) ds)

pub digits_on_done : (limit : ℕ) (ds : List ℕ) (i n : ℕ) → length ds ≤ i → n < limit → Some n ≡ digits_on limit (drop i ds) n
digits_on_done limit ds i n h small =
    ap (λ b. cond b (Some n) None) (sym (lt-ltb n limit small)) ∙ sym (at_drop_all (λ t. digits_on limit t n) ds i h)
