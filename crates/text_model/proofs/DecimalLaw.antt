-- A decimal is read as its number, and nothing else is.
use Rattle.std.proofs.Common.{◌≡◌, ℕ, suc, ◌+◌, ◌-◌, ◌*◌, ◌^◌, ◌<◌, ◌≤◌, Bool, true, false, not, ◌&&◌, cond, List, [], ◌∷◌, length, get_or, length-append, append-nil, append_assoc, ◌/◌, ◌%◌, ◌++◌, Option, Some, None, ℤ, pos, negsuc, refl, sym, ap, ◌∙◌, arith, rules, eqb, ltb, leb, ltb-true, lt-ltb, eqb-true, eq-eqb, eq-zero-or-pos, ne_eqb, zero, ⊎_elim, le-leb, leb-true, option_and_then, option_map}
use Rattle.std.specs.List.{fold}
use Rattle.std.specs.Str.{all_ascii_digits}
use Rattle.std.specs.Fmt.{decimal}
use Rattle.std.specs.Char.{is_ascii_digit}
use Rattle.text_model.proofs.Spaced.{is_plain}
use Rattle.std.proofs.lemmas.Str.Parse.{IsNumeralModel, numerals_by_fold}
use Rattle.std.proofs.lemmas.Fmt.{decimal_is_IsNumeral_wide, decimal_by_steps_wide, decimal_step_wide, decimal_digit}
use lib.ListN.{get_or-append}
use Rattle.std.proofs.lemmas.Str.{digit_value_digit}
use Rattle.std.proofs.lemmas.Str.Parse.{digit_from_value}
use Rattle.std.specs.Str.Parse.{AllDigits, digits_value, digits_value_after}
use Rattle.std.specs.Char.{digit_value}
use Rattle.std.proofs.lemmas.Bool.{and_parts, and_from, not-true, false_from_ne_true, true≢false}
use Rattle.schema_model.specs.Fits.{in_signed}
use Rattle.text_model.specs.Decimals.{signed_text, digits_number, is_decimal, decimal_below, decimal_within, negated, signed_within}

-- the number of digits is what std takes it for
own : IsNumeralModel (λ ds. all_ascii_digits ds ≡ true) digits_number
own = numerals_by_fold _ (search rules) (λ n ds. fold (λ n d. n * 10 + (d - 48)) n ds) (search rules)

-- ---- decimals of many digits

pub decimal_digits : (n : ℕ) → n < 10 ^ 64 → all_ascii_digits (decimal n) ≡ true
decimal_digits n h = own.from (decimal n) (decimal_is_IsNumeral_wide n h).0.1

digits_value-decimal : (n : ℕ) → n < 10 ^ 64 → digits_number (decimal n) ≡ n
digits_value-decimal n h = own.same (decimal n) (decimal_is_IsNumeral_wide n h).0.1 ∙ (decimal_is_IsNumeral_wide n h).1

pub decimal_some : (n : ℕ) → n < 10 ^ 64 → 0 < length (decimal n)
decimal_some n h = (decimal_is_IsNumeral_wide n h).0.0

first_decimal : (n : ℕ) → 0 < n → n < 10 ^ 64 → 48 < get_or (decimal n) 0 0
first_decimal n some small =
    (decimal_by_steps_wide (λ m ds. (0 < length ds) × (0 < m → 48 < get_or ds 0 0)) (λ m l. (omega arith, λ a. omega arith))
    (λ m ds l h. (omega (arith, length-append ds ((48 + m % 10) ∷ [])), λ a. omega (arith, get_or-append ds ((48 + m % 10) ∷ []) 0 0 h.0, h.1 (omega arith)))) n small).1 some

le_value_after : (n : ℕ) (ds : List ℕ) → n ≤ digits_value_after 10 n ds
le_value_after n [] = omega arith
le_value_after n (c ∷ cs) = omega (arith, le_value_after (n * 10 + digit_value c) cs)

decimal_value_after : (n : ℕ) (ds : List ℕ) → 0 < n → AllDigits 10 ds → digits_value_after 10 n ds < 10 ^ 64 → decimal (digits_value_after 10 n ds) ≡ decimal n ++ ds
decimal_value_after n [] some d small = sym (append-nil (decimal n))
decimal_value_after n (c ∷ cs) some d small =
    let m : ℕ = n * 10 + digit_value c in
    let k = digit_value_digit c (digit_from_value c d.0) in
    let prefix : m / 10 ≡ n = omega (arith, d.0) in
    let end : 48 + m % 10 ≡ c = omega (arith, d.0) in
    decimal_value_after m cs (omega arith) d.1 small
    ∙ ap (λ x. x ++ cs) (decimal_step_wide m (omega arith) (omega (arith, le_value_after m cs)) ∙ (λ i. decimal (prefix i) ++ (end i ∷ [])))
    ∙ append_assoc (decimal n) (c ∷ []) cs

decimal_value_digits : (ds : List ℕ) → AllDigits 10 ds → 0 < length ds → (get_or ds 0 0 ≡ 48 → length ds ≡ 1) → digits_value 10 ds < 10 ^ 64 → decimal (digits_value 10 ds) ≡ ds
decimal_value_digits [] d some lead small = absurd (omega arith)
decimal_value_digits (c ∷ []) d some lead small =
    let k = digit_value_digit c (digit_from_value c d.0) in
    decimal_digit (0 * 10 + digit_value c) (omega (arith, d.0)) ∙ ap (λ x. x ∷ []) (omega arith)
decimal_value_digits (c ∷ e ∷ cs) d some lead small =
    let k = digit_value_digit c (digit_from_value c d.0) in
    let no : c ≡ 48 → ⊥ = λ z. omega (arith, lead z) in
    let is : 48 + (0 * 10 + digit_value c) ≡ c = omega arith in
    decimal_value_after (0 * 10 + digit_value c) (e ∷ cs) (omega arith) d.1 small
    ∙ ap (λ x. x ++ (e ∷ cs)) (decimal_digit (0 * 10 + digit_value c) (omega (arith, d.0)) ∙ ap (λ x. x ∷ []) is)

decimal-digits_value : (ds : List ℕ) → all_ascii_digits ds ≡ true → 0 < length ds → (get_or ds 0 0 ≡ 48 → length ds ≡ 1) → digits_number ds < 10 ^ 64 → decimal (digits_number ds) ≡ ds
decimal-digits_value ds p some lead small = let d = own.to ds p in ap decimal (own.same ds d) ∙ decimal_value_digits ds d some lead (omega (arith, own.same ds d))

-- a decimal is digits, and the first isn't a zero that could be left out
form : (w : List ℕ) → is_decimal w ≡ true → (all_ascii_digits w ≡ true) × (0 < length w) × (get_or w 0 0 ≡ 48 → length w ≡ 1)
form [] h = absurd (true≢false (sym h))
form (d ∷ []) h = (h, omega arith, λ e. refl)
form (d ∷ e ∷ ds) h =
    let parts = and_parts (not (eqb d 48)) (all_ascii_digits (d ∷ e ∷ ds)) h in
    let other = not-true (eqb d 48) parts.0 in
    (parts.1, omega arith, λ z. absurd (true≢false (sym (eq-eqb d 48 z) ∙ other)))

formed : (w : List ℕ) → all_ascii_digits w ≡ true → 0 < length w → (get_or w 0 0 ≡ 48 → length w ≡ 1) → is_decimal w ≡ true
formed [] h l f = absurd (omega arith)
formed (d ∷ []) h l f = h
formed (d ∷ e ∷ ds) h l f =
    let other : eqb d 48 ≡ false = ne_eqb d 48 (λ z. omega (arith, f z)) in
    and_from (not (eqb d 48)) (all_ascii_digits (d ∷ e ∷ ds)) (ap not other) h

-- ---- numbers below a limit

of_digits : (w : List ℕ) → is_decimal w ≡ true → digits_number w < 10 ^ 64 → decimal (digits_number w) ≡ w
of_digits w h small =
    let f = form w h in
    decimal-digits_value w f.0 f.1 f.2 small

decimal_form : (n : ℕ) → n < 10 ^ 64 → is_decimal (decimal n) ≡ true
decimal_form n small =
    let one : get_or (decimal n) 0 0 ≡ 48 → length (decimal n) ≡ 1 =
    λ z. ⊎_elim (λ (e : n ≡ 0). ap (λ m. length (decimal m)) e ∙ ap length (decimal_digit 0 (omega arith))) (λ (l : 0 < n). absurd (omega (arith, first_decimal n l small))) (eq-zero-or-pos n) in
    formed (decimal n) (decimal_digits n small) (decimal_some n small) one

-- a choice that gives something is made where its test holds
pub chosen : {A : Type 0} (b : Bool) (x y : A) → cond b (Some x) None ≡ Some y → (b ≡ true) × (x ≡ y)
chosen true x y h = (refl, (cc))
chosen false x y h = absurd (cc)

-- only the decimal of a number below the limit is read as it
pub decimal_read : (limit : ℕ) (w : List ℕ) (n : ℕ) → limit ≤ 10 ^ 64 → decimal_below limit w ≡ Some n → (w ≡ decimal n) × (n < limit)
decimal_read limit w n top h =
    let c = chosen (is_decimal w && ltb (digits_number w) limit) (digits_number w) n h in
    let parts = and_parts (is_decimal w) (ltb (digits_number w) limit) c.0 in
    let low = ltb-true (digits_number w) limit parts.1 in
    (sym (of_digits w parts.0 (omega arith)) ∙ ap decimal c.1, omega arith)

-- and it is read
pub read_decimal : (limit n : ℕ) → limit ≤ 10 ^ 64 → n < limit → decimal_below limit (decimal n) ≡ Some n
read_decimal limit n top low =
    let small : n < 10 ^ 64 = omega arith in
    let value = digits_value-decimal n small in
    let test : (is_decimal (decimal n) && ltb (digits_number (decimal n)) limit) ≡ true =
    and_from (is_decimal (decimal n)) (ltb (digits_number (decimal n)) limit) (decimal_form n small) (lt-ltb (digits_number (decimal n)) limit (omega arith)) in
    ap (λ b. cond b (Some (digits_number (decimal n))) None) test ∙ ap Some value

-- ---- numbers from one to another

pub decimal_read_within : (low high : ℕ) (w : List ℕ) (n : ℕ) → high < 10 ^ 64 → decimal_within low high w ≡ Some n → (w ≡ decimal n) × (low ≤ n) × (n ≤ high)
decimal_read_within low high w n top h = from (decimal_below (suc high) w) refl h
  where
    from : (o : Option ℕ) → decimal_below (suc high) w ≡ o → option_and_then (λ m. cond (leb low m) (Some m) None) o ≡ Some n → (w ≡ decimal n) × (low ≤ n) × (n ≤ high)
    from None e k = absurd (cc)
    from (Some m) e k =
        let r = decimal_read (suc high) w m top e in
        let c = chosen (leb low m) m n k in
        let l = leb-true low m c.0 in
        (r.0 ∙ ap decimal c.1, omega arith, omega arith)

pub read_decimal_within : (low high n : ℕ) → high < 10 ^ 64 → low ≤ n → n ≤ high → decimal_within low high (decimal n) ≡ Some n
read_decimal_within low high n top l u =
    ap (option_and_then (λ m. cond (leb low m) (Some m) None)) (read_decimal (suc high) n top (omega arith)) ∙ ap (λ b. cond b (Some n) None) (le-leb low n l)

-- ---- whole numbers

negative_read : (half : ℕ) (cs : List ℕ) (z : ℤ) → half < 10 ^ 64 → option_and_then negated (decimal_below (suc half) cs) ≡ Some z → (45 ∷ cs ≡ signed_text z) × (in_signed half z ≡ true)
negative_read half cs z top h = from (decimal_below (suc half) cs) refl h
  where
    from : (o : Option ℕ) → decimal_below (suc half) cs ≡ o → option_and_then negated o ≡ Some z → (45 ∷ cs ≡ signed_text z) × (in_signed half z ≡ true)
    from None e k = absurd (cc)
    from (Some zero) e k = absurd (cc)
    from (Some (suc n)) e k =
        let r = decimal_read (suc half) cs (suc n) top e in
        let is : negsuc n ≡ z = cc in
        (ap (λ l. 45 ∷ l) r.0 ∙ ap signed_text is, ap (in_signed half) (sym is) ∙ lt-ltb n half (omega arith))

positive_read : (half : ℕ) (w : List ℕ) (z : ℤ) → half < 10 ^ 64 → option_map pos (decimal_below half w) ≡ Some z → (w ≡ signed_text z) × (in_signed half z ≡ true)
positive_read half w z top h = from (decimal_below half w) refl h
  where
    from : (o : Option ℕ) → decimal_below half w ≡ o → option_map pos o ≡ Some z → (w ≡ signed_text z) × (in_signed half z ≡ true)
    from None e k = absurd (cc)
    from (Some n) e k =
        let r = decimal_read half w n (omega arith) e in
        let is : pos n ≡ z = cc in
        (r.0 ∙ ap signed_text is, ap (in_signed half) (sym is) ∙ lt-ltb n half r.1)

-- only the text of a whole number is read as it
pub signed_read : (half : ℕ) (w : List ℕ) (z : ℤ) → half < 10 ^ 64 → signed_within half w ≡ Some z → (w ≡ signed_text z) × (in_signed half z ≡ true)
signed_read half [] z top h = absurd (cc)
signed_read half (c ∷ cs) z top h = from (eqb c 45) refl h
  where
    from : (b : Bool) → eqb c 45 ≡ b → cond b (option_and_then negated (decimal_below (suc half) cs)) (option_map pos (decimal_below half (c ∷ cs))) ≡ Some z → (c ∷ cs ≡ signed_text z) × (in_signed half z ≡ true)
    from true e k =
        let r = negative_read half cs z top k in
        (ap (λ d. d ∷ cs) (eqb-true c 45 e) ∙ r.0, r.1)
    from false e k = positive_read half (c ∷ cs) z top k

-- digits aren't `-`
digits_signed : (half : ℕ) (w : List ℕ) → all_ascii_digits w ≡ true → 0 < length w → signed_within half w ≡ option_map pos (decimal_below half w)
digits_signed half [] d l = absurd (omega arith)
digits_signed half (c ∷ cs) d l =
    let digit = (and_parts (is_ascii_digit c) (all_ascii_digits cs) d).0 in
    let other : eqb c 45 ≡ false = false_from_ne_true (eqb c 45) (λ e. true≢false (sym digit ∙ ap is_ascii_digit (eqb-true c 45 e))) in
    ap (λ b. cond b (option_and_then negated (decimal_below (suc half) cs)) (option_map pos (decimal_below half (c ∷ cs)))) other

-- and it is read
pub read_signed : (half : ℕ) (z : ℤ) → half < 10 ^ 64 → in_signed half z ≡ true → signed_within half (signed_text z) ≡ Some z
read_signed half (negsuc n) top h = ap (option_and_then negated) (read_decimal (suc half) (suc n) top (omega (arith, ltb-true n half h)))
read_signed half (pos n) top h =
    let low = ltb-true n half h in
    let small : n < 10 ^ 64 = omega arith in
    digits_signed half (decimal n) (decimal_digits n small) (decimal_some n small) ∙ ap (option_map pos) (read_decimal half n (omega arith) low)

-- ---- digits can stand on a line

pub digits_plain : (w : List ℕ) → all_ascii_digits w ≡ true → is_plain w ≡ true
digits_plain [] h = refl
digits_plain (c ∷ cs) h =
    let parts = and_parts (is_ascii_digit c) (all_ascii_digits cs) h in
    let low = (and_parts (leb 48 c) (leb c 57) parts.0).0 in
    and_from (leb 33 c) (is_plain cs) (le-leb 33 c (omega (arith, leb-true 48 c low))) (digits_plain cs parts.1)

pub decimal_plain : (n : ℕ) → n < 10 ^ 64 → is_plain (decimal n) ≡ true
decimal_plain n small = digits_plain (decimal n) (decimal_digits n small)

pub signed_plain : (half : ℕ) (z : ℤ) → half < 10 ^ 64 → in_signed half z ≡ true → is_plain (signed_text z) ≡ true
signed_plain half (pos n) top h = decimal_plain n (omega (arith, ltb-true n half h))
signed_plain half (negsuc n) top h = decimal_plain (suc n) (omega (arith, ltb-true n half h))
