-- Steps over a text in quotes.
use Rattle.std.proofs.Common.{◌≡◌, ◌≢◌, ℕ, ◌-◌, ◌<◌, ◌≤◌, Bool, true, false, cond, ◌&&◌, ◌==◌, List, [], ◌∷◌, length, take, drop, get_or, Option, Some, None, option_and_then, refl, sym, ap, ◌∙◌, arith}
use Rattle.std.proofs.lemmas.Bool.{and_parts, eqb-true, false≢true, ne_eqb, le-ltb, lt-ltb}
use Rattle.std.proofs.lemmas.List.{take_rest}
use Rattle.std.specs.Borrow.{Bor}
use Rattle.std.specs.Char.{encode_utf8, is_digit}
use Rattle.std.specs.Prelude.{is_some}
use Rattle.json.specs.Lex.{Lexeme, Mode, between, in_escape, in_string, lex, lex_byte, operator, other, quote, backslash, space}
use Rattle.json.specs.Text.{Within, after_backslash, after_high, after_u, code_unit, content, is_high_surrogate, is_low_surrogate, plain, prepend, short_escape, surrogate_pair}
use Rattle.json.specs.Word.{is_operator, is_space}
use Rattle.validate.specs.Quoted.{Passed}

-- the first byte and the rest are the whole
pub uncons : (xs : List ℕ) → 1 ≤ length xs → get_or xs 0 0 ∷ take (length xs - 1) (drop 1 xs) ≡ xs
uncons [] h = let no : ⊥ = omega arith in absurd no
uncons (x ∷ xs) h = ap (λ l. x ∷ l) (take_rest (x ∷ xs) 1)

pub Passed-from : (w v : Within) (m n : Mode) (text more : List ℕ) (r : Option (Bor (List ℕ))) → is_some (content w text) ≡ is_some (content v more) → lex m text ≡ lex n more → length more ≤ length text → Passed v n more r → Passed w m text r
Passed-from w v m n text more None e f le h = e ∙ h
Passed-from w v m n text more (Some rest) e f le h = (e ∙ h.0, f ∙ h.1, omega (arith, h.2))

pub is_some-prepend : (bytes : List ℕ) (r : Option (List ℕ)) → is_some (prepend bytes r) ≡ is_some r
is_some-prepend bytes None = refl
is_some-prepend bytes (Some s) = refl

-- ---- the quote, a byte, an escape

pub quote_content : (x : ℕ) (xs : List ℕ) → x ≡ 34 → is_some (content plain (x ∷ xs)) ≡ true
unfolding content
quote_content x xs e = ap (λ y. is_some (content plain (y ∷ xs))) e

pub quote_lex : (x : ℕ) (xs : List ℕ) → x ≡ 34 → lex in_string (x ∷ xs) ≡ lex between xs
unfolding lex
quote_lex x xs e = ap (λ y. lex in_string (y ∷ xs)) e

pub escape_content : (x : ℕ) (xs : List ℕ) → x ≡ 92 → content plain (x ∷ xs) ≡ content after_backslash xs
unfolding content
escape_content x xs e = ap (λ y. content plain (y ∷ xs)) e

pub escape_lex : (x : ℕ) (xs : List ℕ) → x ≡ 92 → lex in_string (x ∷ xs) ≡ lex in_escape xs
unfolding lex
escape_lex x xs e = ap (λ y. lex in_string (y ∷ xs)) e

pub control_content : (x : ℕ) (xs : List ℕ) → x < 32 → content plain (x ∷ xs) ≡ None
unfolding content
control_content x xs h =
    λ j. cond (ne_eqb x 34 (λ z. omega arith) j) (Some []) (cond (ne_eqb x 92 (λ z. omega arith) j) (content after_backslash xs) (cond (lt-ltb x 32 h j) None (prepend (x ∷ []) (content plain xs))))

pub byte_content : (x : ℕ) (xs : List ℕ) → x ≢ 34 → x ≢ 92 → 32 ≤ x → is_some (content plain (x ∷ xs)) ≡ is_some (content plain xs)
unfolding content
byte_content x xs q b l =
    (λ j. is_some (cond (ne_eqb x 34 q j) (Some []) (cond (ne_eqb x 92 b j) (content after_backslash xs) (cond (le-ltb x 32 l j) None (prepend (x ∷ []) (content plain xs))))))
    ∙ is_some-prepend (x ∷ []) (content plain xs)

stays : (o s : Bool) (x : ℕ) (xs : List ℕ) (k : Mode → List Lexeme) → lex_byte in_string (cond o operator (cond s space other)) x xs k ≡ k in_string
stays true s x xs k = refl
stays false true x xs k = refl
stays false false x xs k = refl

pub byte_lex : (x : ℕ) (xs : List ℕ) → x ≢ 34 → x ≢ 92 → lex in_string (x ∷ xs) ≡ lex in_string xs
unfolding lex
byte_lex x xs q b =
    (λ j. lex_byte in_string (cond (ne_eqb x 34 q j) quote (cond (ne_eqb x 92 b j) backslash (cond (is_operator x) operator (cond (is_space x) space other)))) x xs (λ n. lex n xs))
    ∙ stays (is_operator x) (is_space x) x xs (λ n. lex n xs)

pub escaped_lex : (x : ℕ) (xs : List ℕ) → lex in_escape (x ∷ xs) ≡ lex in_string xs
unfolding lex
escaped_lex x xs = refl

pub unicode_content : (x : ℕ) (xs : List ℕ) → x ≡ 117 → content after_backslash (x ∷ xs) ≡ content after_u xs
unfolding content
unicode_content x xs e = ap (λ y. content after_backslash (y ∷ xs)) e

by_short : (o : Option ℕ) (xs : List ℕ) (b : Bool) → b ≡ is_some o → is_some (option_and_then (λ c. prepend (c ∷ []) (content plain xs)) o) ≡ cond b (is_some (content plain xs)) false
by_short None xs b e = ap (λ t. cond t (is_some (content plain xs)) false) (sym e)
by_short (Some c) xs b e = is_some-prepend (c ∷ []) (content plain xs) ∙ ap (λ t. cond t (is_some (content plain xs)) false) (sym e)

pub short_content : (x : ℕ) (xs : List ℕ) (b : Bool) → x ≢ 117 → b ≡ is_some (short_escape x) → is_some (content after_backslash (x ∷ xs)) ≡ cond b (is_some (content plain xs)) false
unfolding content
short_content x xs b u e = (λ j. is_some (cond (ne_eqb x 117 u j) (content after_u xs) (option_and_then (λ c. prepend (c ∷ []) (content plain xs)) (short_escape x)))) ∙ by_short (short_escape x) xs b e

-- ---- four digits, and the second half of a pair

-- what follows a code unit spells, by the unit
abbrev pub by_unit : List ℕ → ℕ → Option (List ℕ)
by_unit rest u = cond (is_high_surrogate u) (content (after_high u) rest) (cond (is_low_surrogate u) None (prepend (encode_utf8 u) (content plain rest)))

pub unit_short : (text : List ℕ) → length text < 4 → content after_u text ≡ None
unfolding content
unit_short [] h = refl
unit_short (a ∷ []) h = refl
unit_short (a ∷ b ∷ []) h = refl
unit_short (a ∷ b ∷ c ∷ []) h = refl
unit_short (a ∷ b ∷ c ∷ d ∷ xs) h = let no : ⊥ = omega arith in absurd no

pub unit_content : (text : List ℕ) (o : Option ℕ) → 4 ≤ length text → code_unit (get_or text 0 0) (get_or text 1 0) (get_or text 2 0) (get_or text 3 0) ≡ o → content after_u text ≡ option_and_then (by_unit (drop 4 text)) o
unfolding content
unit_content [] o h e = let no : ⊥ = omega arith in absurd no
unit_content (a ∷ []) o h e = let no : ⊥ = omega arith in absurd no
unit_content (a ∷ b ∷ []) o h e = let no : ⊥ = omega arith in absurd no
unit_content (a ∷ b ∷ c ∷ []) o h e = let no : ⊥ = omega arith in absurd no
unit_content (a ∷ b ∷ c ∷ d ∷ xs) o h e = ap (option_and_then (by_unit xs)) e

were_digits : (t : Bool) (u v : ℕ) → cond t (Some v) None ≡ Some u → t ≡ true
were_digits true u v e = refl
were_digits false u v e = ap is_some e

all_four : (a b c d : Bool) → (a && b && c && d) ≡ true → (a ≡ true) × (b ≡ true) × (c ≡ true) × (d ≡ true)
all_four true true true true h = (refl, refl, refl, refl)
all_four false b c d h = absurd (false≢true h)
all_four true false c d h = absurd (false≢true h)
all_four true true false d h = absurd (false≢true h)
all_four true true true false h = absurd (false≢true h)

digits : (a b c d u : ℕ) → code_unit a b c d ≡ Some u → (is_digit a 16 ≡ true) × (is_digit b 16 ≡ true) × (is_digit c 16 ≡ true) × (is_digit d 16 ≡ true)
unfolding code_unit
digits a b c d u e = all_four (is_digit a 16) (is_digit b 16) (is_digit c 16) (is_digit d 16) (were_digits _ u _ e)

digit_lex : (x : ℕ) (xs : List ℕ) → is_digit x 16 ≡ true → lex in_string (x ∷ xs) ≡ lex in_string xs
digit_lex x xs h = byte_lex x xs (λ e. false≢true (ap (λ y. is_digit y 16) (sym e) ∙ h)) (λ e. false≢true (ap (λ y. is_digit y 16) (sym e) ∙ h))

four_lex : (a b c d u : ℕ) (xs : List ℕ) → code_unit a b c d ≡ Some u → lex in_string (a ∷ b ∷ c ∷ d ∷ xs) ≡ lex in_string xs
four_lex a b c d u xs e =
    let h = digits a b c d u e in
    digit_lex a (b ∷ c ∷ d ∷ xs) h.0 ∙ (digit_lex b (c ∷ d ∷ xs) h.1 ∙ (digit_lex c (d ∷ xs) h.2 ∙ digit_lex d xs h.3))

pub unit_lex : (text : List ℕ) (u : ℕ) → 4 ≤ length text → code_unit (get_or text 0 0) (get_or text 1 0) (get_or text 2 0) (get_or text 3 0) ≡ Some u → lex in_string text ≡ lex in_string (drop 4 text)
unit_lex [] u h e = let no : ⊥ = omega arith in absurd no
unit_lex (a ∷ []) u h e = let no : ⊥ = omega arith in absurd no
unit_lex (a ∷ b ∷ []) u h e = let no : ⊥ = omega arith in absurd no
unit_lex (a ∷ b ∷ c ∷ []) u h e = let no : ⊥ = omega arith in absurd no
unit_lex (a ∷ b ∷ c ∷ d ∷ xs) u h e = four_lex a b c d u xs e

pub high_unit : (rest : List ℕ) (u : ℕ) → is_high_surrogate u ≡ true → by_unit rest u ≡ content (after_high u) rest
high_unit rest u h = λ j. cond (h j) (content (after_high u) rest) (cond (is_low_surrogate u) None (prepend (encode_utf8 u) (content plain rest)))

pub low_unit : (rest : List ℕ) (u : ℕ) → is_high_surrogate u ≡ false → is_low_surrogate u ≡ true → by_unit rest u ≡ None
low_unit rest u h l = λ j. cond (h j) (content (after_high u) rest) (cond (l j) None (prepend (encode_utf8 u) (content plain rest)))

pub plain_unit : (rest : List ℕ) (u : ℕ) → is_high_surrogate u ≡ false → is_low_surrogate u ≡ false → is_some (by_unit rest u) ≡ is_some (content plain rest)
plain_unit rest u h l = (λ j. is_some (cond (h j) (content (after_high u) rest) (cond (l j) None (prepend (encode_utf8 u) (content plain rest))))) ∙ is_some-prepend (encode_utf8 u) (content plain rest)

-- what follows the second half of a pair spells
abbrev pub by_low : ℕ → List ℕ → ℕ → Option (List ℕ)
by_low high rest l = cond (is_low_surrogate l) (prepend (encode_utf8 (surrogate_pair high l)) (content plain rest)) None

pub half_short : (high : ℕ) (text : List ℕ) → length text < 6 → content (after_high high) text ≡ None
unfolding content
half_short high [] h = refl
half_short high (s ∷ []) h = refl
half_short high (s ∷ u ∷ []) h = refl
half_short high (s ∷ u ∷ a ∷ []) h = refl
half_short high (s ∷ u ∷ a ∷ b ∷ []) h = refl
half_short high (s ∷ u ∷ a ∷ b ∷ c ∷ []) h = refl
half_short high (s ∷ u ∷ a ∷ b ∷ c ∷ d ∷ xs) h = let no : ⊥ = omega arith in absurd no

-- a text of at least six bytes
abbrev pub by_six : (List ℕ → Type 0) → List ℕ → Type 0
by_six P text = ((s u a b c d : ℕ) (xs : List ℕ) → P (s ∷ u ∷ a ∷ b ∷ c ∷ d ∷ xs)) → 6 ≤ length text → P text

six : (P : List ℕ → Type 0) (text : List ℕ) → by_six P text
six P [] f h = let no : ⊥ = omega arith in absurd no
six P (s ∷ []) f h = let no : ⊥ = omega arith in absurd no
six P (s ∷ u ∷ []) f h = let no : ⊥ = omega arith in absurd no
six P (s ∷ u ∷ a ∷ []) f h = let no : ⊥ = omega arith in absurd no
six P (s ∷ u ∷ a ∷ b ∷ []) f h = let no : ⊥ = omega arith in absurd no
six P (s ∷ u ∷ a ∷ b ∷ c ∷ []) f h = let no : ⊥ = omega arith in absurd no
six P (s ∷ u ∷ a ∷ b ∷ c ∷ d ∷ xs) f h = f s u a b c d xs

pub half_other : (high : ℕ) (text : List ℕ) → 6 ≤ length text → ((get_or text 0 0 == 92) && (get_or text 1 0 == 117)) ≡ false → content (after_high high) text ≡ None
unfolding content
half_other high text long =
    six (λ t. ((get_or t 0 0 == 92) && (get_or t 1 0 == 117)) ≡ false → content (after_high high) t ≡ None) text
    (λ s u a b c d xs e. (λ j. cond (e j) (option_and_then (by_low high xs) (code_unit a b c d)) None)) long

pub half_content : (high : ℕ) (text : List ℕ) (o : Option ℕ) → 6 ≤ length text → ((get_or text 0 0 == 92) && (get_or text 1 0 == 117)) ≡ true
    → code_unit (get_or text 2 0) (get_or text 3 0) (get_or text 4 0) (get_or text 5 0) ≡ o → content (after_high high) text ≡ option_and_then (by_low high (drop 6 text)) o
unfolding content
half_content high text o long =
    six (λ t. ((get_or t 0 0 == 92) && (get_or t 1 0 == 117)) ≡ true → code_unit (get_or t 2 0) (get_or t 3 0) (get_or t 4 0) (get_or t 5 0) ≡ o → content (after_high high) t ≡ option_and_then (by_low high (drop 6 t)) o)
    text (λ s u a b c d xs e found. (λ j. cond (e j) (option_and_then (by_low high xs) (found j)) None)) long

pub half_lex : (text : List ℕ) (l : ℕ) → 6 ≤ length text → ((get_or text 0 0 == 92) && (get_or text 1 0 == 117)) ≡ true → code_unit (get_or text 2 0) (get_or text 3 0) (get_or text 4 0) (get_or text 5 0) ≡ Some l
    → lex in_string text ≡ lex in_string (drop 6 text)
half_lex text l long =
    six (λ t. ((get_or t 0 0 == 92) && (get_or t 1 0 == 117)) ≡ true → code_unit (get_or t 2 0) (get_or t 3 0) (get_or t 4 0) (get_or t 5 0) ≡ Some l → lex in_string t ≡ lex in_string (drop 6 t)) text
    (λ s u a b c d xs e found. escape_lex s (u ∷ a ∷ b ∷ c ∷ d ∷ xs) (eqb-true s 92 (and_parts (s == 92) (u == 117) e).0) ∙ (escaped_lex u (a ∷ b ∷ c ∷ d ∷ xs) ∙ four_lex a b c d l xs found)) long

pub low_half : (high : ℕ) (rest : List ℕ) (l : ℕ) → is_low_surrogate l ≡ true → is_some (by_low high rest l) ≡ is_some (content plain rest)
low_half high rest l h = (λ j. is_some (cond (h j) (prepend (encode_utf8 (surrogate_pair high l)) (content plain rest)) None)) ∙ is_some-prepend _ (content plain rest)

pub no_half : (high : ℕ) (rest : List ℕ) (l : ℕ) → is_low_surrogate l ≡ false → by_low high rest l ≡ None
no_half high rest l h = λ j. cond (h j) (prepend (encode_utf8 (surrogate_pair high l)) (content plain rest)) None

-- ---- where nothing is left

pub escape_short : (text : List ℕ) → length text < 1 → is_some (content after_backslash text) ≡ false
unfolding content
escape_short [] h = refl
escape_short (x ∷ xs) h = let no : ⊥ = omega arith in absurd no

pub text_short : (text : List ℕ) → length text < 1 → is_some (content plain text) ≡ false
unfolding content
text_short [] h = refl
text_short (x ∷ xs) h = let no : ⊥ = omega arith in absurd no
