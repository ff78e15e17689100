-- The lexeme that a byte begins, and where white space, words and digits end.
use Rattle.std.proofs.Common.{◌≡◌, ◌≢◌, ℕ, suc, ◌+◌, ◌-◌, ◌<◌, ◌≤◌, Bool, true, false, cond, ◌||◌, List, [], ◌∷◌, length, take, drop, get_or, Option, Some, None, ◌⊎◌, inl, inr, refl, sym, ap, ap₂, ◌∙◌, arith}
use Rattle.std.proofs.lemmas.Bool.{false≢true, true≢false}
use Rattle.std.proofs.lemmas.Bool.Decides.{nat_tests}
use Rattle.std.specs.List.{prefix_len}
use Rattle.std.specs.Char.{is_ascii_digit}
use Rattle.std.specs.Prelude.{is_some}
use Rattle.json.specs.Ascii.{true_text, false_text, null_text}
use Rattle.json.specs.Token.{Token, bad, boolean, null, number}
use Rattle.json.specs.Text.{content, plain}
use Rattle.json.specs.Word.{after_number, is_operator, is_space, literal, number_before, word}
use Rattle.json.specs.Lex.{Class, Lexeme, Mode, backslash, between, class, in_string, in_word, lex, lex_byte, operator, other, quote, space, string_token, token}
use Rattle.json.specs.Align.{is_good}
use Rattle.validate.specs.Marks.{IsFirst, IsPlain}
use Rattle.validate.specs.declared.mark.Mark.TheVariants.{Bad, Text, Word}
use Rattle.validate.proofs.QuotedSteps.{uncons}

-- ---- the classes of bytes

-- a word ends before a byte of this class
abbrev ends_word : Class → Bool
ends_word quote = false
ends_word backslash = false
ends_word operator = true
ends_word space = true
ends_word other = false

class_ends : (x : ℕ) → ends_word (class x) ≡ (is_operator x || is_space x)
class_ends x = grind (arith, nat_tests)

class_space : (x : ℕ) → is_space x ≡ true → class x ≡ space
class_space x h = grind (arith, nat_tests)

pub class_other : (x : ℕ) → is_space x ≡ false → is_operator x ≡ false → x ≢ 34 → x ≢ 92 → class x ≡ other
class_other x s o q b = grind (arith, nat_tests)

-- ---- white space and words

pub past_space : (x : ℕ) (xs : List ℕ) → is_space x ≡ true → lex between (x ∷ xs) ≡ lex between xs
unfolding lex
past_space x xs h = ap (λ c. lex_byte between c x xs (λ n. lex n xs)) (class_space x h)

in_word_by : (c : Class) (x : ℕ) (xs : List ℕ) (k : Mode → List Lexeme) → lex_byte in_word c x xs k ≡ cond (ends_word c) (lex_byte between c x xs k) (k in_word)
in_word_by quote x xs k = refl
in_word_by backslash x xs k = refl
in_word_by operator x xs k = refl
in_word_by space x xs k = refl
in_word_by other x xs k = refl

pub word_byte : (x : ℕ) (xs : List ℕ) (b : Bool) → b ≡ (is_operator x || is_space x) → lex in_word (x ∷ xs) ≡ cond b (lex between (x ∷ xs)) (lex in_word xs)
unfolding lex
word_byte x xs b e = in_word_by (class x) x xs (λ n. lex n xs) ∙ ap (λ t. cond t (lex between (x ∷ xs)) (lex in_word xs)) (class_ends x ∙ sym e)

pub nothing_solid : (xs : List ℕ) → length xs < 1 → is_space (get_or xs 0 0) ≡ false
nothing_solid [] h = refl
nothing_solid (x ∷ xs) h = let no : ⊥ = omega arith in absurd no

pub nothing_lex : (m : Mode) (xs : List ℕ) → length xs < 1 → lex m xs ≡ []
unfolding lex
nothing_lex m [] h = refl
nothing_lex m (x ∷ xs) h = let no : ⊥ = omega arith in absurd no

-- ---- digits

drop_next : (x : ℕ) (xs : List ℕ) (n : ℕ) → drop (1 + n) (x ∷ xs) ≡ drop n xs
drop_next x xs n = let e : 1 + n ≡ suc n = omega arith in ap (λ k. drop k (x ∷ xs)) e

pub past_digit : (xs : List ℕ) → 1 ≤ length xs → is_ascii_digit (get_or xs 0 0) ≡ true → drop (prefix_len is_ascii_digit xs) xs ≡ drop (prefix_len is_ascii_digit (drop 1 xs)) (drop 1 xs)
past_digit [] l h = let no : ⊥ = omega arith in absurd no
past_digit (x ∷ xs) l h = ap (λ b. drop (cond b (1 + prefix_len is_ascii_digit xs) 0) (x ∷ xs)) h ∙ drop_next x xs (prefix_len is_ascii_digit xs)

-- ---- numbers and literals

-- a token that a word may be
abbrev IsWord : Token → Type 0
IsWord k = (IsPlain k × (is_good k ≡ true)) ⊎ (k ≡ bad)

choice : (b : Bool) (k l : Token) → IsWord k → IsWord l → IsWord (cond b k l)
choice true k l p q = p
choice false k l p q = q

number_is : (t : List ℕ) (o : Option (List ℕ)) → IsWord (number_before t o)
number_is t None = inr refl
number_is t (Some rest) = choice _ (number _) bad (inl (inl (_, refl), refl)) (inr refl)

word_is : (t : List ℕ) → IsWord (word t)
unfolding word
word_is t =
    choice _ (literal true_text (boolean true) t) _ (choice _ (boolean true) bad (inl (inr (inl (true, refl)), refl)) (inr refl))
    (choice _ (literal false_text (boolean false) t) _ (choice _ (boolean false) bad (inl (inr (inl (false, refl)), refl)) (inr refl))
    (choice _ (literal null_text null t) _ (choice _ null bad (inl (inr (inr refl), refl)) (inr refl)) (number_is t (after_number t))))

good_plain : (k : Token) → is_good k ≡ true → IsWord k → IsPlain k
good_plain k g (inl p) = p.0
good_plain k g (inr e) = absurd (true≢false (sym g ∙ ap is_good e))

wrong_bad : (k : Token) → is_good k ≡ false → IsWord k → k ≡ bad
wrong_bad k g (inl p) = absurd (true≢false (sym p.1 ∙ g))
wrong_bad k g (inr e) = e

-- ---- the lexeme that a byte begins

pub at_byte : (b : ℕ) (prefix : List ℕ) (ls : List Lexeme) → lex between prefix ≡ ls → 1 ≤ length prefix → get_or prefix 0 0 ≡ b → ls ≡ lex between (b ∷ take (length prefix - 1) (drop 1 prefix))
at_byte b prefix ls same some e = sym (ap (λ y. lex between (y ∷ take (length prefix - 1) (drop 1 prefix))) (sym e) ∙ (ap (lex between) (uncons prefix some) ∙ same))

pub text_first : (xs : List ℕ) (ls ms : List Lexeme) (o : Option (List ℕ)) → ls ≡ lex between (34 ∷ xs) → content plain xs ≡ o → is_some o ≡ true → lex in_string xs ≡ ms → IsFirst ls Text ms
unfolding lex
text_first xs ls ms None h e g l = absurd (false≢true g)
text_first xs ls ms (Some s) h e g l = (s, h ∙ ap₂ (λ o m. token (string_token o) ∷ m) e l)

pub text_bad : (xs : List ℕ) (ls ms : List Lexeme) (o : Option (List ℕ)) → ls ≡ lex between (34 ∷ xs) → content plain xs ≡ o → is_some o ≡ false → IsFirst ls Bad ms
unfolding lex
text_bad xs ls ms None h e g = (lex in_string xs, h ∙ ap (λ o. token (string_token o) ∷ lex in_string xs) e)
text_bad xs ls ms (Some s) h e g = absurd (true≢false g)

other_lex : (x : ℕ) (xs : List ℕ) → class x ≡ other → lex between (x ∷ xs) ≡ token (word (x ∷ xs)) ∷ lex in_word xs
unfolding lex
other_lex x xs h = ap (λ c. lex_byte between c x xs (λ n. lex n xs)) h

pub word_first : (x : ℕ) (xs : List ℕ) (ls ms : List Lexeme) → ls ≡ lex between (x ∷ xs) → class x ≡ other → true ≡ is_good (word (x ∷ xs)) → lex in_word xs ≡ ms → IsFirst ls Word ms
word_first x xs ls ms h o g l = (word (x ∷ xs), good_plain (word (x ∷ xs)) (sym g) (word_is (x ∷ xs)), h ∙ (other_lex x xs o ∙ ap (λ m. token (word (x ∷ xs)) ∷ m) l))

pub word_bad : (x : ℕ) (xs : List ℕ) (ls ms : List Lexeme) → ls ≡ lex between (x ∷ xs) → class x ≡ other → false ≡ is_good (word (x ∷ xs)) → IsFirst ls Bad ms
word_bad x xs ls ms h o g = (lex in_word xs, h ∙ (other_lex x xs o ∙ ap (λ k. token k ∷ lex in_word xs) (wrong_bad (word (x ∷ xs)) (sym g) (word_is (x ∷ xs)))))
