-- One character of a text after another.
use Rattle.std.proofs.Common.{◌≡◌, ℕ, ◌+◌, ◌<◌, ⊎_elim, Bool, true, false, List, [], ◌∷◌, ◌++◌, length, take, drop, get_or, Result, Ok, Err, refl, sym, ap, ◌∙◌, subst, arith, length-append}
use Rattle.std.proofs.lemmas.Bool.{and_parts, false_from_ne_true, true≢false}
use Rattle.std.proofs.lemmas.Bool.Decides.{nat_tests}
use Rattle.std.proofs.lemmas.Str.{IsUtf8-append, IsUtf8-encode, IsUtf8-from_is_utf8, is_utf8-from_IsUtf8}
use Rattle.std.proofs.Math.Seq.{take-append_seam, drop-append_seam}
use Rattle.std.specs.Bool.{MatchBool}
use Rattle.std.specs.Prelude.{is_ok, MatchResult}
use Rattle.std.specs.Str.{continuation_len, IsUtf8, is_utf8}
use lib.Utf8.{encode, encodes, scalar, scalars, scalar_cases}

code_bound : (c : ℕ) → scalar c ≡ true → c < 1114112
code_bound c h = ⊎_elim (λ l. omega arith) (λ l. l.1) (scalar_cases c h)

-- a character is as long as its first byte tells
pub lead_len : (c : ℕ) (rest : List ℕ) → c < 1114112 → 1 + continuation_len (get_or (encode c ++ rest) 0 0) ≡ length (encode c)
unfolding encode
lead_len c rest h = grind (arith, nat_tests)

no_chars : {P : Type 0} (first : ℕ) (all : List ℕ) → encodes [] ≡ first ∷ all → P
no_chars first all e = let no : ⊥ = omega (arith, ap length e) in absurd no

first_char : (c first : ℕ) (cs all : List ℕ) → scalars (c ∷ cs) ≡ true → encodes (c ∷ cs) ≡ first ∷ all → length (encode c) ≡ 1 + continuation_len first
first_char c first cs all s e =
    let bound = code_bound c (and_parts (scalar c) (scalars cs) s).0 in
    sym (lead_len c (encodes cs) bound) ∙ ap (λ l. 1 + continuation_len (get_or l 0 0)) e

seam : (ws bs xs ys : List ℕ) → ws ++ bs ≡ xs ++ ys → length ws ≡ length xs → (ws ≡ xs) × (bs ≡ ys)
seam ws bs xs ys e long = (
  sym (take-append_seam ws bs) ∙ (ap (take (length ws)) e ∙ (ap (λ n. take n (xs ++ ys)) long ∙ take-append_seam xs ys)),
  sym (drop-append_seam ws bs) ∙ (ap (drop (length ws)) e ∙ (ap (λ n. drop n (xs ++ ys)) long ∙ drop-append_seam xs ys)),
)

by_chars : (first : ℕ) (all xs ys cs : List ℕ) → first ∷ all ≡ xs ++ ys → length xs ≡ 1 + continuation_len first → scalars cs ≡ true → encodes cs ≡ first ∷ all → IsUtf8 xs × IsUtf8 ys
by_chars first all xs ys [] whole long s e = no_chars first all e
by_chars first all xs ys (c ∷ cs) whole long s e =
    let parts = and_parts (scalar c) (scalars cs) s in
    let same = seam (encode c) (encodes cs) xs ys (e ∙ whole) (first_char c first cs all s e ∙ sym long) in
    (subst IsUtf8 same.0 (IsUtf8-encode c parts.0), subst IsUtf8 same.1 (cs, (parts.1, refl)))

-- where as many bytes as the first one tells are followed by others, both are texts if all is one
pub both_texts : (first : ℕ) (all xs ys : List ℕ) → first ∷ all ≡ xs ++ ys → length xs ≡ 1 + continuation_len first → IsUtf8 (first ∷ all) → IsUtf8 xs × IsUtf8 ys
both_texts first all xs ys whole long u = by_chars first all xs ys u.0 whole long u.1.0 u.1.1

too_short : (first : ℕ) (all cs : List ℕ) → length (first ∷ all) < 1 + continuation_len first → scalars cs ≡ true → encodes cs ≡ first ∷ all → ⊥
too_short first all [] short s e = no_chars first all e
too_short first all (c ∷ cs) short s e = omega (arith, first_char c first cs all s e, ap length e, length-append (encode c) (encodes cs))

-- fewer bytes than the first one tells are no text
pub not_text : (first : ℕ) (all : List ℕ) → length (first ∷ all) < 1 + continuation_len first → is_utf8 (first ∷ all) ≡ false
not_text first all short = false_from_ne_true _ (λ t. let u = IsUtf8-from_is_utf8 (first ∷ all) t in too_short first all u.0 short u.1.0 u.1.1)

same_tests : (a b : Bool) → (a ≡ true → b ≡ true) → (b ≡ true → a ≡ true) → a ≡ b
same_tests true b f g = sym (f refl)
same_tests false true f g = g refl
same_tests false false f g = refl

-- whether all is text, by whether the bytes of its first character are
pub by_first : (first : ℕ) (all xs ys : List ℕ) (b : Bool) → first ∷ all ≡ xs ++ ys → length xs ≡ 1 + continuation_len first → b ≡ is_utf8 xs
    → MatchBool b (is_utf8 (first ∷ all) ≡ is_utf8 ys) (is_utf8 (first ∷ all) ≡ false)
by_first first all xs ys true whole long test =
    same_tests (is_utf8 (first ∷ all)) (is_utf8 ys) (λ t. is_utf8-from_IsUtf8 ys (both_texts first all xs ys whole long (IsUtf8-from_is_utf8 _ t)).1)
    (λ t. is_utf8-from_IsUtf8 _ (subst IsUtf8 (sym whole) (IsUtf8-append xs ys (IsUtf8-from_is_utf8 xs (sym test)) (IsUtf8-from_is_utf8 ys t))))
by_first first all xs ys false whole long test =
    false_from_ne_true _ (λ t. true≢false (sym (test ∙ is_utf8-from_IsUtf8 xs (both_texts first all xs ys whole long (IsUtf8-from_is_utf8 _ t)).0)))

-- what the test of std answers
pub text_test : {T E : Type 0} (P : T → Type 0) (Q : E → Type 0) (bytes : List ℕ) (r : Result T E) → MatchResult r (λ s. P s × IsUtf8 bytes) (λ e. (IsUtf8 bytes → ⊥) × Q e) → is_ok r ≡ is_utf8 bytes
text_test P Q bytes (Ok s) h = sym (is_utf8-from_IsUtf8 bytes h.1)
text_test P Q bytes (Err e) h = sym (false_from_ne_true _ (λ t. h.0 (IsUtf8-from_is_utf8 bytes t)))
