-- Texts of one line: ids, names, decimals, texts in JSON, and what is joined of such.
use Rattle.std.proofs.Common.{◌≡◌, ℕ, zero, suc, ◌/◌, ◌%◌, ◌<◌, ◌==◌, Bool, true, false, cond, not, ◌&&◌, List, [], ◌∷◌, ◌++◌, length, codes, refl, subst, arith, lt-ltb, inl, inr}
use Rattle.std.specs.Prelude.{nat_lt}
use Rattle.std.specs.Fmt.{decimal, digits, digit_glyph, digits_onto}
use Rattle.std.specs.List.{list_all, flat_map}
use Rattle.std.specs.Str.{IsAscii, IsUtf8, is_utf8}
use Rattle.std.proofs.lemmas.Bool.{and_parts, and_from, agree_below_at, cases_lt}
use Rattle.std.proofs.lemmas.Bool.Decides.{nat_tests}
use Rattle.std.proofs.lemmas.Str.{IsUtf8-append, IsUtf8-from_ascii, is_utf8-from_IsUtf8}
use Rattle.std.proofs.lemmas.Str.Ascii.{IsAscii-nil, IsAscii-cons}
use Rattle.json.proofs.Printed.Utf8.{IsUtf8-quoted}
use Rattle.lists.proofs.Passing.{all_append}
use Rattle.schema_model.specs.Ids.{is_id, is_id_byte}
use Rattle.matchmaker.proofs.Replies.{quoted_is}
use Rattle.hub_model.specs.Replies.{json_byte, json_text, refusal_reply, seat_reply}
use Rattle.text_model.specs.OutLines.{is_one_line}
use Rattle.text_model.specs.WordForms.{are_bytes, is_text}
use Rattle.text_model.proofs.Spaced.{all_pass, lacks}
use Rattle.print_laws.proofs.Bytes.{utf8_bytes}

-- a text in UTF-8 without LF
pub record OneLine (t : List ℕ) : Type 0 where
  pub utf8 : IsUtf8 t
  pub whole : lacks 10 t ≡ true

pub one_line : (t : List ℕ) → OneLine t → is_one_line t ≡ true
one_line t l =
    let words : is_utf8 t ≡ true = is_utf8-from_IsUtf8 t l.utf8 in
    and_from (is_text t) (lacks 10 t) (and_from (are_bytes t) (is_utf8 t) (utf8_bytes t words) words) l.whole

pub joined : (s t : List ℕ) → OneLine s → OneLine t → OneLine (s ++ t)
joined s t k l = record { utf8 = IsUtf8-append s t k.utf8 l.utf8; whole = all_append (λ b. not (b == 10)) s t k.whole l.whole }

-- ---- texts in ASCII

-- a byte of ASCII that is no LF
abbrev is_line_byte : ℕ → Bool
is_line_byte b = nat_lt b 128 && not (b == 10)

ascii_byte : (b : ℕ) → is_line_byte b ≡ true → b < 128
ascii_byte b h = grind (arith, nat_tests)

no_break : (b : ℕ) → is_line_byte b ≡ true → not (b == 10) ≡ true
no_break b h = (and_parts (nat_lt b 128) (not (b == 10)) h).1

are_ascii : (t : List ℕ) → list_all is_line_byte t ≡ true → IsAscii t
are_ascii [] h = IsAscii-nil
are_ascii (b ∷ t) h = (let p = and_parts (is_line_byte b) (list_all is_line_byte t) h in IsAscii-cons b t (ascii_byte b p.0) (are_ascii t p.1))

pub ascii_line : (t : List ℕ) → list_all is_line_byte t ≡ true → OneLine t
ascii_line t h = record { utf8 = IsUtf8-from_ascii t (are_ascii t h); whole = all_pass is_line_byte (λ b. not (b == 10)) t no_break h }

id_byte : (b : ℕ) → is_id_byte b ≡ true → is_line_byte b ≡ true
id_byte b h = grind (arith, nat_tests)

pub word_line : (w : List ℕ) → list_all is_id_byte w ≡ true → OneLine w
word_line w h = ascii_line w (all_pass is_id_byte is_line_byte w id_byte h)

pub id_line : (w : List ℕ) → is_id w ≡ true → OneLine w
id_line w h = word_line w (and_parts (length w == 9) (list_all is_id_byte w) h).1

digit_byte : (n : ℕ) → is_line_byte (digit_glyph false (n % 10)) ≡ true
digit_byte n = rw (lt-ltb (n % 10) 10 (omega arith)) (grind (arith, nat_tests))

digits_line : (k n : ℕ) (acc : List ℕ) → list_all is_line_byte acc ≡ true → list_all is_line_byte (digits_onto k 10 false n acc) ≡ true
digits_line zero n acc h = h
digits_line (suc k) n acc h =
    let more = and_from (is_line_byte (digit_glyph false (n % 10))) (list_all is_line_byte acc) (digit_byte n) h in
    by_last (n / 10 == 0) more (digits_line k (n / 10) (digit_glyph false (n % 10) ∷ acc) more)
  where
    by_last : (b : Bool) → list_all is_line_byte (digit_glyph false (n % 10) ∷ acc) ≡ true → list_all is_line_byte (digits_onto k 10 false (n / 10) (digit_glyph false (n % 10) ∷ acc)) ≡ true
        → list_all is_line_byte (cond b (digit_glyph false (n % 10) ∷ acc) (digits_onto k 10 false (n / 10) (digit_glyph false (n % 10) ∷ acc))) ≡ true
    by_last true last more = last
    by_last false last more = more

pub decimal_line : (n : ℕ) → OneLine (decimal n)
unfolding digits
decimal_line n = ascii_line (digits_onto 64 10 false n []) (digits_line 64 n [] refl)

-- ---- texts in JSON

json_byte_line : (b : ℕ) → lacks 10 (json_byte b) ≡ true
json_byte_line b = elim (cases_lt b 128) [
  | inl small ↦ agree_below_at (λ b. lacks 10 (json_byte b)) (λ _. true) 128 b refl small
  | inr large ↦ grind (arith, nat_tests)
]

json_line : (t : List ℕ) → lacks 10 (flat_map json_byte t) ≡ true
json_line [] = refl
json_line (b ∷ t) = all_append (λ b. not (b == 10)) (json_byte b) (flat_map json_byte t) (json_byte_line b) (json_line t)

pub quoted_line : (t : List ℕ) → IsUtf8 t → OneLine (json_text t)
quoted_line t u = record {
  utf8 = subst IsUtf8 (quoted_is t) (IsUtf8-quoted t u);
  whole = all_append (λ b. not (b == 10)) (flat_map json_byte t) (34 ∷ []) (json_line t) refl;
}

-- ---- replies

pub seat_line : (clients max : ℕ) (name process room session : List ℕ) → IsUtf8 name → IsUtf8 process → IsUtf8 room → IsUtf8 session → OneLine (seat_reply clients max name process room session)
seat_line clients max name process room session n p r s =
    joined _ _ (ascii_line (codes "{\"room\":{\"clients\":") refl) (joined _ _ (decimal_line clients) (joined _ _ (ascii_line (codes ",\"maxClients\":") refl) (joined _ _ (decimal_line max)
    (joined _ _ (ascii_line (codes ",\"name\":") refl) (joined _ _ (quoted_line name n) (joined _ _ (ascii_line (codes ",\"processId\":") refl) (joined _ _ (quoted_line process p)
    (joined _ _ (ascii_line (codes ",\"roomId\":") refl) (joined _ _ (quoted_line room r) (joined _ _ (ascii_line (codes "},\"sessionId\":") refl) (joined _ _ (quoted_line session s) (ascii_line (codes "}") refl))))))))))))

pub refusal_line : (code : ℕ) (text : List ℕ) → IsUtf8 text → OneLine (refusal_reply code text)
refusal_line code text u =
    joined _ _ (ascii_line (codes "{\"code\":") refl) (joined _ _ (decimal_line code) (joined _ _ (ascii_line (codes ",\"error\":") refl) (joined _ _ (quoted_line text u) (ascii_line (codes "}") refl))))
