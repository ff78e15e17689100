-- The names of a load: its ids are ids, and its targets are ASCII.
use Rattle.std.proofs.Common.{◌≡◌, ℕ, ◌-◌, Bool, true, false, List, [], ◌∷◌, cond, refl, arith}
use Rattle.std.specs.Prelude.{◌/◌, nat_lt}
use Rattle.std.specs.List.{list_all}
use Rattle.std.specs.Str.{IsAscii, is_utf8}
use Rattle.std.proofs.lemmas.Bool.{and_from, and_parts, ltb-true, lt-ltb}
use Rattle.std.proofs.lemmas.Bool.Decides.{nat_tests}
use Rattle.std.proofs.lemmas.Str.{is_utf8-from_IsUtf8, IsUtf8-from_ascii}
use Rattle.std.proofs.lemmas.Str.Ascii.{IsAscii-nil, IsAscii-cons}
use Rattle.schema_model.specs.Ids.{is_id, is_id_byte}
use Rattle.text_model.specs.WordForms.{are_bytes, is_text}
use Rattle.load_maker.specs.Generated.{digit, process_id, return_id, return_target, room_id, session_id, token_before, token_id}

-- ---- ids

digit_is : (n : ℕ) → is_id_byte (digit n) ≡ true
digit_is n = grind (arith, nat_tests)

pub session_is : (i : ℕ) → is_id (session_id i) ≡ true
session_is i = and_from (is_id_byte (digit i)) true (digit_is i) refl

pub token_is : (i : ℕ) → is_id (token_id i) ≡ true
token_is i = and_from (is_id_byte (digit i)) true (digit_is i) refl

pub return_is : (k : ℕ) → is_id (return_id k) ≡ true
return_is k =
    and_from (is_id_byte (digit (k / 100000))) _ (digit_is (k / 100000))
    (and_from (is_id_byte (digit (k / 10000))) _ (digit_is (k / 10000))
    (and_from (is_id_byte (digit (k / 1000))) _ (digit_is (k / 1000))
    (and_from (is_id_byte (digit (k / 100))) _ (digit_is (k / 100))
    (and_from (is_id_byte (digit (k / 10))) _ (digit_is (k / 10))
    (and_from (is_id_byte (digit k)) true (digit_is k) refl)))))

-- ---- texts

abbrev is_ascii : List ℕ → Bool
is_ascii w = list_all (λ b. nat_lt b 128) w

bytes_from_ascii : (w : List ℕ) → is_ascii w ≡ true → are_bytes w ≡ true
bytes_from_ascii [] h = refl
bytes_from_ascii (b ∷ w) h =
    let p = and_parts (nat_lt b 128) (is_ascii w) h in
    and_from (nat_lt b 256) (are_bytes w) (lt-ltb b 256 (omega (arith, ltb-true b 128 p.0))) (bytes_from_ascii w p.1)

IsAscii-from : (w : List ℕ) → is_ascii w ≡ true → IsAscii w
IsAscii-from [] h = IsAscii-nil
IsAscii-from (b ∷ w) h = let p = and_parts (nat_lt b 128) (is_ascii w) h in IsAscii-cons b w (ltb-true b 128 p.0) (IsAscii-from w p.1)

text_from_ascii : (w : List ℕ) → is_ascii w ≡ true → is_text w ≡ true
text_from_ascii w h = and_from (are_bytes w) (is_utf8 w) (bytes_from_ascii w h) (is_utf8-from_IsUtf8 w (IsUtf8-from_ascii w (IsAscii-from w h)))

digit_small : (n : ℕ) → nat_lt (digit n) 128 ≡ true
digit_small n = lt-ltb (digit n) 128 (omega arith)

return_ascii : (k : ℕ) → is_ascii (return_id k) ≡ true
return_ascii k =
    and_from (nat_lt (digit (k / 100000)) 128) _ (digit_small (k / 100000))
    (and_from (nat_lt (digit (k / 10000)) 128) _ (digit_small (k / 10000))
    (and_from (nat_lt (digit (k / 1000)) 128) _ (digit_small (k / 1000))
    (and_from (nat_lt (digit (k / 100)) 128) _ (digit_small (k / 100))
    (and_from (nat_lt (digit (k / 10)) 128) _ (digit_small (k / 10))
    (and_from (nat_lt (digit k) 128) true (digit_small k) refl)))))

token_ascii : (k : ℕ) (b : Bool) → is_ascii (cond b (token_id 1) (return_id (k - 200))) ≡ true
token_ascii k true = refl
token_ascii k false = return_ascii (k - 200)

under_token : (w : List ℕ) → is_ascii w ≡ true → is_ascii (return_target process_id room_id (session_id 1) w) ≡ true
under_token w h = h

pub return_text : (k : ℕ) → is_text (return_target process_id room_id (session_id 1) (token_before k)) ≡ true
return_text k = text_from_ascii (return_target process_id room_id (session_id 1) (token_before k)) (under_token (token_before k) (token_ascii k (nat_lt k 200)))
