-- Texts in UTF-8, numbers and scalars are told by bytes.
use Rattle.std.proofs.Common.{◌≡◌, ℕ, zero, suc, ◌+◌, ◌-◌, ◌/◌, ◌<◌, Bool, true, false, cond, List, [], ◌∷◌, ◌++◌, length, take, drop, ℤ, pos, negsuc, refl, subst, arith, ltb-true, lt-ltb, inl, inr}
use Rattle.std.specs.Prelude.{nat_lt}
use Rattle.std.specs.Int.{Width, w8, w16, w32, to_le_bytes, byte_at, byte_len, bytes_low_first, cast_unsigned}
use Rattle.std.specs.List.{list_all, flat_map}
use Rattle.std.specs.Str.{is_utf8}
use Rattle.std.proofs.lemmas.Bool.{and_parts, and_from}
use Rattle.std.proofs.lemmas.List.Elements.{All-take, All-drop}
use Rattle.std.proofs.lemmas.List.Sums.{AllPass-from_list_all, list_all-from_AllPass}
use Rattle.std.proofs.lemmas.Str.{IsUtf8-from_is_utf8}
use lib.Utf8.{scalar, scalars, scalar_cases, encode, encodes, next}
use Rattle.lists.proofs.Passing.{all_append}
use Rattle.schema_model.specs.Fits.{is_worded}
use Rattle.schema_model.specs.Spelling.{number_bytes, text_head, text_bytes, truth_bytes, fixed_bytes, spelling}
use Rattle.schema_model.specs.declared.scalar.ScalarKind.{ScalarKind}
use Rattle.schema_model.specs.declared.scalar.ScalarKind.TheVariants as kind
use Rattle.schema_model.specs.declared.value.Value.{Value}
use Rattle.schema_model.specs.declared.value.Value.TheVariants as value
use Rattle.text_model.specs.WordForms.{are_bytes}

abbrev is_byte : ℕ → Bool
is_byte b = nat_lt b 256

-- ---- lists of bytes

pub bytes_append : (xs ys : List ℕ) → are_bytes xs ≡ true → are_bytes ys ≡ true → are_bytes (xs ++ ys) ≡ true
bytes_append xs ys h k = all_append is_byte xs ys h k

pub byte_before : (b : ℕ) (bs : List ℕ) → b < 256 → are_bytes bs ≡ true → are_bytes (b ∷ bs) ≡ true
byte_before b bs small h = and_from (nat_lt b 256) (are_bytes bs) (lt-ltb b 256 small) h

pub bytes_taken : (n : ℕ) (xs : List ℕ) → are_bytes xs ≡ true → are_bytes (take n xs) ≡ true
bytes_taken n xs h = list_all-from_AllPass is_byte (take n xs) (All-take (λ b. is_byte b ≡ true) n xs (AllPass-from_list_all is_byte xs h))

pub bytes_behind : (n : ℕ) (xs : List ℕ) → are_bytes xs ≡ true → are_bytes (drop n xs) ≡ true
bytes_behind n xs h = list_all-from_AllPass is_byte (drop n xs) (All-drop (λ b. is_byte b ≡ true) n xs (AllPass-from_list_all is_byte xs h))

pub bytes_made : {X : Type 0} (test : X → Bool) (f : X → List ℕ) → ((x : X) → test x ≡ true → are_bytes (f x) ≡ true) → (xs : List X) → list_all test xs ≡ true → are_bytes (flat_map f xs) ≡ true
bytes_made test f each [] h = refl
bytes_made test f each (x ∷ xs) h =
    let p = and_parts (test x) (list_all test xs) h in
    bytes_append (f x) (flat_map f xs) (each x p.0) (bytes_made test f each xs p.1)

-- ---- one byte, or a mark before bytes

one_byte : (n : ℕ) → n < 256 → are_bytes (n ∷ []) ≡ true
one_byte n small = byte_before n [] small refl

abbrev Small : List ℕ → Type 0
Small bs = are_bytes bs ≡ true

-- of four forms by how large a number is
by_size : (a b c : Bool) (w x y z : List ℕ) → (a ≡ true → Small w) → (b ≡ true → Small x) → (c ≡ true → Small y) → Small z → Small (cond a w (cond b x (cond c y z)))
by_size true b c w x y z f g h k = f refl
by_size false true c w x y z f g h k = g refl
by_size false false true w x y z f g h k = h refl
by_size false false false w x y z f g h k = k

-- ---- texts

-- a byte that isn't the first of its character
later_byte : (n : ℕ) (bs : List ℕ) → are_bytes bs ≡ true → are_bytes (next n ∷ bs) ≡ true
later_byte n bs h = byte_before (next n) bs (omega arith) h

char_bytes : (c : ℕ) → scalar c ≡ true → are_bytes (encode c) ≡ true
unfolding encode
char_bytes c h =
    let last : c < 1114112 = elim (scalar_cases c h) [ inl low ↦ omega arith | inr high ↦ high.1 ] in
    by_size (nat_lt c 128) (nat_lt c 2048) (nat_lt c 65536) _ _ _ _ (λ e. one_byte c (omega (arith, ltb-true c 128 e)))
    (λ e. byte_before (192 + c / 64) (next c ∷ []) (omega (arith, ltb-true c 2048 e)) one)
    (λ e. byte_before (224 + c / 4096) (next (c / 64) ∷ next c ∷ []) (omega (arith, ltb-true c 65536 e)) two)
    (byte_before (240 + c / 262144) (next (c / 4096) ∷ next (c / 64) ∷ next c ∷ []) (omega (arith, last)) (later_byte (c / 4096) (next (c / 64) ∷ next c ∷ []) two))
  where
    one : are_bytes (next c ∷ []) ≡ true
    one = later_byte c [] refl

    two : are_bytes (next (c / 64) ∷ next c ∷ []) ≡ true
    two = later_byte (c / 64) (next c ∷ []) one

chars_bytes : (cs : List ℕ) → scalars cs ≡ true → are_bytes (encodes cs) ≡ true
chars_bytes [] h = refl
chars_bytes (c ∷ cs) h =
    let p = and_parts (scalar c) (scalars cs) h in
    bytes_append (encode c) (encodes cs) (char_bytes c p.0) (chars_bytes cs p.1)

pub utf8_bytes : (t : List ℕ) → is_utf8 t ≡ true → are_bytes t ≡ true
utf8_bytes t h =
    let u = IsUtf8-from_is_utf8 t h in
    subst (λ t. are_bytes t ≡ true) u.1.1 (chars_bytes u.0 u.1.0)

-- ---- numbers

small_byte_at : (i n : ℕ) → byte_at i n < 256
small_byte_at zero n = omega arith
small_byte_at (suc i) n = omega arith

low_bytes : (i k n : ℕ) → are_bytes (bytes_low_first i k n) ≡ true
low_bytes i zero n = refl
low_bytes i (suc k) n = byte_before (byte_at i n) (bytes_low_first (suc i) k n) (small_byte_at i n) (low_bytes (suc i) k n)

width_bytes : (w : Width) (n : ℕ) → are_bytes (to_le_bytes w n) ≡ true
width_bytes w n = low_bytes 0 (byte_len w) n

pub number_small : (z : ℤ) → are_bytes (number_bytes z) ≡ true
number_small (pos n) =
    by_size (nat_lt n 128) (nat_lt n 256) (nat_lt n 65536) _ _ _ _ (λ e. one_byte n (omega (arith, ltb-true n 128 e))) (λ e. byte_before 204 (n ∷ []) (omega arith) (one_byte n (ltb-true n 256 e)))
    (λ e. byte_before 205 (to_le_bytes w16 n) (omega arith) (width_bytes w16 n)) (byte_before 206 (to_le_bytes w32 n) (omega arith) (width_bytes w32 n))
number_small (negsuc n) =
    by_size (nat_lt n 32) (nat_lt n 128) (nat_lt n 32768) _ _ _ _ (λ e. one_byte (255 - n) (omega arith)) (λ e. byte_before 208 ((255 - n) ∷ []) (omega arith) (one_byte (255 - n) (omega arith)))
    (λ e. byte_before 209 (to_le_bytes w16 (65535 - n)) (omega arith) (width_bytes w16 (65535 - n))) (byte_before 210 (to_le_bytes w32 (4294967295 - n)) (omega arith) (width_bytes w32 (4294967295 - n)))

head_small : (n : ℕ) → are_bytes (text_head n) ≡ true
head_small n =
    by_size (nat_lt n 32) (nat_lt n 256) (nat_lt n 65536) _ _ _ _ (λ e. one_byte (160 + n) (omega (arith, ltb-true n 32 e))) (λ e. byte_before 217 (n ∷ []) (omega arith) (one_byte n (ltb-true n 256 e)))
    (λ e. byte_before 218 (to_le_bytes w16 n) (omega arith) (width_bytes w16 n)) (byte_before 219 (to_le_bytes w32 n) (omega arith) (width_bytes w32 n))

pub text_small : (t : List ℕ) → are_bytes t ≡ true → are_bytes (text_bytes t) ≡ true
text_small t h = bytes_append (text_head (length t)) t (head_small (length t)) h

-- ---- scalars

fixed_small : (w : Width) (z : ℤ) → are_bytes (fixed_bytes w z) ≡ true
fixed_small w z = width_bytes w (cast_unsigned w z)

truth_small : (b : Bool) → are_bytes (truth_bytes b) ≡ true
truth_small true = refl
truth_small false = refl

pub scalar_small : (k : ScalarKind) (v : Value) → is_worded v ≡ true → are_bytes (spelling k v) ≡ true
scalar_small kind.Number (value.Whole z) h = number_small z
scalar_small kind.Str (value.Str t) h = text_small t (utf8_bytes t h)
scalar_small kind.Bool (value.Truth b) h = truth_small b
scalar_small kind.I8 (value.Whole z) h = fixed_small w8 z
scalar_small kind.U8 (value.Whole z) h = fixed_small w8 z
scalar_small kind.I16 (value.Whole z) h = fixed_small w16 z
scalar_small kind.U16 (value.Whole z) h = fixed_small w16 z
scalar_small kind.I32 (value.Whole z) h = fixed_small w32 z
scalar_small kind.U32 (value.Whole z) h = fixed_small w32 z
scalar_small k v h = refl
