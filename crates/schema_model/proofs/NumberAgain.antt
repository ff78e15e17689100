-- What was written as a `number` is read again, whatever stands before and behind it.
use Rattle.std.proofs.Common.{◌≡◌, ℕ, suc, ◌+◌, ◌-◌, ◌^◌, ◌<◌, Bool, true, false, cond, List, [], ◌∷◌, ◌++◌, length, Ok, refl, ap, ◌∙◌, arith, ℤ, pos, negsuc, append_assoc, length-append, ltb, leb}
use Rattle.std.specs.Int.{Width, w8, w16, w32, byte_len, from_le_bytes, to_le_bytes, cast_signed}
use Rattle.std.proofs.lemmas.List.{take_at, drop_at}
use Rattle.std.proofs.lemmas.Nat.{from_le_bytes-to_le_bytes_2, from_le_bytes-to_le_bytes_4}
use Rattle.std.proofs.lemmas.Bool.Decides.{nat_tests}
use Rattle.std.proofs.lemmas.Int.{to_z-of_z}
use mir.Val.{bits, hbits, SFits}
use Rattle.schema_model.specs.Spelling.{number_bytes}
use Rattle.schema_model.specs.Reading.{fixed_at, signed_at, unsigned_at, wide_at, number_of, number_at}
use Rattle.schema_model.specs.Fits.{in_signed}

-- ---- fixed widths

-- a part of the right length between two lists is read as its number
pub fixed_part : (w : Width) (prefix part more : List ℕ) → length part ≡ byte_len w → fixed_at w (prefix ++ (part ++ more)) (length prefix) ≡ Ok (from_le_bytes w part, length prefix + byte_len w)
fixed_part w prefix part more e =
    let d = drop_at prefix (part ++ more) (length prefix) refl in
    let t = take_at part more (byte_len w) e in
    let l : length (prefix ++ (part ++ more)) ≡ length prefix + (byte_len w + length more) =
    omega (arith, length-append prefix (part ++ more), length-append part more, e) in
    let fits : ltb (length (prefix ++ (part ++ more))) (length prefix + byte_len w) ≡ false = grind (arith, nat_tests) in
    rw (fits, d, t) refl

-- a number written in one byte is read again
pub fixed_again_8 : (prefix more : List ℕ) (n : ℕ) → n < 2 ^ 8 → fixed_at w8 (prefix ++ (to_le_bytes w8 n ++ more)) (length prefix) ≡ Ok (n, length prefix + byte_len w8)
fixed_again_8 prefix more n h =
    let e : from_le_bytes w8 (to_le_bytes w8 n) ≡ n = omega arith in
    fixed_part w8 prefix (to_le_bytes w8 n) more refl ∙ ap (λ x. Ok (x, length prefix + byte_len w8)) e

-- a number written in two bytes is read again
pub fixed_again_16 : (prefix more : List ℕ) (n : ℕ) → n < 2 ^ 16 → fixed_at w16 (prefix ++ (to_le_bytes w16 n ++ more)) (length prefix) ≡ Ok (n, length prefix + byte_len w16)
fixed_again_16 prefix more n h =
    fixed_part w16 prefix (to_le_bytes w16 n) more refl ∙ ap (λ x. Ok (x, length prefix + byte_len w16)) (from_le_bytes-to_le_bytes_2 n h)

-- a number written in four bytes is read again
pub fixed_again_32 : (prefix more : List ℕ) (n : ℕ) → n < 2 ^ 32 → fixed_at w32 (prefix ++ (to_le_bytes w32 n ++ more)) (length prefix) ≡ Ok (n, length prefix + byte_len w32)
fixed_again_32 prefix more n h =
    fixed_part w32 prefix (to_le_bytes w32 n) more refl ∙ ap (λ x. Ok (x, length prefix + byte_len w32)) (from_le_bytes-to_le_bytes_4 n h)

-- two's complement, back to the negative number
pub cast_again : (w : Width) (n m : ℕ) → n < 2 ^ hbits w → m + suc n ≡ 2 ^ bits w → cast_signed w m ≡ negsuc n
cast_again w n m h e =
    let fits : SFits w (negsuc n) = record { sfits = h } in
    let d : m ≡ 2 ^ bits w - suc n = omega arith in
    ap (cast_signed w) d ∙ to_z-of_z w (negsuc n) fits

-- ---- a first byte, then a fixed width

-- a part is read behind a first byte as behind a list that ends in it
pub behind_first : (w : Width) (prefix part more : List ℕ) (first n : ℕ) → fixed_at w ((prefix ++ first ∷ []) ++ (part ++ more)) (length (prefix ++ first ∷ [])) ≡ Ok (n, length (prefix ++ first ∷ []) + byte_len w)
    → fixed_at w (prefix ++ first ∷ (part ++ more)) (length prefix + 1) ≡ Ok (n, length prefix + suc (byte_len w))
behind_first w prefix part more first n e =
    let place : length prefix + 1 + byte_len w ≡ length prefix + suc (byte_len w) = omega arith in
    let moved = rw (append_assoc prefix (first ∷ []) (part ++ more), length-append prefix (first ∷ [])) at e in
    moved ∙ ap (λ k. Ok (n, k)) place

-- the first byte chooses the form
by_first : (prefix rest : List ℕ) (first : ℕ) → number_at (prefix ++ first ∷ rest) (length prefix) ≡ number_of (prefix ++ first ∷ rest) (length prefix) first
unfolding number_at
by_first prefix rest first = rw (fixed_part w8 prefix (first ∷ []) rest refl) refl

-- bytes between two lists are read as this number
abbrev IsRead : List ℕ → List ℕ → ℤ → List ℕ → Type 0
IsRead prefix more z bytes = number_at (prefix ++ (bytes ++ more)) (length prefix) ≡ Ok (z, length prefix + length bytes)

-- ---- each form

tiny : (prefix more : List ℕ) (n : ℕ) → n < 128 → IsRead prefix more (pos n) (n ∷ [])
unfolding number_of
tiny prefix more n h =
    let t : ltb n 128 ≡ true = grind (arith, nat_tests) in
    by_first prefix more n ∙ rw t refl

minus_tiny : (prefix more : List ℕ) (n : ℕ) → n < 32 → IsRead prefix more (negsuc n) ((255 - n) ∷ [])
unfolding number_of
minus_tiny prefix more n h =
    let t : ltb (255 - n) 128 ≡ false = grind (arith, nat_tests) in
    let u : leb 224 (255 - n) ≡ true = grind (arith, nat_tests) in
    let e : 255 - (255 - n) ≡ n = omega arith in
    by_first prefix more (255 - n) ∙ rw (t, u, e) refl

unsigned_8 : (prefix more : List ℕ) (n : ℕ) → IsRead prefix more (pos n) (204 ∷ n ∷ [])
unfolding number_of unsigned_at
unsigned_8 prefix more n =
    let e = behind_first w8 prefix (n ∷ []) more 204 n (fixed_part w8 (prefix ++ 204 ∷ []) (n ∷ []) more refl) in
    by_first prefix (n ∷ more) 204 ∙ rw e refl

unsigned_16 : (prefix more : List ℕ) (n : ℕ) → n < 2 ^ 16 → IsRead prefix more (pos n) (205 ∷ to_le_bytes w16 n)
unfolding number_of unsigned_at
unsigned_16 prefix more n h =
    let e = behind_first w16 prefix (to_le_bytes w16 n) more 205 n (fixed_again_16 (prefix ++ 205 ∷ []) more n h) in
    by_first prefix (to_le_bytes w16 n ++ more) 205 ∙ rw e refl

unsigned_32 : (prefix more : List ℕ) (n : ℕ) → n < 2 ^ 31 → IsRead prefix more (pos n) (206 ∷ to_le_bytes w32 n)
unfolding number_of wide_at
unsigned_32 prefix more n h =
    let below : n < 2 ^ 32 = omega arith in
    let t : ltb n 2147483648 ≡ true = grind (arith, nat_tests) in
    let e = behind_first w32 prefix (to_le_bytes w32 n) more 206 n (fixed_again_32 (prefix ++ 206 ∷ []) more n below) in
    by_first prefix (to_le_bytes w32 n ++ more) 206 ∙ rw (e, t) refl

minus_8 : (prefix more : List ℕ) (n : ℕ) → n < 128 → IsRead prefix more (negsuc n) (208 ∷ (255 - n) ∷ [])
unfolding number_of signed_at
minus_8 prefix more n h =
    let e = behind_first w8 prefix ((255 - n) ∷ []) more 208 (255 - n) (fixed_part w8 (prefix ++ 208 ∷ []) ((255 - n) ∷ []) more refl) in
    by_first prefix ((255 - n) ∷ more) 208 ∙ rw (e, cast_again w8 n (255 - n) h (omega arith)) refl

minus_16 : (prefix more : List ℕ) (n : ℕ) → n < 32768 → IsRead prefix more (negsuc n) (209 ∷ to_le_bytes w16 (65535 - n))
unfolding number_of signed_at
minus_16 prefix more n h =
    let below : 65535 - n < 2 ^ 16 = omega arith in
    let e = behind_first w16 prefix (to_le_bytes w16 (65535 - n)) more 209 (65535 - n) (fixed_again_16 (prefix ++ 209 ∷ []) more (65535 - n) below) in
    by_first prefix (to_le_bytes w16 (65535 - n) ++ more) 209 ∙ rw (e, cast_again w16 n (65535 - n) h (omega arith)) refl

minus_32 : (prefix more : List ℕ) (n : ℕ) → n < 2 ^ 31 → IsRead prefix more (negsuc n) (210 ∷ to_le_bytes w32 (4294967295 - n))
unfolding number_of signed_at
minus_32 prefix more n h =
    let below : 4294967295 - n < 2 ^ 32 = omega arith in
    let e = behind_first w32 prefix (to_le_bytes w32 (4294967295 - n)) more 210 (4294967295 - n) (fixed_again_32 (prefix ++ 210 ∷ []) more (4294967295 - n) below) in
    by_first prefix (to_le_bytes w32 (4294967295 - n) ++ more) 210 ∙ rw (e, cast_again w32 n (4294967295 - n) h (omega arith)) refl

-- ---- all forms

-- what holds of each value of a chain of three tests, where its test holds, holds of the chain
pub by_chain : {X : Type 0} (P : X → Type 0) (a b c : Bool) (w x y z : X) → (a ≡ true → P w) → (b ≡ true → P x) → (c ≡ true → P y) → P z → P (cond a w (cond b x (cond c y z)))
by_chain P true b c w x y z p q r s = p refl
by_chain P false true c w x y z p q r s = q refl
by_chain P false false true w x y z p q r s = r refl
by_chain P false false false w x y z p q r s = s

pub ltb_below : (n k : ℕ) → ltb n k ≡ true → n < k
ltb_below n k h = grind (arith, nat_tests)

-- what was written as a `number` is read again, whatever stands before and behind it
pub number_again : (prefix more : List ℕ) (z : ℤ) → in_signed (2 ^ 31) z ≡ true → number_at (prefix ++ (number_bytes z ++ more)) (length prefix) ≡ Ok (z, length prefix + length (number_bytes z))
number_again prefix more (pos n) h =
    by_chain (IsRead prefix more (pos n)) (ltb n 128) (ltb n 256) (ltb n 65536) _ _ _ _ (λ e. tiny prefix more n (ltb_below n 128 e)) (λ _. unsigned_8 prefix more n)
    (λ e. unsigned_16 prefix more n (ltb_below n 65536 e)) (unsigned_32 prefix more n (ltb_below n (2 ^ 31) h))
number_again prefix more (negsuc n) h =
    by_chain (IsRead prefix more (negsuc n)) (ltb n 32) (ltb n 128) (ltb n 32768) _ _ _ _ (λ e. minus_tiny prefix more n (ltb_below n 32 e)) (λ e. minus_8 prefix more n (ltb_below n 128 e))
    (λ e. minus_16 prefix more n (ltb_below n 32768 e)) (minus_32 prefix more n (ltb_below n (2 ^ 31) h))
