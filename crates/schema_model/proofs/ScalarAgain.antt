-- What was written as a scalar of any kind is read again, whatever stands before and behind it.
use Rattle.std.proofs.Common.{◌≡◌, ℕ, ◌+◌, ◌-◌, ◌^◌, ◌<◌, true, false, List, [], ◌∷◌, ◌++◌, length, Ok, suc, refl, ap, ◌∙◌, arith, ℤ, pos, negsuc, append_assoc, length-append, ltb, leb}
use Rattle.std.specs.Int.{Width, w8, w16, w32, w64, byte_len, to_le_bytes, cast_unsigned}
use Rattle.std.specs.Str.{is_utf8}
use Rattle.std.proofs.lemmas.List.{take_at, drop_at}
use Rattle.std.proofs.lemmas.Nat.{from_le_bytes-to_le_bytes_8}
use Rattle.std.proofs.lemmas.Bool.Decides.{nat_tests}
use Rattle.std.proofs.lemmas.Int.{to_z-of_z}
use mir.Val.{bits, hbits, SFits}
use mir.ValLaws.{of_z_fits}
use Rattle.schema_model.specs.declared.scalar.ScalarKind.{ScalarKind}
use Rattle.schema_model.specs.declared.scalar.ScalarKind.TheVariants as kind
use Rattle.schema_model.specs.declared.value.Value.{Value}
use Rattle.schema_model.specs.declared.value.Value.TheVariants as value
use Rattle.schema_model.specs.Spelling.{text_bytes, fixed_bytes, spelling}
use Rattle.schema_model.specs.Reading.{fixed_at, signed_at, unsigned_at, text_length, text_of, text_at, whole, worded, truthful, read_scalar}
use Rattle.schema_model.specs.Fits.{in_signed, in_unsigned, fits, is_worded}
use Rattle.schema_model.proofs.NumberAgain.{fixed_part, fixed_again_8, fixed_again_16, fixed_again_32, behind_first, by_chain, ltb_below, number_again}

-- ---- fixed widths

-- a number written in eight bytes is read again
pub fixed_again_64 : (prefix more : List ℕ) (n : ℕ) → n < 2 ^ 64
    → fixed_at w64 (prefix ++ (to_le_bytes w64 n ++ more)) (length prefix) ≡ Ok (n, length prefix + byte_len w64)
fixed_again_64 prefix more n h =
    fixed_part w64 prefix (to_le_bytes w64 n) more refl ∙ ap (λ x. Ok (x, length prefix + byte_len w64)) (from_le_bytes-to_le_bytes_8 n h)

-- a number written in this width is read again between these two lists
abbrev IsFixed : Width → List ℕ → List ℕ → Type 0
IsFixed w prefix more = (n : ℕ) → n < 2 ^ bits w
    → fixed_at w (prefix ++ (to_le_bytes w n ++ more)) (length prefix) ≡ Ok (n, length prefix + byte_len w)

-- a number in the range of a signed width fits it
signed_fits : (w : Width) (z : ℤ) → in_signed (2 ^ hbits w) z ≡ true → SFits w z
signed_fits w (pos n) h = record { sfits = ltb_below n (2 ^ hbits w) h }
signed_fits w (negsuc n) h = record { sfits = ltb_below n (2 ^ hbits w) h }

-- a number in the range of a signed width is read again
signed_again : (w : Width) (prefix more : List ℕ) (z : ℤ) → IsFixed w prefix more → in_signed (2 ^ hbits w) z ≡ true
    → signed_at w (prefix ++ (fixed_bytes w z ++ more)) (length prefix) ≡ Ok (z, length prefix + byte_len w)
unfolding signed_at
signed_again w prefix more z fixed h =
    let s = signed_fits w z h in
    rw (fixed (cast_unsigned w z) (of_z_fits w z s).fits, to_z-of_z w z s) refl

-- a number in the range of an unsigned width is read again
unsigned_again : (w : Width) (prefix more : List ℕ) (z : ℤ) → IsFixed w prefix more → in_unsigned (2 ^ bits w) z ≡ true
    → unsigned_at w (prefix ++ (fixed_bytes w z ++ more)) (length prefix) ≡ Ok (z, length prefix + byte_len w)
unfolding unsigned_at
unsigned_again w prefix more (pos n) fixed h = rw (fixed n (ltb_below n (2 ^ bits w) h)) refl
unsigned_again w prefix more (negsuc n) fixed h = cc

-- ---- texts

-- a text is read behind its head
behind_head : (prefix head t more : List ℕ) (value_at : ℕ) → is_utf8 t ≡ true
    → text_of (prefix ++ ((head ++ t) ++ more)) value_at (length prefix + length head) (length t) ≡ Ok (t, length prefix + length (head ++ t))
unfolding text_of
behind_head prefix head t more value_at good =
    let same : prefix ++ ((head ++ t) ++ more) ≡ (prefix ++ head) ++ (t ++ more) = simp append_assoc in
    let d = drop_at (prefix ++ head) (t ++ more) (length prefix + length head) (length-append prefix head) in
    let k = take_at t more (length t) refl in
    let there : ltb (length ((prefix ++ head) ++ (t ++ more))) (length prefix + length head + length t) ≡ false =
    grind (arith, nat_tests, length-append (prefix ++ head) (t ++ more), length-append prefix head, length-append t more) in
    let end : length prefix + length head + length t ≡ length prefix + length (head ++ t) = omega (arith, length-append head t) in
    rw (same, there, d, k, good) (ap (λ n. Ok (t, n)) end)

-- bytes between two lists are read as this text behind this head
abbrev IsText : List ℕ → List ℕ → List ℕ → List ℕ → Type 0
IsText prefix more t head = text_at (prefix ++ ((head ++ t) ++ more)) (length prefix) ≡ Ok (t, length prefix + length (head ++ t))

-- the first byte chooses the form of the length, and the text follows the head
by_head : (prefix rest t more : List ℕ) (first : ℕ) → is_utf8 t ≡ true
    → text_length (prefix ++ first ∷ ((rest ++ t) ++ more)) (length prefix) first ≡ Ok (length t, length prefix + suc (length rest))
    → IsText prefix more t (first ∷ rest)
unfolding text_at
by_head prefix rest t more first good e =
    rw (fixed_part w8 prefix (first ∷ []) ((rest ++ t) ++ more) refl, e) (behind_head prefix (first ∷ rest) t more (length prefix) good)

-- each form of the length
short_text : (prefix t more : List ℕ) → is_utf8 t ≡ true → length t < 32 → IsText prefix more t ((160 + length t) ∷ [])
unfolding text_length
short_text prefix t more good h =
    let low : leb 160 (160 + length t) ≡ true = grind (arith, nat_tests) in
    let high : ltb (160 + length t) 192 ≡ true = grind (arith, nat_tests) in
    let e : 160 + length t - 160 ≡ length t = omega arith in
    by_head prefix [] t more (160 + length t) good (rw (low, high, e) refl)

-- a length in a fixed width is read behind the byte that names the width, and the text follows it
by_width : (w : Width) (prefix rest t more : List ℕ) (first : ℕ)
    → fixed_at w ((prefix ++ first ∷ []) ++ (rest ++ (t ++ more))) (length (prefix ++ first ∷ []))
    ≡ Ok (length t, length (prefix ++ first ∷ []) + byte_len w)
    → fixed_at w (prefix ++ first ∷ ((rest ++ t) ++ more)) (length prefix + 1) ≡ Ok (length t, length prefix + suc (byte_len w))
by_width w prefix rest t more first e = rw (append_assoc rest t more) (behind_first w prefix rest (t ++ more) first (length t) e)

text_8 : (prefix t more : List ℕ) → is_utf8 t ≡ true → IsText prefix more t (217 ∷ length t ∷ [])
unfolding text_length
text_8 prefix t more good =
    by_head prefix (length t ∷ []) t more 217 good
    (by_width w8 prefix (length t ∷ []) t more 217 (fixed_part w8 (prefix ++ 217 ∷ []) (length t ∷ []) (t ++ more) refl))

text_16 : (prefix t more : List ℕ) → is_utf8 t ≡ true → length t < 2 ^ 16 → IsText prefix more t (218 ∷ to_le_bytes w16 (length t))
unfolding text_length
text_16 prefix t more good h =
    by_head prefix (to_le_bytes w16 (length t)) t more 218 good
    (by_width w16 prefix (to_le_bytes w16 (length t)) t more 218 (fixed_again_16 (prefix ++ 218 ∷ []) (t ++ more) (length t) h))

text_32 : (prefix t more : List ℕ) → is_utf8 t ≡ true → length t < 2 ^ 32 → IsText prefix more t (219 ∷ to_le_bytes w32 (length t))
unfolding text_length
text_32 prefix t more good h =
    by_head prefix (to_le_bytes w32 (length t)) t more 219 good
    (by_width w32 prefix (to_le_bytes w32 (length t)) t more 219 (fixed_again_32 (prefix ++ 219 ∷ []) (t ++ more) (length t) h))

-- what was written as a text is read again, whatever stands before and behind it
pub text_again : (prefix more t : List ℕ) → length t < 2 ^ 32 → is_utf8 t ≡ true
    → text_at (prefix ++ (text_bytes t ++ more)) (length prefix) ≡ Ok (t, length prefix + length (text_bytes t))
text_again prefix more t h good =
    by_chain (IsText prefix more t) (ltb (length t) 32) (ltb (length t) 256) (ltb (length t) 65536) _ _ _ _
    (λ e. short_text prefix t more good (ltb_below (length t) 32 e)) (λ _. text_8 prefix t more good)
    (λ e. text_16 prefix t more good (ltb_below (length t) 65536 e)) (text_32 prefix t more good h)

-- ---- all kinds

-- what was written as a scalar of a kind is read again, whatever stands before and behind it
pub scalar_again : (k : ScalarKind) (v : Value) (prefix more : List ℕ) → fits k v ≡ true → is_worded v ≡ true
    → read_scalar (prefix ++ (spelling k v ++ more)) (length prefix) k ≡ Ok (v, length prefix + length (spelling k v))
scalar_again kind.Number (value.Whole z) prefix more h good = ap whole (number_again prefix more z h)
scalar_again kind.Str (value.Str t) prefix more h good = ap worded (text_again prefix more t (ltb_below (length t) (2 ^ 32) h) good)
scalar_again kind.Bool (value.Truth true) prefix more h good = ap truthful (fixed_part w8 prefix (1 ∷ []) more refl)
scalar_again kind.Bool (value.Truth false) prefix more h good = ap truthful (fixed_part w8 prefix (0 ∷ []) more refl)
scalar_again kind.I8 (value.Whole z) prefix more h good = ap whole (signed_again w8 prefix more z (fixed_again_8 prefix more) h)
scalar_again kind.I16 (value.Whole z) prefix more h good = ap whole (signed_again w16 prefix more z (fixed_again_16 prefix more) h)
scalar_again kind.I32 (value.Whole z) prefix more h good = ap whole (signed_again w32 prefix more z (fixed_again_32 prefix more) h)
scalar_again kind.U8 (value.Whole z) prefix more h good = ap whole (unsigned_again w8 prefix more z (fixed_again_8 prefix more) h)
scalar_again kind.U16 (value.Whole z) prefix more h good = ap whole (unsigned_again w16 prefix more z (fixed_again_16 prefix more) h)
scalar_again kind.U32 (value.Whole z) prefix more h good = ap whole (unsigned_again w32 prefix more z (fixed_again_32 prefix more) h)
scalar_again k v prefix more h good = cc
