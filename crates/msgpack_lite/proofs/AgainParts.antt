-- Whole numbers, texts and bytes that were written are read again, whatever stands before and behind them.
use Rattle.std.proofs.Common.{◌≡◌, ℕ, suc, ◌+◌, ◌-◌, ◌^◌, ◌<◌, Bool, true, false, cond, List, [], ◌∷◌, ◌++◌, length, Ok, refl, sym, ap, ap₂, ◌∙◌, subst, arith, ℤ, pos, negsuc, append_assoc, ltb}
use Rattle.std.specs.Int.{Width, w8, w16, w32, w64, byte_len, from_be_bytes, to_be_bytes, cast_signed}
use Rattle.std.specs.Str.{is_utf8}
use Rattle.std.proofs.lemmas.List.{take_at, drop_at, length-append}
use Rattle.std.proofs.lemmas.Nat.{from_be_bytes-to_be_bytes_2, from_be_bytes-to_be_bytes_4, from_be_bytes-to_be_bytes_8}
use Rattle.std.proofs.lemmas.Bool.Decides.{nat_tests}
use Rattle.schema_model.specs.Reading.{◌>>=◌}
use Rattle.schema_model.proofs.NumberAgain.{by_chain, cast_again, ltb_below}
use Rattle.frame_model.specs.declared.form.Size.{Size}
use Rattle.frame_model.specs.declared.form.Size.TheVariants.{One, Two, Four, Eight}
use Rattle.frame_model.specs.declared.form.Length.{Length}
use Rattle.frame_model.specs.declared.form.Length.TheVariants.{Told, Behind}
use Rattle.frame_model.specs.declared.form.Form.{Form}
use Rattle.frame_model.specs.declared.form.Form.TheVariants as form
use Rattle.frame_model.specs.PackData.{PackData, whole}
use Rattle.frame_model.specs.Packs.{as_text, as_value, binary_head, bytes_at, dict_head, form_of, is_whole, length_at, list_head, pack_at, run_at, text_at, text_bytes, text_head, value_of_form, whole_bytes, width_at, width_of}
use Rattle.msgpack_lite.specs.Ends.{inside}
use Rattle.msgpack_lite.proofs.EndLaws.{pack_at-form}

-- ---- numbers

-- a part of the right length between two lists is read as its number
part_read : (w : Width) (prefix part more : List ℕ) → length part ≡ byte_len w → width_at w (prefix ++ (part ++ more)) (length prefix) ≡ Ok (from_be_bytes w part, length prefix + byte_len w)
part_read w prefix part more e =
    let d = drop_at prefix (part ++ more) (length prefix) refl in
    let t = take_at part more (byte_len w) e in
    let l : length (prefix ++ (part ++ more)) ≡ length prefix + (byte_len w + length more) =
    omega (arith, length-append prefix (part ++ more), length-append part more, e) in
    let fits : ltb (length (prefix ++ (part ++ more))) (length prefix + byte_len w) ≡ false = grind (arith, nat_tests) in
    rw (fits, d, t) refl

-- the byte at a place
pub byte_read : (prefix more : List ℕ) (b : ℕ) → width_at w8 (prefix ++ b ∷ more) (length prefix) ≡ Ok (b, length prefix + 1)
byte_read prefix more b = part_read w8 prefix (b ∷ []) more refl

-- a number of a size, behind a first byte
abbrev IsNumber : Width → ℕ → List ℕ → Type 0
IsNumber w n part = (length part ≡ byte_len w) × (from_be_bytes w part ≡ n)

two : (n : ℕ) → n < 2 ^ 16 → IsNumber w16 n (to_be_bytes w16 n)
two n h = (refl, from_be_bytes-to_be_bytes_2 n h)

four : (n : ℕ) → n < 2 ^ 32 → IsNumber w32 n (to_be_bytes w32 n)
four n h = (refl, from_be_bytes-to_be_bytes_4 n h)

eight : (n : ℕ) → n < 2 ^ 64 → IsNumber w64 n (to_be_bytes w64 n)
eight n h = (refl, from_be_bytes-to_be_bytes_8 n h)

behind_byte : (w : Width) (prefix part more : List ℕ) (first n : ℕ) → IsNumber w n part → width_at w (prefix ++ first ∷ (part ++ more)) (length prefix + 1) ≡ Ok (n, length prefix + suc (length part))
behind_byte w prefix part more first n h =
    let read = part_read w (prefix ++ first ∷ []) part more h.0 in
    let moved = rw (append_assoc prefix (first ∷ []) (part ++ more), length-append prefix (first ∷ [])) at read in
    moved ∙ ap₂ (λ x k. Ok (x, k)) h.1 (omega (arith, h.0))

-- ---- values of a form

-- a value's bytes between two lists are read as it
abbrev pub IsRead : ℕ → List ℕ → List ℕ → PackData → List ℕ → Type 0
IsRead levels prefix more d bytes = pack_at levels (prefix ++ (bytes ++ more)) (length prefix) ≡ Ok (d, length prefix + length bytes)

pub by_form : (levels : ℕ) (prefix more : List ℕ) (first : ℕ) (f : Form) → form_of first ≡ f → pack_at levels (prefix ++ first ∷ more) (length prefix) ≡ value_of_form (inside levels (prefix ++ first ∷ more)) f (prefix ++ first ∷ more) (length prefix)
by_form levels prefix more first f h =
    pack_at-form levels (prefix ++ first ∷ more) (length prefix) first (length prefix + 1) (byte_read prefix more first)
    ∙ ap (λ g. value_of_form (inside levels (prefix ++ first ∷ more)) g (prefix ++ first ∷ more) (length prefix)) h

small_form : (n : ℕ) → n < 128 → form_of n ≡ form.Small (pos n)
unfolding form_of
small_form n h = let t : ltb n 128 ≡ true = grind (arith, nat_tests) in rw t refl

minus_form : (n : ℕ) → n < 32 → form_of (255 - n) ≡ form.Small (negsuc n)
unfolding form_of
minus_form n h =
    let a : ltb (255 - n) 128 ≡ false = grind (arith, nat_tests) in
    let b : ltb (255 - n) 144 ≡ false = grind (arith, nat_tests) in
    let c : ltb (255 - n) 160 ≡ false = grind (arith, nat_tests) in
    let d : ltb (255 - n) 192 ≡ false = grind (arith, nat_tests) in
    let e : ltb (255 - n) 224 ≡ false = grind (arith, nat_tests) in
    let f : 255 - (255 - n) ≡ n = omega arith in
    rw (a, b, c, d, e, f) refl

tiny : (levels : ℕ) (prefix more : List ℕ) (n : ℕ) → n < 128 → IsRead levels prefix more (whole (pos n)) (n ∷ [])
tiny levels prefix more n h = by_form levels prefix more n (form.Small (pos n)) (small_form n h)

minus_tiny : (levels : ℕ) (prefix more : List ℕ) (n : ℕ) → n < 32 → IsRead levels prefix more (whole (negsuc n)) ((255 - n) ∷ [])
minus_tiny levels prefix more n h = by_form levels prefix more (255 - n) (form.Small (negsuc n)) (minus_form n h)

unsigned : (size : Size) (levels : ℕ) (prefix more part : List ℕ) (first n : ℕ) → form_of first ≡ form.Unsigned size → IsNumber (width_of size) n part → IsRead levels prefix more (whole (pos n)) (first ∷ part)
unsigned size levels prefix more part first n h k =
    by_form levels prefix (part ++ more) first (form.Unsigned size) h ∙ ap (as_value (λ x. whole (pos x))) (behind_byte (width_of size) prefix part more first n k)

signed : (size : Size) (levels : ℕ) (prefix more part : List ℕ) (first m n : ℕ) → form_of first ≡ form.Signed size → IsNumber (width_of size) m part → cast_signed (width_of size) m ≡ negsuc n
    → IsRead levels prefix more (whole (negsuc n)) (first ∷ part)
signed size levels prefix more part first m n h k c =
    by_form levels prefix (part ++ more) first (form.Signed size) h
    ∙ (ap (as_value (λ x. whole (cast_signed (width_of size) x))) (behind_byte (width_of size) prefix part more first m k) ∙ ap (λ z. Ok (whole z, length prefix + suc (length part))) c)

-- the first bytes that are marks
marks : (form_of 204 ≡ form.Unsigned One) × (form_of 205 ≡ form.Unsigned Two) × (form_of 206 ≡ form.Unsigned Four) × (form_of 207 ≡ form.Unsigned Eight)
    × (form_of 208 ≡ form.Signed One) × (form_of 209 ≡ form.Signed Two) × (form_of 210 ≡ form.Signed Four) × (form_of 211 ≡ form.Signed Eight)
unfolding form_of
marks = (refl, refl, refl, refl, refl, refl, refl, refl)

-- what holds of each value of a chain of four tests, where its test holds, holds of the chain
by_four : {X : Type 0} (P : X → Type 0) (a b c d : Bool) (v w x y z : X) → (a ≡ true → P v) → (b ≡ true → P w) → (c ≡ true → P x) → (d ≡ true → P y) → P z → P (cond a v (cond b w (cond c x (cond d y z))))
by_four P true b c d v w x y z p q r s t = p refl
by_four P false b c d v w x y z p q r s t = by_chain P b c d w x y z q r s t

pub whole_again : (levels : ℕ) (prefix more : List ℕ) (z : ℤ) → is_whole z ≡ true → IsRead levels prefix more (whole z) (whole_bytes z)
whole_again levels prefix more (pos n) h =
    by_four (IsRead levels prefix more (whole (pos n))) (ltb n 128) (ltb n 256) (ltb n 65536) (ltb n 4294967296) _ _ _ _ _
    (λ e. tiny levels prefix more n (ltb_below n 128 e))
    (λ e. unsigned One levels prefix more (n ∷ []) 204 n marks.0 (refl, refl))
    (λ e. unsigned Two levels prefix more (to_be_bytes w16 n) 205 n marks.1 (two n (ltb_below n 65536 e)))
    (λ e. unsigned Four levels prefix more (to_be_bytes w32 n) 206 n marks.2 (four n (ltb_below n 4294967296 e)))
    (unsigned Eight levels prefix more (to_be_bytes w64 n) 207 n marks.3 (eight n (ltb_below n 18446744073709551616 h)))
whole_again levels prefix more (negsuc n) h =
    let far : n < 9223372036854775808 = ltb_below n 9223372036854775808 h in
    by_four (IsRead levels prefix more (whole (negsuc n))) (ltb n 32) (ltb n 128) (ltb n 32768) (ltb n 2147483648) _ _ _ _ _
    (λ e. minus_tiny levels prefix more n (ltb_below n 32 e))
    (λ e. let b = ltb_below n 128 e in signed One levels prefix more ((255 - n) ∷ []) 208 (255 - n) n marks.4 (refl, refl) (cast_again w8 n (255 - n) b (omega arith)))
    (λ e. let b = ltb_below n 32768 e in signed Two levels prefix more (to_be_bytes w16 (65535 - n)) 209 (65535 - n) n marks.5 (two (65535 - n) (omega arith)) (cast_again w16 n (65535 - n) b (omega arith)))
    (λ e. let b = ltb_below n 2147483648 e in signed Four levels prefix more (to_be_bytes w32 (4294967295 - n)) 210 (4294967295 - n) n marks.6 (four (4294967295 - n) (omega arith)) (cast_again w32 n (4294967295 - n) b (omega arith)))
    (signed Eight levels prefix more (to_be_bytes w64 (18446744073709551615 - n)) 211 (18446744073709551615 - n) n marks.7 (eight (18446744073709551615 - n) (omega arith)) (cast_again w64 n (18446744073709551615 - n) far (omega arith)))

-- ---- heads

-- a head tells a form with a length
pub record IsHead (f : Length → Form) (n : ℕ) (head : List ℕ) : Type 0 where
  pub first : ℕ
  pub rest : List ℕ
  pub len : Length
  pub is : head ≡ first ∷ rest
  pub tells : form_of first ≡ f len
  pub measures : (prefix more : List ℕ) → length_at len (prefix ++ (head ++ more)) (length prefix + 1) ≡ Ok (n, length prefix + length head)

told : (f : Length → Form) (n first : ℕ) → form_of first ≡ f (Told n) → IsHead f n (first ∷ [])
told f n first h = record { first = first; rest = []; len = Told n; is = refl; tells = h; measures = λ prefix more. refl }

counted : (f : Length → Form) (size : Size) (n first : ℕ) (part : List ℕ) → form_of first ≡ f (Behind size) → IsNumber (width_of size) n part → IsHead f n (first ∷ part)
counted f size n first part h k = record { first = first; rest = part; len = Behind size; is = refl; tells = h; measures = λ prefix more. behind_byte (width_of size) prefix part more first n k }

head_marks : (form_of 217 ≡ form.Text (Behind One)) × (form_of 218 ≡ form.Text (Behind Two)) × (form_of 219 ≡ form.Text (Behind Four))
    × (form_of 196 ≡ form.Binary (Behind One)) × (form_of 197 ≡ form.Binary (Behind Two)) × (form_of 198 ≡ form.Binary (Behind Four))
    × (form_of 220 ≡ form.List (Behind Two)) × (form_of 221 ≡ form.List (Behind Four)) × (form_of 222 ≡ form.Map (Behind Two)) × (form_of 223 ≡ form.Map (Behind Four))
unfolding form_of
head_marks = (refl, refl, refl, refl, refl, refl, refl, refl, refl, refl)

short_text : (n : ℕ) → n < 32 → form_of (160 + n) ≡ form.Text (Told n)
unfolding form_of
short_text n h =
    let a : ltb (160 + n) 128 ≡ false = grind (arith, nat_tests) in
    let b : ltb (160 + n) 144 ≡ false = grind (arith, nat_tests) in
    let c : ltb (160 + n) 160 ≡ false = grind (arith, nat_tests) in
    let d : ltb (160 + n) 192 ≡ true = grind (arith, nat_tests) in
    let e : 160 + n - 160 ≡ n = omega arith in
    rw (a, b, c, d, e) refl

short_list : (n : ℕ) → n < 16 → form_of (144 + n) ≡ form.List (Told n)
unfolding form_of
short_list n h =
    let a : ltb (144 + n) 128 ≡ false = grind (arith, nat_tests) in
    let b : ltb (144 + n) 144 ≡ false = grind (arith, nat_tests) in
    let c : ltb (144 + n) 160 ≡ true = grind (arith, nat_tests) in
    let e : 144 + n - 144 ≡ n = omega arith in
    rw (a, b, c, e) refl

short_dict : (n : ℕ) → n < 16 → form_of (128 + n) ≡ form.Map (Told n)
unfolding form_of
short_dict n h =
    let a : ltb (128 + n) 128 ≡ false = grind (arith, nat_tests) in
    let b : ltb (128 + n) 144 ≡ true = grind (arith, nat_tests) in
    let e : 128 + n - 128 ≡ n = omega arith in
    rw (a, b, e) refl

-- what holds of each value of a chain of two tests, where its test holds, holds of the chain
by_two : {X : Type 0} (P : X → Type 0) (a b : Bool) (x y z : X) → (a ≡ true → P x) → (b ≡ true → P y) → P z → P (cond a x (cond b y z))
by_two P true b x y z p q r = p refl
by_two P false true x y z p q r = q refl
by_two P false false x y z p q r = r

pub text_head_is : (n : ℕ) → n < 2 ^ 32 → IsHead form.Text n (text_head n)
text_head_is n h =
    by_chain (IsHead form.Text n) (ltb n 32) (ltb n 256) (ltb n 65536) _ _ _ _
    (λ e. told form.Text n (160 + n) (short_text n (ltb_below n 32 e)))
    (λ e. counted form.Text One n 217 (n ∷ []) head_marks.0 (refl, refl))
    (λ e. counted form.Text Two n 218 (to_be_bytes w16 n) head_marks.1 (two n (ltb_below n 65536 e)))
    (counted form.Text Four n 219 (to_be_bytes w32 n) head_marks.2 (four n h))

pub binary_head_is : (n : ℕ) → n < 2 ^ 32 → IsHead form.Binary n (binary_head n)
binary_head_is n h =
    by_two (IsHead form.Binary n) (ltb n 256) (ltb n 65536) _ _ _
    (λ e. counted form.Binary One n 196 (n ∷ []) head_marks.3 (refl, refl))
    (λ e. counted form.Binary Two n 197 (to_be_bytes w16 n) head_marks.4 (two n (ltb_below n 65536 e)))
    (counted form.Binary Four n 198 (to_be_bytes w32 n) head_marks.5 (four n h))

pub list_head_is : (n : ℕ) → n < 2 ^ 32 → IsHead form.List n (list_head n)
list_head_is n h =
    by_two (IsHead form.List n) (ltb n 16) (ltb n 65536) _ _ _
    (λ e. told form.List n (144 + n) (short_list n (ltb_below n 16 e)))
    (λ e. counted form.List Two n 220 (to_be_bytes w16 n) head_marks.6 (two n (ltb_below n 65536 e)))
    (counted form.List Four n 221 (to_be_bytes w32 n) head_marks.7 (four n h))

pub dict_head_is : (n : ℕ) → n < 2 ^ 32 → IsHead form.Map n (dict_head n)
dict_head_is n h =
    by_two (IsHead form.Map n) (ltb n 16) (ltb n 65536) _ _ _
    (λ e. told form.Map n (128 + n) (short_dict n (ltb_below n 16 e)))
    (λ e. counted form.Map Two n 222 (to_be_bytes w16 n) head_marks.8 (two n (ltb_below n 65536 e)))
    (counted form.Map Four n 223 (to_be_bytes w32 n) head_marks.9 (four n h))

-- a value by the form that its head tells
pub by_head : (f : Length → Form) (n : ℕ) (head : List ℕ) (levels : ℕ) (prefix more : List ℕ) (h : IsHead f n head)
    → pack_at levels (prefix ++ (head ++ more)) (length prefix) ≡ value_of_form (inside levels (prefix ++ (head ++ more))) (f h.len) (prefix ++ (head ++ more)) (length prefix)
by_head f n head levels prefix more h =
    let go : (x : List ℕ) → x ≡ head → pack_at levels (prefix ++ (x ++ more)) (length prefix) ≡ value_of_form (inside levels (prefix ++ (x ++ more))) (f h.len) (prefix ++ (x ++ more)) (length prefix)
    → pack_at levels (prefix ++ (head ++ more)) (length prefix) ≡ value_of_form (inside levels (prefix ++ (head ++ more))) (f h.len) (prefix ++ (head ++ more)) (length prefix)
    = λ x e k. subst (λ y. pack_at levels (prefix ++ (y ++ more)) (length prefix) ≡ value_of_form (inside levels (prefix ++ (y ++ more))) (f h.len) (prefix ++ (y ++ more)) (length prefix)) e k in
    go (h.first ∷ h.rest) (sym h.is) (by_form levels prefix (h.rest ++ more) h.first (f h.len) h.tells)

-- ---- runs

run_there : (prefix t more : List ℕ) → bytes_at (prefix ++ (t ++ more)) (length t, length prefix) ≡ Ok (t, length prefix + length t)
run_there prefix t more =
    let d = drop_at prefix (t ++ more) (length prefix) refl in
    let k = take_at t more (length t) refl in
    let l : length (prefix ++ (t ++ more)) ≡ length prefix + (length t + length more) = omega (arith, length-append prefix (t ++ more), length-append t more) in
    let fits : ltb (length (prefix ++ (t ++ more))) (length prefix + length t) ≡ false = grind (arith, nat_tests) in
    rw (fits, d, k) refl

pub run_again : (f : Length → Form) (t head prefix more : List ℕ) (h : IsHead f (length t) head) → run_at h.len (prefix ++ ((head ++ t) ++ more)) (length prefix + 1) ≡ Ok (t, length prefix + length (head ++ t))
unfolding run_at
run_again f t head prefix more h =
    let shape : prefix ++ ((head ++ t) ++ more) ≡ prefix ++ (head ++ (t ++ more)) = ap (λ x. prefix ++ x) (append_assoc head t more) in
    let measured : length_at h.len (prefix ++ ((head ++ t) ++ more)) (length prefix + 1) ≡ Ok (length t, length prefix + length head) = ap (λ b. length_at h.len b (length prefix + 1)) shape ∙ h.measures prefix (t ++ more) in
    let shape' : prefix ++ ((head ++ t) ++ more) ≡ (prefix ++ head) ++ (t ++ more) = shape ∙ sym (append_assoc prefix head (t ++ more)) in
    let there : bytes_at (prefix ++ ((head ++ t) ++ more)) (length t, length prefix + length head) ≡ Ok (t, length prefix + length (head ++ t)) =
    ap₂ (λ b k. bytes_at b (length t, k)) shape' (sym (length-append prefix head))
    ∙ (run_there (prefix ++ head) t more ∙ ap (λ k. Ok (t, k)) (omega (arith, length-append prefix head, length-append head t))) in
    ap (λ r. r >>= bytes_at (prefix ++ ((head ++ t) ++ more))) measured ∙ there

pub text_again : (t prefix more : List ℕ) (h : IsHead form.Text (length t) (text_head (length t))) → is_utf8 t ≡ true → text_at h.len (prefix ++ (text_bytes t ++ more)) (length prefix) ≡ Ok (t, length prefix + length (text_bytes t))
unfolding text_at
text_again t prefix more h good =
    let run = run_again form.Text t (text_head (length t)) prefix more h in
    ap (λ r. r >>= as_text (length prefix)) run ∙ rw good refl
