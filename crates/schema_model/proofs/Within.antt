-- What is read ends within the bytes.
use Rattle.std.proofs.Common.{◌≡◌, ℕ, ◌+◌, ◌≤◌, Bool, true, false, cond, List, length, Result, Ok, Err, refl, arith}
use Rattle.std.specs.Prelude.{nat_lt, nat_le, ℤ, ◌==◌, ◌&&◌}
use Rattle.std.specs.Prelude.{take, drop}
use Rattle.std.specs.Str.{is_utf8}
use Rattle.std.specs.Int.{Width, w8, w16, w32, byte_len}
use Rattle.std.proofs.lemmas.Bool.Decides.{nat_tests}
use Rattle.schema_model.specs.declared.fault.ReadFault.{ReadFault}
use Rattle.schema_model.specs.Reading.{◌>>=◌, fixed_at, signed_at, unsigned_at, wide_at, number_of, number_at, text_length, text_of, text_at}

-- what was read ends within the bytes
abbrev pub EndsWithin : {A E : Type 0} → List ℕ → Result (A × ℕ) E → Type 0
EndsWithin bytes (Ok r) = r.1 ≤ length bytes
EndsWithin bytes (Err e) = Unit {0}

-- on either side of a test
either : {A E : Type 0} (bytes : List ℕ) (x y : Result (A × ℕ) E) (b : Bool) → EndsWithin bytes x → EndsWithin bytes y → EndsWithin bytes (cond b x y)
either bytes x y true p q = p
either bytes x y false p q = q

-- a second step that ends within the bytes where the first one did
behind : {A B E : Type 0} (bytes : List ℕ) (r : Result (A × ℕ) E) (f : A × ℕ → Result (B × ℕ) E) → EndsWithin bytes r
    → ((x : A × ℕ) → r ≡ Ok x → x.1 ≤ length bytes → EndsWithin bytes (f x)) → EndsWithin bytes (r >>= f)
behind bytes (Ok x) f inside g = g x refl inside
behind bytes (Err e) f inside g = tt

-- a number of a fixed width
fixed_within : (w : Width) (bytes : List ℕ) (at : ℕ) → EndsWithin bytes (fixed_at w bytes at)
fixed_within w bytes at = by (nat_lt (length bytes) (at + byte_len w)) refl where
  by : (b : Bool) → nat_lt (length bytes) (at + byte_len w) ≡ b → EndsWithin bytes (fixed_at w bytes at)
  by true is = rw is tt
  by false is = rw is (grind (arith, nat_tests))

-- the place behind it
fixed_end : (w : Width) (bytes : List ℕ) (at : ℕ) (x : ℕ × ℕ) → fixed_at w bytes at ≡ Ok x → x.1 ≡ at + byte_len w
fixed_end w bytes at x is = by (nat_lt (length bytes) (at + byte_len w)) refl where
  by : (b : Bool) → nat_lt (length bytes) (at + byte_len w) ≡ b → x.1 ≡ at + byte_len w
  by true short = absurd (cc (rw short at is))
  by false long = cc (rw long at is)

-- a signed one, and an unsigned one as a whole number
signed_within : (w : Width) (bytes : List ℕ) (at : ℕ) → EndsWithin bytes (signed_at w bytes at)
unfolding signed_at
signed_within w bytes at = behind bytes (fixed_at w bytes at) _ (fixed_within w bytes at) (λ x is inside. inside)

unsigned_within : (w : Width) (bytes : List ℕ) (at : ℕ) → EndsWithin bytes (unsigned_at w bytes at)
unfolding unsigned_at
unsigned_within w bytes at = behind bytes (fixed_at w bytes at) _ (fixed_within w bytes at) (λ x is inside. inside)

-- four bytes
wide_within : (bytes : List ℕ) (value_at at : ℕ) → EndsWithin bytes (wide_at bytes value_at at)
unfolding wide_at
wide_within bytes value_at at = behind bytes (fixed_at w32 bytes at) _ (fixed_within w32 bytes at) (λ x is inside. either bytes _ _ (nat_lt x.0 2147483648) inside tt)

-- what follows the first byte of a `number`
number_of_within : (bytes : List ℕ) (at first : ℕ) → at + 1 ≤ length bytes → EndsWithin bytes (number_of bytes at first)
unfolding number_of
number_of_within bytes at first inside =
    either bytes _ _ (nat_lt first 128) inside (either bytes _ _ (nat_le 224 first) inside
    (either bytes _ _ (first == 204) (unsigned_within w8 bytes (at + 1)) (either bytes _ _ (first == 205) (unsigned_within w16 bytes (at + 1))
    (either bytes _ _ (first == 206) (wide_within bytes at (at + 1)) (either bytes _ _ (first == 208) (signed_within w8 bytes (at + 1))
    (either bytes _ _ (first == 209) (signed_within w16 bytes (at + 1)) (either bytes _ _ (first == 210) (signed_within w32 bytes (at + 1))
    (either bytes _ _ (first == 202) tt (either bytes _ _ (first == 203) tt (either bytes _ _ (first == 207) tt (either bytes _ _ (first == 211) tt tt)))))))))))

-- a `number`
number_within : (bytes : List ℕ) (at : ℕ) → EndsWithin bytes (number_at bytes at)
unfolding number_at
number_within bytes at = behind bytes (fixed_at w8 bytes at) _ (fixed_within w8 bytes at)
    (λ x is inside. number_of_within bytes at x.0 (rw (fixed_end w8 bytes at x is) at inside))

-- the head of a text
head_within : (bytes : List ℕ) (at first : ℕ) → at + 1 ≤ length bytes → EndsWithin bytes (text_length bytes at first)
unfolding text_length
head_within bytes at first inside =
    either bytes _ _ (nat_le 160 first && nat_lt first 192) inside (either bytes _ _ (first == 217) (fixed_within w8 bytes (at + 1))
    (either bytes _ _ (first == 218) (fixed_within w16 bytes (at + 1)) (either bytes _ _ (first == 219) (fixed_within w32 bytes (at + 1)) tt)))

-- so many bytes as a text
text_of_within : (bytes : List ℕ) (value_at at len : ℕ) → EndsWithin bytes (text_of bytes value_at at len)
unfolding text_of
text_of_within bytes value_at at len = by (nat_lt (length bytes) (at + len)) refl where
  by : (b : Bool) → nat_lt (length bytes) (at + len) ≡ b → EndsWithin bytes (text_of bytes value_at at len)
  by true is = rw is tt
  by false is = rw is (either bytes _ _ (is_utf8 (take len (drop at bytes))) (grind (arith, nat_tests)) tt)

-- a text
text_within : (bytes : List ℕ) (at : ℕ) → EndsWithin bytes (text_at bytes at)
unfolding text_at
text_within bytes at = behind bytes (fixed_at w8 bytes at) _ (fixed_within w8 bytes at)
    (λ x is inside. behind bytes (text_length bytes at x.0) _ (head_within bytes at x.0 (rw (fixed_end w8 bytes at x is) at inside))
    (λ h there within. text_of_within bytes at h.1 h.0))

-- where a number was read, it ends within the bytes
pub number_ends : (bytes : List ℕ) (at : ℕ) (z : ℤ) (next : ℕ) → number_at bytes at ≡ Ok (z, next) → next ≤ length bytes
number_ends bytes at z next is = by (number_at bytes at) (number_within bytes at) is where
  by : (r : Result (ℤ × ℕ) ReadFault) → EndsWithin bytes r → r ≡ Ok (z, next) → next ≤ length bytes
  by (Ok x) inside h = let same : x.1 ≡ next = cc in rw same at inside
  by (Err e) inside h = absurd (cc)

-- where a text was read, it ends within the bytes
pub text_ends : (bytes : List ℕ) (at : ℕ) (t : List ℕ) (next : ℕ) → text_at bytes at ≡ Ok (t, next) → next ≤ length bytes
text_ends bytes at t next is = by (text_at bytes at) (text_within bytes at) is where
  by : (r : Result (List ℕ × ℕ) ReadFault) → EndsWithin bytes r → r ≡ Ok (t, next) → next ≤ length bytes
  by (Ok x) inside h = let same : x.1 ≡ next = cc in rw same at inside
  by (Err e) inside h = absurd (cc)
