-- What bytes at a place are as a scalar of each kind, with every fault. After `@colyseus/schema` 3;
-- floating and wider numbers are refused by name, which is ours.
use Rattle.std.specs.Prelude.{ℕ, ◌+◌, ◌-◌, List, length, take, drop, ℤ, pos, negsuc, if◌then◌else◌, nat_lt, nat_le, ◌==◌, ◌&&◌, Result, Ok, Err}
use Rattle.std.specs.Int.{Width, w8, w16, w32, byte_len, from_le_bytes, cast_signed}
use Rattle.std.specs.Str.{is_utf8}
use Rattle.schema_model.specs.declared.scalar.ScalarKind.{ScalarKind}
use Rattle.schema_model.specs.declared.scalar.ScalarKind.TheVariants as kind
use Rattle.schema_model.specs.declared.value.Value.{Value}
use Rattle.schema_model.specs.declared.value.Value.TheVariants as value
use Rattle.schema_model.specs.declared.fault.ReadFault.{ReadFault}
use Rattle.schema_model.specs.declared.fault.ReadFault.TheVariants.{Short, Fractional, TooWide, BadText, BadForm}

-- the first step, then the second from its value on; the first fault
infixl 10 ◌>>=◌
abbrev pub ◌>>=◌ : {A B E : Type 0} → Result A E → (A → Result B E) → Result B E
(Ok x) >>= f = f x
(Err e) >>= f = Err e

-- a number of a fixed width at a place, and the place after it
abbrev pub fixed_at : Width → List ℕ → ℕ → Result (ℕ × ℕ) ReadFault
fixed_at w bytes at =
    if nat_lt (length bytes) (at + byte_len w) then Err (Short (length bytes))
    else Ok (from_le_bytes w (take (byte_len w) (drop at bytes)), at + byte_len w)

-- the same of a signed one
unfoldable pub signed_at : Width → List ℕ → ℕ → Result (ℤ × ℕ) ReadFault
signed_at w bytes at = do
  n ← fixed_at w bytes at
  Ok (cast_signed w n.0, n.1)

-- the same of an unsigned one, as a whole number
unfoldable pub unsigned_at : Width → List ℕ → ℕ → Result (ℤ × ℕ) ReadFault
unsigned_at w bytes at = do
  n ← fixed_at w bytes at
  Ok (pos n.0, n.1)

-- four bytes that may not pass 2^31-1; the fault carries the place of the value
unfoldable pub wide_at : List ℕ → ℕ → ℕ → Result (ℤ × ℕ) ReadFault
wide_at bytes value_at at = do
  n ← fixed_at w32 bytes at
  if nat_lt n.0 2147483648 then Ok (pos n.0, n.1) else Err (TooWide value_at)

-- what follows the first byte of a `number`
unfoldable pub number_of : List ℕ → ℕ → ℕ → Result (ℤ × ℕ) ReadFault
number_of bytes at first =
    if nat_lt first 128 then Ok (pos first, at + 1)
    else if nat_le 224 first then Ok (negsuc (255 - first), at + 1)
    else if first == 204 then unsigned_at w8 bytes (at + 1)
    else if first == 205 then unsigned_at w16 bytes (at + 1)
    else if first == 206 then wide_at bytes at (at + 1)
    else if first == 208 then signed_at w8 bytes (at + 1)
    else if first == 209 then signed_at w16 bytes (at + 1)
    else if first == 210 then signed_at w32 bytes (at + 1)
    else if first == 202 then Err (Fractional at)
    else if first == 203 then Err (Fractional at)
    else if first == 207 then Err (TooWide at)
    else if first == 211 then Err (TooWide at)
    else Err (BadForm at)

-- a `number` in any of its forms
unfoldable pub number_at : List ℕ → ℕ → Result (ℤ × ℕ) ReadFault
number_at bytes at = do
  first ← fixed_at w8 bytes at
  number_of bytes at first.0

-- the length of a text by the first byte of its head, and the place after the head
unfoldable pub text_length : List ℕ → ℕ → ℕ → Result (ℕ × ℕ) ReadFault
text_length bytes at first =
    if nat_le 160 first && nat_lt first 192 then Ok (first - 160, at + 1)
    else if first == 217 then fixed_at w8 bytes (at + 1)
    else if first == 218 then fixed_at w16 bytes (at + 1)
    else if first == 219 then fixed_at w32 bytes (at + 1)
    else Err (BadForm at)

-- so many bytes from a place on, as a text; the fault carries the place of the value
unfoldable pub text_of : List ℕ → ℕ → ℕ → ℕ → Result (List ℕ × ℕ) ReadFault
text_of bytes value_at at len =
    if nat_lt (length bytes) (at + len) then Err (Short (length bytes))
    else if is_utf8 (take len (drop at bytes)) then Ok (take len (drop at bytes), at + len)
    else Err (BadText value_at)

-- a text in any of its forms
unfoldable pub text_at : List ℕ → ℕ → Result (List ℕ × ℕ) ReadFault
text_at bytes at = do
  first ← fixed_at w8 bytes at
  head ← text_length bytes at first.0
  text_of bytes at head.1 head.0

-- a whole number as a value
abbrev pub whole : Result (ℤ × ℕ) ReadFault → Result (Value × ℕ) ReadFault
whole (Ok r) = Ok (value.Whole r.0, r.1)
whole (Err f) = Err f

-- a text as a value
abbrev pub worded : Result (List ℕ × ℕ) ReadFault → Result (Value × ℕ) ReadFault
worded (Ok r) = Ok (value.Str r.0, r.1)
worded (Err f) = Err f

-- a byte as a truth value: above 0 is true
abbrev pub truthful : Result (ℕ × ℕ) ReadFault → Result (Value × ℕ) ReadFault
truthful (Ok r) = Ok (value.Truth (nat_lt 0 r.0), r.1)
truthful (Err f) = Err f

-- the scalar of a kind at a place, and the place after it, or the first fault
abbrev pub read_scalar : List ℕ → ℕ → ScalarKind → Result (Value × ℕ) ReadFault
read_scalar bytes at kind.Number = whole (number_at bytes at)
read_scalar bytes at kind.Str = worded (text_at bytes at)
read_scalar bytes at kind.Bool = truthful (fixed_at w8 bytes at)
read_scalar bytes at kind.I8 = whole (signed_at w8 bytes at)
read_scalar bytes at kind.U8 = whole (unsigned_at w8 bytes at)
read_scalar bytes at kind.I16 = whole (signed_at w16 bytes at)
read_scalar bytes at kind.U16 = whole (unsigned_at w16 bytes at)
read_scalar bytes at kind.I32 = whole (signed_at w32 bytes at)
read_scalar bytes at kind.U32 = whole (unsigned_at w32 bytes at)
