-- The bytes of a scalar of each kind, the shortest form. After `@colyseus/schema` 3; all widths are low byte first.
use Rattle.std.specs.Prelude.{ℕ, ◌+◌, ◌-◌, Bool, true, false, List, [], ◌∷◌, ◌++◌, length, ℤ, pos, negsuc, if◌then◌else◌, nat_lt}
use Rattle.std.specs.Int.{Width, w8, w16, w32, to_le_bytes, cast_unsigned}
use Rattle.schema_model.specs.declared.scalar.ScalarKind.{ScalarKind}
use Rattle.schema_model.specs.declared.scalar.ScalarKind.TheVariants as kind
use Rattle.schema_model.specs.declared.value.Value.{Value}
use Rattle.schema_model.specs.declared.value.Value.TheVariants as value

-- a `number`: 0..127 the byte itself, then `cc` u8, `cd` u16, `ce` u32; -32..-1 one byte from `e0` on, then `d0` i8, `d1` i16, `d2` i32
abbrev pub number_bytes : ℤ → List ℕ
number_bytes (pos n) =
    if nat_lt n 128 then n ∷ []
    else if nat_lt n 256 then 204 ∷ n ∷ []
    else if nat_lt n 65536 then 205 ∷ to_le_bytes w16 n
    else 206 ∷ to_le_bytes w32 n
number_bytes (negsuc n) =
    if nat_lt n 32 then (255 - n) ∷ []
    else if nat_lt n 128 then 208 ∷ (255 - n) ∷ []
    else if nat_lt n 32768 then 209 ∷ to_le_bytes w16 (65535 - n)
    else 210 ∷ to_le_bytes w32 (4294967295 - n)

-- the head of a text of this length: below 32 `a0` plus the length, then `d9` u8, `da` u16, `db` u32
abbrev pub text_head : ℕ → List ℕ
text_head n =
    if nat_lt n 32 then (160 + n) ∷ []
    else if nat_lt n 256 then 217 ∷ n ∷ []
    else if nat_lt n 65536 then 218 ∷ to_le_bytes w16 n
    else 219 ∷ to_le_bytes w32 n

-- a text: its head, then its bytes
abbrev pub text_bytes : List ℕ → List ℕ
text_bytes t = text_head (length t) ++ t

-- a truth value
abbrev pub truth_bytes : Bool → List ℕ
truth_bytes true = 1 ∷ []
truth_bytes false = 0 ∷ []

-- a whole number in a fixed width, in two's complement
abbrev pub fixed_bytes : Width → ℤ → List ℕ
fixed_bytes w z = to_le_bytes w (cast_unsigned w z)

-- the bytes of a value that fits a kind; nothing for one that doesn't
abbrev pub spelling : ScalarKind → Value → List ℕ
spelling kind.Number (value.Whole z) = number_bytes z
spelling kind.Str (value.Str t) = text_bytes t
spelling kind.Bool (value.Truth b) = truth_bytes b
spelling kind.I8 (value.Whole z) = fixed_bytes w8 z
spelling kind.U8 (value.Whole z) = fixed_bytes w8 z
spelling kind.I16 (value.Whole z) = fixed_bytes w16 z
spelling kind.U16 (value.Whole z) = fixed_bytes w16 z
spelling kind.I32 (value.Whole z) = fixed_bytes w32 z
spelling kind.U32 (value.Whole z) = fixed_bytes w32 z
spelling k v = []
