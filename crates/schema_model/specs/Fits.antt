-- Which values fit a kind of scalar, and the widths of the kinds.
use Rattle.std.specs.Prelude.{ℕ, ◌^◌, Bool, true, false, length, ℤ, pos, negsuc, nat_lt}
use Rattle.std.specs.Str.{is_utf8}
use Rattle.schema_model.specs.declared.scalar.ScalarKind.{ScalarKind}
use Rattle.schema_model.specs.declared.scalar.ScalarKind.TheVariants as kind
use Rattle.schema_model.specs.declared.value.Value.{Value}
use Rattle.schema_model.specs.declared.value.Value.TheVariants as value

-- a whole number in -2^(k-1) .. 2^(k-1)-1, where the half is 2^(k-1)
abbrev pub in_signed : ℕ → ℤ → Bool
in_signed half (pos n) = nat_lt n half
in_signed half (negsuc n) = nat_lt n half

-- a whole number in 0 .. limit-1
abbrev pub in_unsigned : ℕ → ℤ → Bool
in_unsigned limit (pos n) = nat_lt n limit
in_unsigned limit (negsuc n) = false

-- a whole number is in the range of a kind; no number is in that of a text or a truth value
abbrev pub in_range : ScalarKind → ℤ → Bool
in_range kind.Number z = in_signed (2 ^ 31) z
in_range kind.Str z = false
in_range kind.Bool z = false
in_range kind.I8 z = in_signed (2 ^ 7) z
in_range kind.U8 z = in_unsigned (2 ^ 8) z
in_range kind.I16 z = in_signed (2 ^ 15) z
in_range kind.U16 z = in_unsigned (2 ^ 16) z
in_range kind.I32 z = in_signed (2 ^ 31) z
in_range kind.U32 z = in_unsigned (2 ^ 32) z

-- a value is of a kind, whatever its range
abbrev pub is_of_kind : ScalarKind → Value → Bool
is_of_kind kind.Str (value.Str t) = true
is_of_kind kind.Str (value.Whole z) = false
is_of_kind kind.Bool (value.Truth b) = true
is_of_kind kind.Bool (value.Whole z) = false
is_of_kind k (value.Whole z) = true
is_of_kind k v = false

-- a value is of a kind and in its range; a text fits where it is shorter than 2^32 bytes
abbrev pub fits : ScalarKind → Value → Bool
fits k (value.Whole z) = in_range k z
fits kind.Str (value.Str t) = nat_lt (length t) (2 ^ 32)
fits kind.Bool (value.Truth b) = true
fits k v = false

-- a text is UTF-8
abbrev pub is_worded : Value → Bool
is_worded (value.Str t) = is_utf8 t
is_worded v = true
