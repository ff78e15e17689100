-- Words of texts: escapes, bytes in hex, names and ids. Ours.
use Rattle.std.specs.Prelude.{ℕ, ◌+◌, ◌/◌, ◌%◌, Bool, not, ◌&&◌, List, [], ◌∷◌, ◌++◌, length, map, nat_lt, nat_le, ◌==◌, if◌then◌else◌, codes}
use Rattle.std.specs.List.{flat_map, list_all, list_any}
use Rattle.std.specs.Str.{bytes_eq}
pub use Rattle.schema_model.specs.Ids.{is_name_byte, is_id_byte, is_id}
use Rattle.schema_model.specs.declared.scalar.ScalarKind.{ScalarKind}
use Rattle.schema_model.specs.declared.scalar.ScalarKind.TheVariants as kind

-- a hex digit, lower case
abbrev pub hex_digit : ℕ → ℕ
hex_digit n = if nat_lt n 10 then 48 + n else 87 + n

-- a byte in hex
abbrev pub hex_byte : ℕ → List ℕ
hex_byte b = hex_digit (b / 16) ∷ hex_digit (b % 16) ∷ []

-- bytes in hex; none are `-`
abbrev pub hex_word : List ℕ → List ℕ
hex_word [] = codes "-"
hex_word (b ∷ bs) = flat_map hex_byte (b ∷ bs)

-- an upper case hex digit
abbrev pub escape_digit : ℕ → ℕ
escape_digit n = if nat_lt n 10 then 48 + n else 55 + n

-- a byte of a word: one outside 33..126, and `%`, is percent-escaped
abbrev pub escaped : ℕ → List ℕ
escaped b =
    if nat_le 33 b && nat_le b 126 && not (b == 37) then b ∷ []
    else 37 ∷ escape_digit (b / 16) ∷ escape_digit (b % 16) ∷ []

-- a quoted word
abbrev pub quoted : List ℕ → List ℕ
quoted t = 39 ∷ flat_map escaped t

-- 1 to 64 bytes
abbrev pub has_name_length : List ℕ → Bool
has_name_length w = nat_le 1 (length w) && nat_le (length w) 64

-- the name of a room
abbrev pub is_room_name : List ℕ → Bool
is_room_name w = has_name_length w && list_all is_id_byte w

-- the word of a kind of scalar
abbrev pub scalar_word : ScalarKind → List ℕ
scalar_word kind.Number = codes "number"
scalar_word kind.Str = codes "string"
scalar_word kind.Bool = codes "boolean"
scalar_word kind.I8 = codes "int8"
scalar_word kind.U8 = codes "uint8"
scalar_word kind.I16 = codes "int16"
scalar_word kind.U16 = codes "uint16"
scalar_word kind.I32 = codes "int32"
scalar_word kind.U32 = codes "uint32"

-- all kinds
abbrev pub all_kinds : List ScalarKind
all_kinds = kind.Number ∷ kind.Str ∷ kind.Bool ∷ kind.I8 ∷ kind.U8 ∷ kind.I16 ∷ kind.U16 ∷ kind.I32 ∷ kind.U32 ∷ []

-- the words for kinds of scalar
abbrev pub kind_words : List (List ℕ)
kind_words = map scalar_word all_kinds

-- the words for shapes
abbrev pub shape_words : List (List ℕ)
shape_words = codes "map" ∷ codes "array" ∷ codes "set" ∷ []

-- a word is one of these
abbrev pub is_one_of : List (List ℕ) → List ℕ → Bool
is_one_of ws w = list_any (bytes_eq w) ws

-- the name of a field: no word for a kind
abbrev pub is_field_name : List ℕ → Bool
is_field_name w = has_name_length w && list_all is_name_byte w && not (is_one_of kind_words w)

-- the name of a class: no word for a kind or a shape
abbrev pub is_class_name : List ℕ → Bool
is_class_name w = is_field_name w && not (is_one_of shape_words w)

-- words with a space between each two
abbrev pub spaced : List (List ℕ) → List ℕ
spaced [] = []
spaced (w ∷ []) = w
spaced (w ∷ v ∷ ws) = w ++ 32 ∷ spaced (v ∷ ws)

-- a line of words, ended by LF
abbrev pub line : List (List ℕ) → List ℕ
line ws = spaced ws ++ 10 ∷ []

-- lines of words
abbrev pub lines : List (List (List ℕ)) → List ℕ
lines ls = flat_map line ls
