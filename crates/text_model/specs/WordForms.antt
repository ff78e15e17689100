-- Words for texts, bytes, values, message kinds and tags: the one word of each, and what a word stands for. Ours.
use Rattle.std.specs.Prelude.{ℕ, ◌+◌, ◌-◌, ◌*◌, ◌^◌, ◌==◌, Bool, true, false, ◌&&◌, List, [], ◌∷◌, ℤ, pos, negsuc, Option, Some, None, if◌then◌else◌, nat_le, nat_lt, codes}
use Rattle.std.specs.List.{flat_map, list_all}
use Rattle.std.specs.Option.{option_map}
use Rattle.std.specs.Str.{bytes_eq, is_utf8}
use Rattle.std.specs.Fmt.{decimal}
use Rattle.percent_encoding.specs.Percent.{percent_decode}
use Rattle.schema_model.specs.declared.value.Value.{Value}
use Rattle.schema_model.specs.declared.value.Value.TheVariants.{Whole, Str, Truth, Link}
use Rattle.frame_model.specs.declared.frame.MsgKind.{MsgKind}
use Rattle.frame_model.specs.declared.frame.MsgKind.TheVariants.{Name, Num}
use Rattle.room_model.specs.Acts.{is_short_kind}
use Rattle.text_model.specs.Decimals.{decimal_below, signed_text, signed_within}
use Rattle.text_model.specs.Lines.{is_word, passing, some_if}
use Rattle.text_model.specs.Marks.{escaped, hex_word, is_id, quoted}

-- ---- texts and bytes

-- bytes
abbrev pub are_bytes : List ℕ → Bool
are_bytes bs = list_all (λ b. nat_lt b 256) bs

-- bytes that are a text
abbrev pub is_text : List ℕ → Bool
is_text t = are_bytes t && is_utf8 t

-- a plain word: bytes with their escapes; none are `-`, and a single hyphen is escaped
abbrev pub plain : List ℕ → List ℕ
plain [] = codes "-"
plain (b ∷ bs) = if is_word (codes "-") (b ∷ bs) then codes "%2D" else flat_map escaped (b ∷ bs)

-- the bytes whose plain word this is
abbrev pub plain_bytes : List ℕ → List ℕ
plain_bytes w = if is_word (codes "-") w then [] else percent_decode w

abbrev pub plain_of : List ℕ → Option (List ℕ)
plain_of w = some_if (are_bytes (plain_bytes w) && bytes_eq (plain (plain_bytes w)) w) (plain_bytes w)

-- the text whose plain word this is
abbrev pub plain_text_of : List ℕ → Option (List ℕ)
plain_text_of w = passing is_text (plain_of w)

-- the text whose quoted word this is
abbrev pub quoted_of : List ℕ → Option (List ℕ)
quoted_of [] = None
quoted_of (c ∷ w) = passing is_text (some_if (bytes_eq (quoted (percent_decode w)) (c ∷ w)) (percent_decode w))

-- the number of a digit in hex
abbrev pub hex_value : ℕ → ℕ
hex_value d = if nat_le d 57 then d - 48 else d - 87

-- what pairs of digits stand for
abbrev pub hex_pairs : List ℕ → List ℕ
hex_pairs [] = []
hex_pairs (d ∷ []) = []
hex_pairs (d ∷ e ∷ w) = (16 * hex_value d + hex_value e) ∷ hex_pairs w

-- the bytes whose word in hex this is
abbrev pub hex_of : List ℕ → Option (List ℕ)
hex_of w = some_if (are_bytes (hex_pairs w) && bytes_eq (hex_word (hex_pairs w)) w) (hex_pairs w)

-- the id that a word is
abbrev pub id_of : List ℕ → Option (List ℕ)
id_of w = some_if (is_id w) w

-- ---- values

abbrev pub truth_word : Bool → List ℕ
truth_word true = codes "true"
truth_word false = codes "false"

-- the word of a value: a decimal, a quoted word, `true`, `false` or `#REF`
abbrev pub value_word : Value → List ℕ
value_word (Whole z) = signed_text z
value_word (Str t) = quoted t
value_word (Truth b) = truth_word b
value_word (Link n) = 35 ∷ decimal n

abbrev pub truth_of : List ℕ → Option Value
truth_of w = if is_word (codes "true") w then Some (Truth true) else some_if (is_word (codes "false") w) (Truth false)

-- a whole number has 128 bits at most
abbrev pub whole_of : List ℕ → Option Value
whole_of w = option_map Whole (signed_within (2 ^ 127) w)

-- the value whose word this is
abbrev pub value_of : List ℕ → Option Value
value_of [] = None
value_of (c ∷ w) =
    if c == 39 then option_map Str (quoted_of (c ∷ w))
    else if c == 35 then option_map Link (decimal_below (2 ^ 32) w)
    else if c == 116 then truth_of (c ∷ w)
    else if c == 102 then truth_of (c ∷ w)
    else whole_of (c ∷ w)

-- ---- kinds and tags

-- the message kind whose word this is: a number of 32 bits, or a name that is short
abbrev pub kind_of : List ℕ → Option MsgKind
kind_of [] = None
kind_of (c ∷ w) = if c == 39 then passing is_short_kind (option_map Name (quoted_of (c ∷ w))) else option_map Num (signed_within (2 ^ 31) (c ∷ w))

-- the tag whose word this is: `-1` for the default one, or 0 to 255
abbrev pub tag_of_word : List ℕ → Option ℤ
tag_of_word w = if is_word (codes "-1") w then Some (negsuc 0) else option_map pos (decimal_below 256 w)
