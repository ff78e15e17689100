-- What a variable of a script holds, and what becomes of values and payloads. Ours.
use Rattle.std.specs.Prelude.{ℕ, ◌==◌, Bool, true, false, ◌&&◌, List, ℤ, Option, Some, None}
use Rattle.std.specs.Str.{bytes_eq}
use Rattle.schema_model.specs.Values.{same_truth, same_whole}
use Rattle.schema_model.specs.declared.value.Value.{Value}
use Rattle.schema_model.specs.declared.value.Value.TheVariants as value
use Rattle.frame_model.specs.PackData.{PackData, nil, truth, whole, text, binary, list, dict, PackItems, no_items, item, PackMembers, no_members, member}

-- a row or a collection, by its number, or a payload
pub data Datum : Type 0 where
  row : ℕ → Datum
  plain : PackData → Datum

-- no value
abbrev pub nothing : Datum
nothing = plain nil

-- a value of the state
abbrev pub datum_of : Value → Datum
datum_of (value.Whole z) = plain (whole z)
datum_of (value.Str t) = plain (text t)
datum_of (value.Truth b) = plain (truth b)
datum_of (value.Link n) = row n

-- a value that may be missing
abbrev pub or_nothing : Option Datum → Datum
or_nothing None = nothing
or_nothing (Some d) = d

-- the value that a place of the state may be given: nil, bytes, lists and maps are none
abbrev pub value_of : Datum → Option Value
value_of (row n) = Some (value.Link n)
value_of (plain (whole z)) = Some (value.Whole z)
value_of (plain (text t)) = Some (value.Str t)
value_of (plain (truth b)) = Some (value.Truth b)
value_of (plain d) = None

abbrev pub row_of : Datum → Option ℕ
row_of (row n) = Some n
row_of (plain d) = None

abbrev pub payload_of : Datum → Option PackData
payload_of (row n) = None
payload_of (plain nil) = None
payload_of (plain d) = Some d

abbrev pub text_of : Datum → Option (List ℕ)
text_of (plain (text t)) = Some t
text_of d = None

abbrev pub whole_of : Datum → Option ℤ
whole_of (plain (whole z)) = Some z
whole_of d = None

-- the value is true
abbrev pub is_true : Datum → Bool
is_true (plain (truth b)) = b
is_true d = false

abbrev mutual
  -- two payloads are equal: lists with their items, maps with their pairs in order
  pub same_data : PackData → PackData → Bool
  same_data nil nil = true
  same_data (truth a) (truth b) = same_truth a b
  same_data (whole a) (whole b) = same_whole a b
  same_data (text a) (text b) = bytes_eq a b
  same_data (binary a) (binary b) = bytes_eq a b
  same_data (list xs) (list ys) = same_items xs ys
  same_data (dict xs) (dict ys) = same_members xs ys
  same_data a b = false

  pub same_items : PackItems → PackItems → Bool
  same_items no_items no_items = true
  same_items (item a xs) (item b ys) = same_data a b && same_items xs ys
  same_items xs ys = false

  pub same_members : PackMembers → PackMembers → Bool
  same_members no_members no_members = true
  same_members (member k a xs) (member l b ys) = bytes_eq k l && (same_data a b && same_members xs ys)
  same_members xs ys = false

-- two values are equal
abbrev pub same_datum : Datum → Datum → Bool
same_datum (row a) (row b) = a == b
same_datum (plain a) (plain b) = same_data a b
same_datum a b = false
