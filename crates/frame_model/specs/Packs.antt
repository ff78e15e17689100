-- MessagePack values: what bytes at a place are, with every fault and its place, and the shortest bytes of a value. All
-- widths are high byte first. That floating numbers and extensions are refused, and that keys are texts, is ours.
use Rattle.std.specs.Prelude.{ℕ, zero, suc, ◌+◌, ◌-◌, Bool, true, false, ◌&&◌, ◌==◌, List, [], ◌∷◌, ◌++◌, length, take, drop, max, Option, Some, None, ℤ, pos, negsuc, if◌then◌else◌, nat_lt, Result, Ok, Err}
use Rattle.std.specs.Int.{Width, w8, w16, w32, w64, byte_len, from_be_bytes, to_be_bytes, cast_signed}
use Rattle.std.specs.Str.{is_utf8}
use Rattle.schema_model.specs.Reading.{◌>>=◌}
use Rattle.frame_model.specs.PackData.{PackData, nil, truth, whole, text, binary, list, dict, PackItems, no_items, item, PackMembers, no_members, member}
use Rattle.frame_model.specs.declared.fault.PackFault.{PackFault}
use Rattle.frame_model.specs.declared.fault.PackFault.TheVariants as fault
use Rattle.frame_model.specs.declared.form.Size.{Size}
use Rattle.frame_model.specs.declared.form.Size.TheVariants.{One, Two, Four, Eight}
use Rattle.frame_model.specs.declared.form.Length.{Length}
use Rattle.frame_model.specs.declared.form.Length.TheVariants.{Told, Behind}
use Rattle.frame_model.specs.declared.form.Form.{Form}
use Rattle.frame_model.specs.declared.form.Form.TheVariants as form

-- ---- forms

-- a first byte from 192 to 223
abbrev pub marked_form : ℕ → Form
marked_form first =
    if first == 192 then form.Nil
    else if first == 194 then form.Truth false
    else if first == 195 then form.Truth true
    else if first == 196 then form.Binary (Behind One)
    else if first == 197 then form.Binary (Behind Two)
    else if first == 198 then form.Binary (Behind Four)
    else if first == 202 then form.Float
    else if first == 203 then form.Float
    else if first == 204 then form.Unsigned One
    else if first == 205 then form.Unsigned Two
    else if first == 206 then form.Unsigned Four
    else if first == 207 then form.Unsigned Eight
    else if first == 208 then form.Signed One
    else if first == 209 then form.Signed Two
    else if first == 210 then form.Signed Four
    else if first == 211 then form.Signed Eight
    else if first == 217 then form.Text (Behind One)
    else if first == 218 then form.Text (Behind Two)
    else if first == 219 then form.Text (Behind Four)
    else if first == 220 then form.List (Behind Two)
    else if first == 221 then form.List (Behind Four)
    else if first == 222 then form.Map (Behind Two)
    else if first == 223 then form.Map (Behind Four)
    else if first == 193 then form.Reserved
    else form.Extension

-- what the first byte of a value tells
unfoldable pub form_of : ℕ → Form
form_of first =
    if nat_lt first 128 then form.Small (pos first)
    else if nat_lt first 144 then form.Map (Told (first - 128))
    else if nat_lt first 160 then form.List (Told (first - 144))
    else if nat_lt first 192 then form.Text (Told (first - 160))
    else if nat_lt first 224 then marked_form first
    else form.Small (negsuc (255 - first))

-- ---- the parts of a value

abbrev pub width_of : Size → Width
width_of One = w8
width_of Two = w16
width_of Four = w32
width_of Eight = w64

-- a number of a fixed width at a place, and the place after it
abbrev pub width_at : Width → List ℕ → ℕ → Result (ℕ × ℕ) PackFault
width_at w bytes at =
    if nat_lt (length bytes) (at + byte_len w) then Err (fault.Short (length bytes))
    else Ok (from_be_bytes w (take (byte_len w) (drop at bytes)), at + byte_len w)

-- so many bytes from a place on, and the place after them
abbrev pub bytes_at : List ℕ → ℕ × ℕ → Result (List ℕ × ℕ) PackFault
bytes_at bytes n =
    if nat_lt (length bytes) (n.1 + n.0) then Err (fault.Short (length bytes))
    else Ok (take n.0 (drop n.1 bytes), n.1 + n.0)

-- a length, which is told or stands at a place, and the place after it
abbrev pub length_at : Length → List ℕ → ℕ → Result (ℕ × ℕ) PackFault
length_at (Told n) bytes at = Ok (n, at)
length_at (Behind size) bytes at = width_at (width_of size) bytes at

-- bytes behind their length
unfoldable pub run_at : Length → List ℕ → ℕ → Result (List ℕ × ℕ) PackFault
run_at len bytes at = do
  n ← length_at len bytes at
  bytes_at bytes n

-- bytes that are to be a text; the fault carries the place of the value
abbrev pub as_text : ℕ → List ℕ × ℕ → Result (List ℕ × ℕ) PackFault
as_text value_at run = if is_utf8 run.0 then Ok run else Err (fault.BadText value_at)

-- a text whose value begins at a place, and whose length is told or stands behind that
unfoldable pub text_at : Length → List ℕ → ℕ → Result (List ℕ × ℕ) PackFault
text_at len bytes at = do
  run ← run_at len bytes (at + 1)
  as_text at run

-- a key of a map, by the form of its first byte
abbrev pub key_of_form : Form → List ℕ → ℕ → Result (List ℕ × ℕ) PackFault
key_of_form (form.Text len) bytes at = text_at len bytes at
key_of_form f bytes at = Err (fault.KeyNotText at)

unfoldable pub key_at : List ℕ → ℕ → Result (List ℕ × ℕ) PackFault
key_at bytes at = do
  first ← width_at w8 bytes at
  key_of_form (form_of first.0) bytes at

-- ---- lists and maps, by how what they hold is read

-- so many values, one behind another
unfoldable pub items_at : (ℕ → Result (PackData × ℕ) PackFault) → ℕ → ℕ → Result (PackItems × ℕ) PackFault
items_at value zero at = Ok (no_items, at)
items_at value (suc n) at = do
  first ← value at
  rest ← items_at value n first.1
  Ok (item first.0 rest.0, rest.1)

-- so many keys, each with its value
unfoldable pub members_at : (ℕ → Result (PackData × ℕ) PackFault) → List ℕ → ℕ → ℕ → Result (PackMembers × ℕ) PackFault
members_at value bytes zero at = Ok (no_members, at)
members_at value bytes (suc n) at = do
  key ← key_at bytes at
  first ← value key.1
  rest ← members_at value bytes n first.1
  Ok (member key.0 first.0 rest.0, rest.1)

-- what is read, as a value
abbrev pub as_value : {A : Type 0} → (A → PackData) → Result (A × ℕ) PackFault → Result (PackData × ℕ) PackFault
as_value f (Ok r) = Ok (f r.0, r.1)
as_value f (Err e) = Err e

-- a list, whose length is read unless it is too deep to hold anything
unfoldable pub list_at : Option (ℕ → Result (PackData × ℕ) PackFault) → Length → List ℕ → ℕ → Result (PackData × ℕ) PackFault
list_at None len bytes at = Err (fault.TooDeep at)
list_at (Some value) len bytes at = do
  n ← length_at len bytes (at + 1)
  as_value list (items_at value n.0 n.1)

-- a map likewise
unfoldable pub dict_at : Option (ℕ → Result (PackData × ℕ) PackFault) → Length → List ℕ → ℕ → Result (PackData × ℕ) PackFault
dict_at None len bytes at = Err (fault.TooDeep at)
dict_at (Some value) len bytes at = do
  n ← length_at len bytes (at + 1)
  as_value dict (members_at value bytes n.0 n.1)

-- ---- a value

-- a value that begins at a place, by its form
abbrev pub value_of_form : Option (ℕ → Result (PackData × ℕ) PackFault) → Form → List ℕ → ℕ → Result (PackData × ℕ) PackFault
value_of_form inside form.Nil bytes at = Ok (nil, at + 1)
value_of_form inside (form.Truth b) bytes at = Ok (truth b, at + 1)
value_of_form inside (form.Small z) bytes at = Ok (whole z, at + 1)
value_of_form inside (form.Unsigned size) bytes at = as_value (λ n. whole (pos n)) (width_at (width_of size) bytes (at + 1))
value_of_form inside (form.Signed size) bytes at = as_value (λ n. whole (cast_signed (width_of size) n)) (width_at (width_of size) bytes (at + 1))
value_of_form inside (form.Text len) bytes at = as_value text (text_at len bytes at)
value_of_form inside (form.Binary len) bytes at = as_value binary (run_at len bytes (at + 1))
value_of_form inside (form.List len) bytes at = list_at inside len bytes at
value_of_form inside (form.Map len) bytes at = dict_at inside len bytes at
value_of_form inside form.Float bytes at = Err (fault.Float at)
value_of_form inside form.Extension bytes at = Err (fault.Extension at)
value_of_form inside form.Reserved bytes at = Err (fault.Reserved at)

unfoldable pub value_at : Option (ℕ → Result (PackData × ℕ) PackFault) → List ℕ → ℕ → Result (PackData × ℕ) PackFault
value_at inside bytes at = do
  first ← width_at w8 bytes at
  value_of_form inside (form_of first.0) bytes at

-- the value at a place and the place after it, with so many levels of lists and maps left
unfoldable pub pack_at : ℕ → List ℕ → ℕ → Result (PackData × ℕ) PackFault
pack_at zero bytes at = value_at None bytes at
pack_at (suc levels) bytes at = value_at (Some (pack_at levels bytes)) bytes at

-- how many levels of lists and maps there may be
abbrev pub most_levels : ℕ
most_levels = 32

-- nothing stands behind the value
abbrev pub all_read : List ℕ → PackData × ℕ → Result PackData PackFault
all_read bytes read = if read.1 == length bytes then Ok read.0 else Err (fault.Trailing read.1)

-- the value that bytes are, or the first fault
abbrev pub read_pack : List ℕ → Result PackData PackFault
read_pack bytes = pack_at most_levels bytes 0 >>= all_read bytes

-- ---- the shortest bytes of a value

abbrev pub whole_bytes : ℤ → List ℕ
whole_bytes (pos n) =
    if nat_lt n 128 then n ∷ []
    else if nat_lt n 256 then 204 ∷ n ∷ []
    else if nat_lt n 65536 then 205 ∷ to_be_bytes w16 n
    else if nat_lt n 4294967296 then 206 ∷ to_be_bytes w32 n
    else 207 ∷ to_be_bytes w64 n
whole_bytes (negsuc n) =
    if nat_lt n 32 then (255 - n) ∷ []
    else if nat_lt n 128 then 208 ∷ (255 - n) ∷ []
    else if nat_lt n 32768 then 209 ∷ to_be_bytes w16 (65535 - n)
    else if nat_lt n 2147483648 then 210 ∷ to_be_bytes w32 (4294967295 - n)
    else 211 ∷ to_be_bytes w64 (18446744073709551615 - n)

-- the heads of a text, of bytes, of a list and of a map, by the length
abbrev pub text_head : ℕ → List ℕ
text_head n =
    if nat_lt n 32 then (160 + n) ∷ []
    else if nat_lt n 256 then 217 ∷ n ∷ []
    else if nat_lt n 65536 then 218 ∷ to_be_bytes w16 n
    else 219 ∷ to_be_bytes w32 n

abbrev pub binary_head : ℕ → List ℕ
binary_head n =
    if nat_lt n 256 then 196 ∷ n ∷ []
    else if nat_lt n 65536 then 197 ∷ to_be_bytes w16 n
    else 198 ∷ to_be_bytes w32 n

abbrev pub list_head : ℕ → List ℕ
list_head n =
    if nat_lt n 16 then (144 + n) ∷ []
    else if nat_lt n 65536 then 220 ∷ to_be_bytes w16 n
    else 221 ∷ to_be_bytes w32 n

abbrev pub dict_head : ℕ → List ℕ
dict_head n =
    if nat_lt n 16 then (128 + n) ∷ []
    else if nat_lt n 65536 then 222 ∷ to_be_bytes w16 n
    else 223 ∷ to_be_bytes w32 n

abbrev pub text_bytes : List ℕ → List ℕ
text_bytes t = text_head (length t) ++ t

abbrev pub binary_bytes : List ℕ → List ℕ
binary_bytes b = binary_head (length b) ++ b

-- how many values a list holds, and how many pairs a map
abbrev pub items_len : PackItems → ℕ
items_len no_items = 0
items_len (item d ds) = suc (items_len ds)

abbrev pub members_len : PackMembers → ℕ
members_len no_members = 0
members_len (member k d ms) = suc (members_len ms)

abbrev mutual
  pub pack_bytes : PackData → List ℕ
  pack_bytes nil = 192 ∷ []
  pack_bytes (truth false) = 194 ∷ []
  pack_bytes (truth true) = 195 ∷ []
  pack_bytes (whole z) = whole_bytes z
  pack_bytes (text t) = text_bytes t
  pack_bytes (binary b) = binary_bytes b
  pack_bytes (list ds) = list_head (items_len ds) ++ items_bytes ds
  pack_bytes (dict ms) = dict_head (members_len ms) ++ members_bytes ms

  pub items_bytes : PackItems → List ℕ
  items_bytes no_items = []
  items_bytes (item d ds) = pack_bytes d ++ items_bytes ds

  pub members_bytes : PackMembers → List ℕ
  members_bytes no_members = []
  members_bytes (member k d ms) = text_bytes k ++ (pack_bytes d ++ members_bytes ms)

-- ---- values that have bytes

-- a whole number from -2^63 to 2^64 - 1
abbrev pub is_whole : ℤ → Bool
is_whole (pos n) = nat_lt n 18446744073709551616
is_whole (negsuc n) = nat_lt n 9223372036854775808

-- a length of at most four bytes
abbrev pub is_short : ℕ → Bool
is_short n = nat_lt n 4294967296

abbrev mutual
  -- all lengths and whole numbers have a form
  pub has_bytes : PackData → Bool
  has_bytes nil = true
  has_bytes (truth b) = true
  has_bytes (whole z) = is_whole z
  has_bytes (text t) = is_short (length t)
  has_bytes (binary b) = is_short (length b)
  has_bytes (list ds) = is_short (items_len ds) && items_have_bytes ds
  has_bytes (dict ms) = is_short (members_len ms) && members_have_bytes ms

  pub items_have_bytes : PackItems → Bool
  items_have_bytes no_items = true
  items_have_bytes (item d ds) = has_bytes d && items_have_bytes ds

  pub members_have_bytes : PackMembers → Bool
  members_have_bytes no_members = true
  members_have_bytes (member k d ms) = is_short (length k) && (has_bytes d && members_have_bytes ms)

-- how deep lists and maps stand in one another
abbrev mutual
  pub depth : PackData → ℕ
  depth (list ds) = suc (items_depth ds)
  depth (dict ms) = suc (members_depth ms)
  depth d = 0

  pub items_depth : PackItems → ℕ
  items_depth no_items = 0
  items_depth (item d ds) = max (depth d) (items_depth ds)

  pub members_depth : PackMembers → ℕ
  members_depth no_members = 0
  members_depth (member k d ms) = max (depth d) (members_depth ms)

-- all texts and keys are UTF-8
abbrev mutual
  pub are_texts : PackData → Bool
  are_texts nil = true
  are_texts (truth b) = true
  are_texts (whole z) = true
  are_texts (text t) = is_utf8 t
  are_texts (binary b) = true
  are_texts (list ds) = items_are_texts ds
  are_texts (dict ms) = members_are_texts ms

  pub items_are_texts : PackItems → Bool
  items_are_texts no_items = true
  items_are_texts (item d ds) = are_texts d && items_are_texts ds

  pub members_are_texts : PackMembers → Bool
  members_are_texts no_members = true
  members_are_texts (member k d ms) = is_utf8 k && (are_texts d && members_are_texts ms)
