-- Definitions of rooms as lines: the words of each, and the definition that words stand for. Ours.
use Rattle.std.specs.Prelude.{ℕ, ◌==◌, Bool, not, ◌&&◌, List, [], ◌∷◌, length, Option, Some, None, if◌then◌else◌, nat_le, nat_lt, codes}
use Rattle.std.specs.List.{join_with_byte, list_all, list_any, slice_split}
use Rattle.std.specs.Str.{bytes_eq}
use Rattle.std.specs.Fmt.{decimal}
use Rattle.state_model.specs.Sound.{keys_differ}
use Rattle.room_model.specs.declared.definition.RoomDef.{RoomDef}
use Rattle.room_model.specs.Definitions.{is_room_def}
use Rattle.room_model.specs.Limits.{longest_time, most_filters, most_places}
use Rattle.text_model.specs.Decimals.{decimal_within}
use Rattle.text_model.specs.Lines.{both, is_word, passing}
use Rattle.text_model.specs.Marks.{is_room_name}

-- keys with a comma between each two
abbrev pub comma_joined : List (List ℕ) → List ℕ
comma_joined ks = join_with_byte 44 ks

abbrev pub comma_split : List ℕ → List (List ℕ)
comma_split w = slice_split (λ b. b == 44) w

-- the words of a filter; no keys have none
abbrev pub filter_words : List (List ℕ) → List (List ℕ)
filter_words [] = []
filter_words (k ∷ ks) = codes "filter" ∷ comma_joined (k ∷ ks) ∷ []

-- the words of a definition
abbrev pub def_words : RoomDef → List (List ℕ)
def_words d =
    codes "room" ∷ d.name ∷ codes "max" ∷ decimal d.max ∷ codes "seat" ∷ decimal d.seat ∷ codes "patch" ∷ decimal d.patch
    ∷ codes "keep" ∷ decimal d.keep ∷ filter_words d.filter

-- the name and the keys are names, and a room may be made of it
abbrev pub is_named_def : RoomDef → Bool
is_named_def d = is_room_name d.name && (list_all is_room_name d.filter && is_room_def d)

-- ---- what words stand for

-- the keys of a filter: at most four names that differ
abbrev pub are_keys : List (List ℕ) → Bool
are_keys ks = list_all is_room_name ks && (nat_le (length ks) most_filters && keys_differ ks)

abbrev pub filter_of : List (List ℕ) → Option (List (List ℕ))
filter_of [] = Some []
filter_of (w ∷ keys ∷ []) = if is_word (codes "filter") w then passing are_keys (Some (comma_split keys)) else None
filter_of ws = None

-- the four numbers of a definition
pub record DefNumbers : Type 0 where
  pub max : ℕ
  pub seat : ℕ
  pub patch : ℕ
  pub keep : ℕ

abbrev pub numbers_of : List ℕ → List ℕ → List ℕ → List ℕ → Option DefNumbers
numbers_of m s p k =
    both (λ (a : ℕ × ℕ) (b : ℕ × ℕ). record { max = a.0; seat = a.1; patch = b.0; keep = b.1 })
    (both (λ m s. (m, s)) (decimal_within 1 most_places m) (decimal_within 1 longest_time s))
    (both (λ p k. (p, k)) (decimal_within 1 longest_time p) (decimal_within 0 longest_time k))

abbrev pub def_with : List ℕ → DefNumbers → List (List ℕ) → RoomDef
def_with name n filter = record { name = name; max = n.max; seat = n.seat; patch = n.patch; keep = n.keep; filter = filter }

-- the words between the numbers
abbrev pub are_def_words : List ℕ → List ℕ → List ℕ → List ℕ → Bool
are_def_words m s p k = is_word (codes "max") m && (is_word (codes "seat") s && (is_word (codes "patch") p && is_word (codes "keep") k))

-- the definition whose words these are
abbrev pub def_of : List (List ℕ) → Option RoomDef
def_of (w ∷ name ∷ wm ∷ m ∷ ws ∷ s ∷ wp ∷ p ∷ wk ∷ k ∷ filter) =
    if is_word (codes "room") w && (is_room_name name && are_def_words wm ws wp wk)
    then both (def_with name) (numbers_of m s p k) (filter_of filter) else None
def_of ws = None

-- ---- definitions behind one another

-- the most definitions of a schedule
abbrev pub most_defs : ℕ
most_defs = 256

-- one of them has this name
abbrev pub has_name : List RoomDef → List ℕ → Bool
has_name defs name = list_any (λ (d : RoomDef). bytes_eq name d.name) defs

-- the definition whose words these are, where it may stand behind others
abbrev pub next_def : List RoomDef → List (List ℕ) → Option RoomDef
next_def defs ws = passing (λ (d : RoomDef). nat_lt (length defs) most_defs && not (has_name defs d.name)) (def_of ws)
