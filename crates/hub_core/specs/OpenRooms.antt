-- The open rooms of a definition, by the key of their criteria. Ours.
use Rattle.std.specs.Prelude.{◌≡◌, ◌≤◌, ◌<◌, ◌==◌, ◌&&◌, ℕ, Bool, true, false, List, [], ◌∷◌, ◌++◌, Option, Some, None, length, slice_get, if◌then◌else◌}
use Rattle.std.specs.Str.{bytes_eq}
use Rattle.std.specs.List.{flat_map}
use Rattle.std.specs.Option.{option_map_or}
use Rattle.std.specs.BTreeMap.{get_by}
use Rattle.std.specs.BTreeSet.{contains}
use Rattle.std.specs.Cmp.Lexicographic.{slice_cmp}
use Rattle.std.specs.Ordering.{nat_cmp}
use Rattle.lists.specs.Rising.{find as find_by}
use Rattle.room_model.specs.Room.{RoomValue}
use Rattle.hub_model.specs.Decisions.{meets}
use Rattle.hub_model.specs.HubValues.{listing_of}
use Rattle.hub_core.specs.declared.open_rooms.OpenRooms.{OpenRooms}
use Rattle.hub_core.specs.declared.entry.RoomEntry.{RoomEntry}
use Rattle.hub_core.specs.RoomEntry.{room_in, serial_of}

-- ---- keys

-- a byte of a text: a zero is told from the end by a one behind it
abbrev pub byte_key : ℕ → List ℕ
byte_key b = if b == 0 then b ∷ 1 ∷ [] else b ∷ []

-- a text with its end
abbrev pub text_key : List ℕ → List ℕ
text_key t = flat_map byte_key t ++ 0 ∷ 0 ∷ []

-- criteria as a whole
abbrev pub criteria_key : List (List ℕ) → List ℕ
criteria_key ts = flat_map text_key ts

-- ---- rooms under keys

-- a number is among those of a key
abbrev pub is_open_at : OpenRooms → List ℕ → ℕ → Bool
is_open_at o key n = option_map_or (λ s. contains nat_cmp s n) (get_by (λ k. slice_cmp nat_cmp key k.items) o.by_criteria) false

-- the least number with a property, or none has it
abbrev pub IsFirst : (ℕ → Bool) → Option ℕ → Type 0
IsFirst p None = (n : ℕ) → p n ≡ false
IsFirst p (Some n) = (p n ≡ true) × ((m : ℕ) → p m ≡ true → n ≤ m)

-- a number is among the open rooms of a definition under a key
abbrev pub is_open_in : List OpenRooms → ℕ → List ℕ → ℕ → Bool
is_open_in opens d key n = option_map_or (λ o. is_open_at o key n) (slice_get opens d) false

-- no room is open
abbrev pub AreEmpty : List OpenRooms → Type 0
AreEmpty opens = (d : ℕ) (key : List ℕ) (n : ℕ) → is_open_in opens d key n ≡ false

-- a number is there under a key of a definition, or isn't; all else is as it was
abbrev pub Relisted : ℕ → List ℕ → ℕ → Bool → List OpenRooms → List OpenRooms → Type 0
Relisted d key n b olds news = (length news ≡ length olds)
    × ((k : ℕ) (other : List ℕ) (m : ℕ) → is_open_in news k other m ≡ (if (d == k) && (bytes_eq key other && (n == m)) then b else is_open_in olds k other m))

-- ---- what a hub keeps of them

-- a room is open to requests of a definition and criteria
abbrev pub is_listed : {R : Type 0} → (R → RoomValue) → ℕ → List (List ℕ) → Option (RoomEntry R) → Bool
is_listed room d criteria None = false
is_listed room d criteria (Some s) = meets d criteria (listing_of (room_in room s))

-- the open rooms of each definition, and no others, stand under the key of their criteria
abbrev pub AreListed : {R : Type 0} → (R → RoomValue) → List (RoomEntry R) → List OpenRooms → Type 0
AreListed room ss opens =
    (d : ℕ) → d < length opens → (criteria : List (List ℕ)) (n : ℕ) → is_open_in opens d (criteria_key criteria) n ≡ is_listed room d criteria (find_by serial_of n ss)

-- a room that was open or not is now, or isn't
abbrev pub Relists : {R : Type 0} → RoomEntry R → Bool → Bool → List OpenRooms → List OpenRooms → Type 0
Relists t true false olds news = Relisted t.def (criteria_key t.criteria) t.serial false olds news
Relists t false true olds news = Relisted t.def (criteria_key t.criteria) t.serial true olds news
Relists t was now olds news = news ≡ olds
