-- The rooms that a hub keeps, in the order of their creation.
use Rattle.std.specs.Prelude.{◌≡◌, ℕ, Bool, false, List, [], ◌∷◌, None, map, IfSome}
use Rattle.std.specs.List.{find}
use Rattle.std.specs.Option.{option_map}
use Rattle.std.specs.BTreeMap.{is_at}
use Rattle.std.specs.Map.{lookup}
use Rattle.std.specs.Ordering.{nat_cmp}
use Rattle.std.specs.Cmp.Lexicographic.{slice_cmp}
use Rattle.std.specs.Str.{bytes_eq}
use Rattle.lists.specs.Rising.{IsAbove, RisesFrom, find as find_by, put}
use Rattle.room_model.specs.Room.{RoomValue}
use Rattle.hub_model.specs.HubValues.{HubRoom}
use Rattle.hub_core.specs.declared.entry.RoomEntry.{RoomEntry}
use Rattle.hub_core.specs.declared.slots.RoomRef.{RoomRef}

-- the number by which rooms rise
abbrev pub serial_of : {R : Type 0} → RoomEntry R → ℕ
serial_of s = s.serial

-- the room has this id
abbrev pub has_id : {R : Type 0} → List ℕ → RoomEntry R → Bool
has_id id s = bytes_eq s.id id

-- a room as the hub's value has it
abbrev pub room_in : {R : Type 0} → (R → RoomValue) → RoomEntry R → HubRoom
room_in room s = record { id = s.id; def = s.def; criteria = s.criteria; room = room s.room }

abbrev pub rooms_in : {R : Type 0} → (R → RoomValue) → List (RoomEntry R) → List HubRoom
rooms_in room ss = map (room_in room) ss

-- the number of a room that is referred to
abbrev pub ref_serial : RoomRef → ℕ
ref_serial r = r.serial

-- each id leads to the number of its room
abbrev pub AreIds : {R : Type 0} → List (RoomEntry R) → List (List ℕ × RoomRef) → Type 0
AreIds ss ids = (id : List ℕ) → option_map ref_serial (lookup (is_at (slice_cmp nat_cmp id)) ids) ≡ option_map serial_of (find (has_id id) ss)

-- no two rooms have one id
abbrev pub HaveOwnIds : {R : Type 0} → List (RoomEntry R) → Type 0
HaveOwnIds [] = Unit {0}
HaveOwnIds (s ∷ ss) = (find (has_id s.id) ss ≡ None) × HaveOwnIds ss

-- holds of each room
abbrev pub Each : {R : Type 0} → (RoomEntry R → Type 0) → List (RoomEntry R) → Type 0
Each P ss = (n : ℕ) → IfSome (find_by serial_of n ss) P

-- rooms that rise by their numbers and have different ids
abbrev pub AreOrdered : {R : Type 0} → List (RoomEntry R) → Type 0
AreOrdered ss = RisesFrom serial_of 0 ss × HaveOwnIds ss

-- rooms with different ids, below the next number, and each id leads to the number of its room
pub record AreRooms {R : Type 0} (ss : List (RoomEntry R)) (ids : List (List ℕ × RoomRef)) (next : ℕ) : Type 0 where
  pub below : IsAbove serial_of next ss
  pub own_ids : HaveOwnIds ss
  pub found : AreIds ss ids

-- all but the room itself, and what it shows, is as it was
abbrev pub Kept : {R : Type 0} → RoomEntry R → RoomEntry R → Type 0
Kept s t = t ≡ record { serial = s.serial; def = s.def; id = s.id; status = t.status; room = t.room; criteria = s.criteria }

-- one room was exchanged for itself
pub record IsExchanged {R : Type 0} (was : RoomEntry R) (old new : List (RoomEntry R)) : Type 0 where
  pub now : RoomEntry R
  pub same : Kept was now
  pub rooms : new ≡ put serial_of now old

-- one room was exchanged for itself behind a step
pub record IsStepped {R : Type 0} (room : R → RoomValue) (is_spent : R → Bool) (was : RoomEntry R) (old new : List (RoomEntry R)) (after : RoomValue) : Type 0 where
  pub now : RoomEntry R
  pub serial : now.serial ≡ was.serial
  pub rooms : new ≡ put serial_of now old
  pub is : room_in room now ≡ record { id = was.id; def = was.def; criteria = was.criteria; room = after }
  pub fresh : is_spent now.room ≡ false
