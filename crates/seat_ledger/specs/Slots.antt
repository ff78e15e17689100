-- Lists of slots: they rise by key, and of one key by place.
use Rattle.std.specs.Prelude.{◌≡◌, ℕ, ◌-◌, Bool, true, false, ◌&&◌, ◌||◌, ◌==◌, List, [], ◌∷◌, Option, Some, None, nat_lt, if◌then◌else◌}
use Rattle.std.specs.List.{list_any}
use Rattle.seat_ledger.specs.declared.slot.Slot.{Slot}

-- a key and a place stand before others, by the key and then by the place
abbrev pub comes_before : ℕ → ℕ → ℕ → ℕ → Bool
comes_before q p key at = nat_lt q key || ((q == key) && nat_lt p at)

-- a slot stands before another
abbrev pub precedes : Slot → Slot → Bool
precedes a b = comes_before a.key a.at b.key b.at

-- all of these slots stand behind one
abbrev pub AreBehind : Slot → List Slot → Type 0
AreBehind a [] = Unit {0}
AreBehind a (s ∷ ss) = (precedes a s ≡ true) × AreBehind a ss

-- the slots rise strictly
abbrev pub IsSorted : List Slot → Type 0
IsSorted [] = Unit {0}
IsSorted (s ∷ ss) = AreBehind s ss × IsSorted ss

-- a slot is that of a key and a place
abbrev pub is_slot : ℕ → ℕ → Slot → Bool
is_slot key at s = (s.key == key) && (s.at == at)

-- there is one of a key and a place
abbrev pub has_slot : ℕ → ℕ → List Slot → Bool
has_slot key at ss = list_any (is_slot key at) ss

-- the slots with one more
abbrev pub with_slot : Slot → List Slot → List Slot
with_slot x [] = x ∷ []
with_slot x (s ∷ ss) = if precedes s x then s ∷ with_slot x ss else x ∷ s ∷ ss

-- the slots without the first that is that of a key and a place
abbrev pub without_slot : Slot → List Slot → List Slot
without_slot x [] = []
without_slot x (s ∷ ss) = if is_slot x.key x.at s then ss else s ∷ without_slot x ss

-- a place, as its entry moves down behind one that goes
abbrev pub closed_place : ℕ → ℕ → ℕ
closed_place gone at = if nat_lt gone at then at - 1 else at

-- the slot of such an entry
abbrev pub closed_slot : ℕ → Slot → Slot
closed_slot gone s = record { key = s.key; at = closed_place gone s.at }

-- the slots of an index, of how many entries they are, and for how many it has room
pub record IndexState : Type 0 where
  pub slots : List Slot
  pub count : ℕ
  pub room : ℕ

-- one is that of an optional key
abbrev pub is_key : ℕ → Option ℕ → Bool
is_key q None = false
is_key q (Some r) = r == q

-- how many slots an optional key takes
abbrev pub one_of : Option ℕ → ℕ
one_of None = 0
one_of (Some key) = 1

-- a place has no slot
abbrev pub IsFree : ℕ → List Slot → Type 0
IsFree at ss = (q : ℕ) → has_slot q at ss ≡ false

-- the slot of an optional key and a place is there
abbrev pub HasSlot : Option ℕ → ℕ → List Slot → Type 0
HasSlot None at ss = Unit {0}
HasSlot (Some q) at ss = has_slot q at ss ≡ true

-- the only slot of a place is that of an optional key
abbrev pub IsOnlyKey : Option ℕ → ℕ → List Slot → Type 0
IsOnlyKey key at ss = (q : ℕ) → has_slot q at ss ≡ is_key q key

-- what is found of a key: the place of its first slot
abbrev pub IsFoundSlot : ℕ → List Slot → Option ℕ → Type 0
IsFoundSlot q ss None = (p : ℕ) → has_slot q p ss ≡ false
IsFoundSlot q ss (Some at) = has_slot q at ss ≡ true

-- the first slot
abbrev pub IsLeastSlot : List Slot → Option Slot → Type 0
IsLeastSlot ss None = (q p : ℕ) → has_slot q p ss ≡ false
IsLeastSlot ss (Some s) = (has_slot s.key s.at ss ≡ true) × ((q p : ℕ) → has_slot q p ss ≡ true → comes_before q p s.key s.at ≡ false)
