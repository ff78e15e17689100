-- Items of a list and the holes between them.
use Rattle.std.specs.Prelude.{◌≡◌, ℕ, Bool, false, List, [], ◌∷◌, ◌++◌, Option, is_none, IfSome}
use Rattle.std.specs.Option.{option_map, option_to_list}
use Rattle.trees.specs.declared.slot.Slot.{Slot}

-- the number of a slot
abbrev pub slot_number : {X : Type 0} → Slot X → ℕ
slot_number s = s.number

-- the item of a slot, alone and with its number; a hole has none
abbrev pub item_of : {X : Type 0} → Slot X → Option X
item_of s = s.item

abbrev pub entry_of : {X : Type 0} → Slot X → Option (ℕ × X)
entry_of s = option_map (λ x. (s.number, x)) s.item

-- what the slots have, without the holes
abbrev pub read_all : {X Y : Type 0} → (Slot X → Option Y) → List (Slot X) → List Y
read_all read [] = []
read_all read (s ∷ ss) = option_to_list (read s) ++ read_all read ss

-- the items
abbrev pub items_in : {X : Type 0} → List (Slot X) → List X
items_in ss = read_all item_of ss

-- the items with their numbers
abbrev pub entries_in : {X : Type 0} → List (Slot X) → List (ℕ × X)
entries_in ss = read_all entry_of ss

-- each item stands under its own number
abbrev pub AreOwn : {X Y : Type 0} → (Slot X → Option Y) → (Y → ℕ) → List (Slot X) → Type 0
AreOwn read key [] = Unit {0}
AreOwn read key (s ∷ ss) = IfSome (read s) (λ y. key y ≡ s.number) × AreOwn read key ss

-- the last slot is a hole
abbrev pub ends_with_hole : {X : Type 0} → List (Slot X) → Bool
ends_with_hole [] = false
ends_with_hole (s ∷ []) = is_none s.item
ends_with_hole (s ∷ t ∷ ss) = ends_with_hole (t ∷ ss)
