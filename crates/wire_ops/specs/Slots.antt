-- What stands at the places of an array: values, holes, and closed holes, which are no slots any more.
use Rattle.std.specs.Prelude.{ℕ, zero, suc, ◌≡◌, ◌+◌, ◌<◌, ◌≤◌, Bool, true, false, ◌==◌, if◌then◌else◌, List, [], ◌∷◌, length, Option, Some, None}
use Rattle.std.specs.List.{list_any}
use Rattle.schema_model.specs.declared.value.Value.{Value}
use Rattle.wire_model.specs.Effect.{has_link}
use Rattle.wire_ops.specs.declared.slots.Slot.{Slot}
use Rattle.wire_ops.specs.declared.slots.Slot.TheVariants.{Held, Hole, Closed}
use Rattle.wire_ops.specs.Places.{is_noted, IsWide}

-- the slots: each a value or a hole
abbrev pub shown : List Slot → List (Option Value)
shown [] = []
shown (Held v ∷ ss) = Some v ∷ shown ss
shown (Hole ∷ ss) = None ∷ shown ss
shown (Closed ∷ ss) = shown ss

-- the value that stands somewhere
abbrev pub held : Slot → Option Value
held (Held v) = Some v
held s = None

-- a hole
abbrev pub is_hole : Slot → Bool
is_hole Hole = true
is_hole s = false

-- something with a property stands at a place; each place is one above the one before it
abbrev pub stands_at : (Slot → Bool) → ℕ → List Slot → ℕ → Bool
stands_at p first [] place = false
stands_at p first (s ∷ ss) place = if place == first then p s else stands_at p (suc first) ss place

-- a link to a row
abbrev pub is_link : ℕ → Slot → Bool
is_link who s = has_link who (held s)

-- what is noted is where links stand
abbrev pub NotesLinks : List (ℕ × ℕ) → ℕ → List Slot → Type 0
NotesLinks pairs first slots = (who place : ℕ) → is_noted pairs who place ≡ stands_at (is_link who) first slots place

-- the places of closed holes
abbrev pub closed_places : ℕ → List Slot → List ℕ
closed_places first [] = []
closed_places first (Held v ∷ ss) = closed_places (suc first) ss
closed_places first (Hole ∷ ss) = closed_places (suc first) ss
closed_places first (Closed ∷ ss) = first ∷ closed_places (suc first) ss

-- a place is one of these
abbrev pub is_among : List ℕ → ℕ → Bool
is_among ps place = list_any (λ p. p == place) ps

-- what is kept of an array beside its slots: the first place and those above it stay within 64 bits, links are noted
-- where they stand, closed holes are known, and every other hole stands at one of the noted places
pub record IsKept (slots : List Slot) (first : ℕ) (pairs : List (ℕ × ℕ)) (closed holes : List ℕ) : Type 0 where
  pub wide : IsWide first slots
  pub links : NotesLinks pairs first slots
  pub places : closed ≡ closed_places first slots
  pub known : (place : ℕ) → stands_at is_hole first slots place ≡ true → is_among holes place ≡ true
  pub within : (place : ℕ) → is_among holes place ≡ true → (first ≤ place) × (place < first + length slots)

-- the slots with the hole at an index closed, if there is one
abbrev pub hole_closed : ℕ → List Slot → List Slot
hole_closed i [] = []
hole_closed zero (Hole ∷ ss) = Closed ∷ ss
hole_closed zero (s ∷ ss) = s ∷ ss
hole_closed (suc i) (s ∷ ss) = s ∷ hole_closed i ss
