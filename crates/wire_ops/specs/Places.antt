-- The places of links in an array: which are noted; and the places of slots between closed ones.
use Rattle.std.specs.Prelude.{ℕ, zero, suc, ◌≡◌, ◌+◌, ◌^◌, ◌≤◌, Bool, false, not, ◌&&◌, ◌||◌, ◌==◌, nat_le, nat_lt, if◌then◌else◌, List, [], ◌∷◌, length, Option, Some, None, IsTrue}
use Rattle.std.specs.List.{list_any}
use Rattle.schema_model.specs.declared.value.Value.{Value}
use Rattle.wire_model.specs.Effect.{has_link}

-- a place of a link to a row is among the pairs of a row's number and a place
abbrev pub is_noted : List (ℕ × ℕ) → ℕ → ℕ → Bool
is_noted pairs who place = list_any (λ (p : ℕ × ℕ). (p.0 == who) && (p.1 == place)) pairs

-- the least place of a link to a row, or none where no place is noted
abbrev pub IsFirstPlace : List (ℕ × ℕ) → ℕ → Option ℕ → Type 0
IsFirstPlace pairs who None = (place : ℕ) → is_noted pairs who place ≡ false
IsFirstPlace pairs who (Some first) = IsTrue (is_noted pairs who first) × ((place : ℕ) → IsTrue (is_noted pairs who place) → first ≤ place)

-- besides what was noted, a slot's link is noted at a place
abbrev pub NotesAlso : Option Value → ℕ → List (ℕ × ℕ) → List (ℕ × ℕ) → Type 0
NotesAlso slot at old new = (who place : ℕ) → is_noted new who place ≡ (((place == at) && has_link who slot) || is_noted old who place)

-- a slot's link is noted at a place no more, and all else is as before
abbrev pub NotesNoMore : Option Value → ℕ → List (ℕ × ℕ) → List (ℕ × ℕ) → Type 0
NotesNoMore slot at old new = (who place : ℕ) → is_noted new who place ≡ (not ((place == at) && has_link who slot) && is_noted old who place)

-- what is noted at a place is a slot's link
abbrev pub NotesAt : Option Value → ℕ → List (ℕ × ℕ) → Type 0
NotesAt slot at pairs = (who : ℕ) → is_noted pairs who at ≡ has_link who slot

-- at a place a slot's link is noted, and no other one; all else is as before
abbrev pub NotesInstead : Option Value → ℕ → List (ℕ × ℕ) → List (ℕ × ℕ) → Type 0
NotesInstead slot at old new = (who place : ℕ) → is_noted new who place ≡ (if place == at then has_link who slot else is_noted old who place)

-- the first place and so many above it stay within 64 bits, also once as many come before it
abbrev pub IsWide : {X : Type 0} → ℕ → List X → Type 0
IsWide first xs = (first ≤ 2 ^ 63) × (2 ^ 63 ≤ first + length xs)

-- the number of closed places, which rise, that are passed over on the way to a slot whose place would be this one without them
abbrev pub count_passed : List ℕ → ℕ → ℕ
count_passed [] place = zero
count_passed (c ∷ cs) place = if nat_le c place then suc (count_passed cs (suc place)) else zero

-- the number of places, which rise, below a place
abbrev pub count_below : List ℕ → ℕ → ℕ
count_below [] place = zero
count_below (c ∷ cs) place = if nat_lt c place then suc (count_below cs place) else zero
