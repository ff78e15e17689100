-- The operations on an array by position find their positions, where the array is at least as long as the old one.
use Rattle.std.proofs.Common.{◌≡◌, ◌≤◌, ◌<◌, ◌+◌, ℕ, zero, suc, Bool, true, false, cond, ◌||◌, ◌&&◌, ◌==◌, List, [], ◌∷◌, length, max, nat_le, set, slice_get, Option, Some, None, is_some, refl, ap, ◌∙◌, arith}
use Rattle.std.specs.List.{fold, flat_map, range_with_len}
use Rattle.std.proofs.lemmas.Bool.{and_from}
use Rattle.std.proofs.lemmas.Bool.Decides.{nat_tests}
use Rattle.std.proofs.lemmas.List.{length-set, length-append}
use Rattle.std.proofs.lemmas.Option.{slice_get_within, slice_get_cases}
use Rattle.schema_model.specs.Classes.{Schema}
use Rattle.schema_model.specs.declared.value.Value.{Value}
use Rattle.schema_model.specs.declared.place.Home.{Home}
use Rattle.state_model.specs.declared.row.RowEntry.{RowEntry}
use Rattle.state_model.specs.Values.{same_value, is_link}
use Rattle.state_model.specs.declared.place.Expected.{Expected}
use Rattle.state_model.specs.Places.{item_expects}
use Rattle.wire_model.specs.declared.op.OpKey.TheVariants.{Item}
use Rattle.wire_model.specs.Edits.{Edit, Carried, carried_value}
use Rattle.wire_model.specs.Effect.{Slots, effect, put_slot, add_slot, is_present_at}
use Rattle.wire_model.specs.Patch.{carried, changed_place, place_edit, slot_edits}
use Rattle.byte_laws.proofs.Found.{all_found, all_found-append}

-- ---- how long an array is after one operation

-- the slots behind an operation are at least so many, and no fewer than before
abbrev Grows : ℕ → List (Option Value) → List (Option Value) → Type 0
Grows p slots next = (p ≤ length next) × (length slots ≤ length next)

-- where a value is put below the length or at it, the slots reach to the next position
put_grows : (p : ℕ) (v : Value) (slots : List (Option Value)) → p ≤ length slots → Grows (suc p) slots (put_slot p v slots)
put_grows p v slots h = grind (arith, nat_tests, length-set slots p (Some v), length-append slots (Some v ∷ []))

-- and so they do where one is added there
add_grows : (p : ℕ) (v : Value) (slots : List (Option Value)) → p ≤ length slots → Grows (suc p) slots (add_slot p v slots)
add_grows p v slots h = by ((p == 0) && is_present_at slots 0)
  where
    by : (b : Bool) → Grows (suc p) slots (cond b (Some v ∷ slots) (put_slot p v slots))
    by true = (omega arith, omega arith)
    by false = put_grows p v slots h

-- ---- the operations at one position

module _ (home : Home) (rows : List RowEntry) (expected : Option Expected) where
  -- operations find their position, and the slots reach to the next one
  pub record Reaches (p : ℕ) (slots : List (Option Value)) (edits : List Edit) : Type 0 where
    pub found : all_found edits (Slots home slots) ≡ true
    pub next : List (Option Value)
    pub leads : fold (λ b e. effect e b) (Slots home slots) edits ≡ Slots home next
    pub grows : Grows (suc p) slots next

  -- a position that is reached is found
  reached_found : (p : ℕ) (slots : List (Option Value)) → p ≤ length slots → nat_le p (length slots) ≡ true
  reached_found p slots h = grind (arith, nat_tests)

  -- the operation on a position that has another value
  change_reaches : (p : ℕ) (slots : List (Option Value)) (v : Value) (c : Carried) → p ≤ length slots → (link : Bool) → is_link v ≡ link → Reaches p slots (changed_place (Item p) (Item p) v c ∷ [])
  change_reaches p slots v c h true t = rw t (record { found = and_from _ _ (reached_found p slots h) refl; next = put_slot p (carried_value c) slots; leads = refl; grows = put_grows p (carried_value c) slots h })
  change_reaches p slots v c h false t = rw t (record { found = and_from _ _ (reached_found p slots h) refl; next = put_slot p (carried_value c) slots; leads = refl; grows = put_grows p (carried_value c) slots h })

  -- the operations at a position, by what stands there in old and in new
  place_reaches : (p : ℕ) (slots : List (Option Value)) (o n : Option Value) → p ≤ length slots → (is_some o ≡ true → p < length slots) → (is_some o || is_some n) ≡ true
      → Reaches p slots (place_edit (Item p) (Item p) rows expected o n)
  place_reaches p slots None None h within one = absurd cc
  place_reaches p slots None (Some v) h within one =
      let c = carried rows expected v in record { found = and_from _ _ (reached_found p slots h) refl; next = add_slot p (carried_value c) slots; leads = refl; grows = add_grows p (carried_value c) slots h }
  place_reaches p slots (Some u) None h within one =
      record { found = refl; next = set slots p None; leads = refl; grows = (omega (arith, within refl, length-set slots p None), omega (arith, length-set slots p None)) }
  place_reaches p slots (Some u) (Some v) h within one = by (same_value u v)
    where
      by : (same : Bool) → Reaches p slots (cond same [] (changed_place (Item p) (Item p) v (carried rows expected v) ∷ []))
      by true = record { found = refl; next = slots; leads = refl; grows = (omega (arith, within refl), omega arith) }
      by false = change_reaches p slots v (carried rows expected v) h (is_link v) refl

  -- ---- all positions

  module _ (old new : List Value) where
    -- the operations at a position
    abbrev edits_at : ℕ → List Edit
    edits_at p = place_edit (Item p) (Item p) rows expected (slice_get old p) (slice_get new p)

    -- below the longer of the two lengths, one of the two has a value
    one_there : (p : ℕ) → p < max (length old) (length new) → (is_some (slice_get old p) || is_some (slice_get new p)) ≡ true
    one_there p h = grind (arith, nat_tests, slice_get_cases old p, slice_get_cases new p)

    -- where old has a value, the slots are longer than the position
    old_within : (p : ℕ) (o : Option Value) → slice_get old p ≡ o → is_some o ≡ true → p < length old
    old_within p None e h = absurd cc
    old_within p (Some u) e h = slice_get_within old p u e

    -- the operations at so many positions, from one on
    positions_found : (n p : ℕ) (slots : List (Option Value)) → p ≤ length slots → length old ≤ length slots → p + n ≡ max (length old) (length new)
        → all_found (flat_map edits_at (range_with_len p n)) (Slots home slots) ≡ true
    positions_found zero p slots h long e = refl
    positions_found (suc n) p slots h long e =
        let r = place_reaches p slots (slice_get old p) (slice_get new p) h (λ t. omega (arith, old_within p (slice_get old p) refl t)) (one_there p (omega arith)) in
        let rest : all_found (flat_map edits_at (range_with_len (p + 1) n)) (Slots home r.next) ≡ true = positions_found n (p + 1) r.next (omega (arith, r.grows.0)) (omega (arith, r.grows.1)) (omega arith) in
        all_found-append (edits_at p) (flat_map edits_at (range_with_len (p + 1) n)) (Slots home slots) r.found (ap (all_found (flat_map edits_at (range_with_len (p + 1) n))) r.leads ∙ rest)

-- the operations by position find their positions in slots that are at least as many as the old items
pub slots_found : (schema : Schema) (rows : List RowEntry) (home declared : Home) (old new : List Value) (slots : List (Option Value)) → length old ≤ length slots
    → all_found (slot_edits schema rows declared old new) (Slots home slots) ≡ true
slots_found schema rows home declared old new slots long = positions_found home rows (item_expects schema declared) old new (max (length old) (length new)) 0 slots (omega arith) long (omega arith)
