-- Holes of an array that are closed: what stands where, which places are closed, and the values that are left.
use Rattle.std.proofs.Common.{◌≡◌, ℕ, zero, suc, ◌+◌, ◌-◌, ◌<◌, ◌≤◌, true, false, not, cond, ◌&&◌, ◌==◌, List, [], ◌∷◌, ◌++◌, length, map, set, get_or, Some, None, refl, sym, ap, ◌∙◌, arith}
use Rattle.std.specs.List.{insert}
use Rattle.std.proofs.lemmas.Bool.Decides.{nat_tests}
use Rattle.std.specs.Prelude.{nat_lt}
use Rattle.schema_model.specs.declared.value.Value.{Value}
use Rattle.wire_model.specs.Effect.{closed_slots}
use Rattle.wire_ops.specs.declared.slots.Slot.{Slot}
use Rattle.wire_ops.specs.declared.slots.Slot.TheVariants.{Held, Hole, Closed}
use Rattle.wire_ops.specs.Places.{count_below}
use Rattle.wire_ops.specs.Slots.{shown, held, is_hole, is_link, stands_at, closed_places, IsKept, hole_closed}
use Rattle.wire_ops.proofs.SlotLaws.{stands_here, nowhere_later, count_none}

-- ---- the values that are left once holes close

pub closed_value : (slots : List Slot) (v : Value) → closed_slots (shown (slots ++ Held v ∷ [])) ≡ closed_slots (shown slots) ++ v ∷ []
closed_value [] v = refl
closed_value (Held w ∷ ss) v = ap (λ vs. w ∷ vs) (closed_value ss v)
closed_value (Hole ∷ ss) v = closed_value ss v
closed_value (Closed ∷ ss) v = closed_value ss v

pub closed_other : (slots : List Slot) (s : Slot) → held s ≡ None → closed_slots (shown (slots ++ s ∷ [])) ≡ closed_slots (shown slots)
closed_other [] (Held v) h = cc
closed_other [] Hole h = refl
closed_other [] Closed h = refl
closed_other (Held w ∷ ss) s h = ap (λ vs. w ∷ vs) (closed_other ss s h)
closed_other (Hole ∷ ss) s h = closed_other ss s h
closed_other (Closed ∷ ss) s h = closed_other ss s h

-- ---- a hole that is closed

pub same_values : (i : ℕ) (slots : List Slot) → closed_slots (shown (hole_closed i slots)) ≡ closed_slots (shown slots)
same_values i [] = refl
same_values zero (Held v ∷ ss) = refl
same_values zero (Hole ∷ ss) = refl
same_values zero (Closed ∷ ss) = refl
same_values (suc i) (Held v ∷ ss) = ap (λ vs. v ∷ vs) (same_values i ss)
same_values (suc i) (Hole ∷ ss) = same_values i ss
same_values (suc i) (Closed ∷ ss) = same_values i ss

same_length : (i : ℕ) (slots : List Slot) → length (hole_closed i slots) ≡ length slots
same_length i [] = refl
same_length zero (Held v ∷ ss) = refl
same_length zero (Hole ∷ ss) = refl
same_length zero (Closed ∷ ss) = refl
same_length (suc i) (s ∷ ss) = ap suc (same_length i ss)

same_links : (who place first i : ℕ) (slots : List Slot) → stands_at (is_link who) first (hole_closed i slots) place ≡ stands_at (is_link who) first slots place
same_links who place first i [] = refl
same_links who place first zero (Held v ∷ ss) = refl
same_links who place first zero (Hole ∷ ss) = refl
same_links who place first zero (Closed ∷ ss) = refl
same_links who place first (suc i) (s ∷ ss) = ap (cond (place == first) (is_link who s)) (same_links who place (suc first) i ss)

hole_gone : (place first i : ℕ) (slots : List Slot) → stands_at is_hole first (hole_closed i slots) place ≡ (not (place == first + i) && stands_at is_hole first slots place)
hole_gone place first i [] = grind arith
hole_gone place first zero (Held v ∷ ss) = grind (arith, nat_tests)
hole_gone place first zero (Hole ∷ ss) = grind (arith, nat_tests)
hole_gone place first zero (Closed ∷ ss) = grind (arith, nat_tests)
hole_gone place first (suc i) (s ∷ ss) = grind (arith, nat_tests, hole_gone place (suc first) i ss)

pub set_is_closed : (slots : List Slot) (i : ℕ) (s : Slot) → i < length slots → is_hole (get_or slots i s) ≡ true → set slots i Closed ≡ hole_closed i slots
set_is_closed [] i s l h = refl
set_is_closed (Held v ∷ ss) zero s l h = cc
set_is_closed (Hole ∷ ss) zero s l h = refl
set_is_closed (Closed ∷ ss) zero s l h = cc
set_is_closed (t ∷ ss) (suc i) s l h = ap (λ l. t ∷ l) (set_is_closed ss i s (omega (arith, l)) h)

pub not_closed : (slots : List Slot) (i : ℕ) (s : Slot) → is_hole (get_or slots i s) ≡ false → hole_closed i slots ≡ slots
not_closed [] i s h = refl
not_closed (Held v ∷ ss) zero s h = refl
not_closed (Hole ∷ ss) zero s h = cc
not_closed (Closed ∷ ss) zero s h = refl
not_closed (t ∷ ss) (suc i) s h = ap (λ l. t ∷ l) (not_closed ss i s h)

-- the place of a closed hole goes between those below and those above
pub closed_between : (first : ℕ) (slots : List Slot) (i : ℕ) (s : Slot) → i < length slots → is_hole (get_or slots i s) ≡ true →
    closed_places first (hole_closed i slots) ≡ insert (closed_places first slots) (count_below (closed_places first slots) (first + i)) (first + i)
closed_between first [] i s l h = grind (arith, l)
closed_between first (Held v ∷ ss) zero s l h = cc
closed_between first (Hole ∷ ss) zero s l h =
    let e : first + 0 ≡ first = omega arith in
    rw (e, count_none first (suc first) ss (omega arith)) refl
closed_between first (Closed ∷ ss) zero s l h = cc
closed_between first (Held v ∷ ss) (suc i) s l h =
    let e : first + suc i ≡ suc first + i = omega arith in
    rw e (closed_between (suc first) ss i s (omega (arith, l)) h)
closed_between first (Hole ∷ ss) (suc i) s l h =
    let e : first + suc i ≡ suc first + i = omega arith in
    rw e (closed_between (suc first) ss i s (omega (arith, l)) h)
closed_between first (Closed ∷ ss) (suc i) s l h =
    let e : first + suc i ≡ suc first + i = omega arith in
    let below : nat_lt first (suc first + i) ≡ true = grind (arith, nat_tests) in
    rw (e, below) (ap (λ l. first ∷ l) (closed_between (suc first) ss i s (omega (arith, l)) h))

module _ (slots : List Slot) (first : ℕ) (pairs : List (ℕ × ℕ)) (closed : List ℕ) where
  pub place_within : (h : ℕ) (hs : List ℕ) → IsKept slots first pairs closed (h ∷ hs) → (first ≤ h) × (h < first + length slots)
  place_within h hs k = k.within h (grind (arith, nat_tests))

  -- where a hole is closed, one place fewer has to be known
  pub kept_closed : (h : ℕ) (hs : List ℕ) → IsKept slots first pairs closed (h ∷ hs) →
      IsKept (hole_closed (h - first) slots) first pairs (closed_places first (hole_closed (h - first) slots)) hs
  kept_closed h hs k =
      let i = h - first in
      let same = same_length i slots in
      let here : first ≤ h = (place_within h hs k).0 in
      record {
        wide = (k.wide.0, rw same k.wide.1);
        links = λ who place. k.links who place ∙ sym (same_links who place first i slots);
        places = refl;
        known = λ place t. grind (arith, nat_tests, here, t, hole_gone place first i slots, k.known place);
        within = λ place t. rw same (k.within place (grind (arith, nat_tests, t)));
      }

all_held : (first : ℕ) (slots : List Slot) → ((place : ℕ) → stands_at is_hole first slots place ≡ false) → map Some (closed_slots (shown slots)) ≡ shown slots
all_held first [] h = refl
all_held first (Held v ∷ ss) h = ap (λ l. Some v ∷ l) (all_held (suc first) ss (λ q. nowhere_later is_hole first (Held v) ss q (h q)))
all_held first (Hole ∷ ss) h = let here : true ≡ false = sym (stands_here is_hole first Hole ss) ∙ h first in cc
all_held first (Closed ∷ ss) h = all_held (suc first) ss (λ q. nowhere_later is_hole first Closed ss q (h q))

-- where no place is left, all slots are values
pub no_holes : (slots : List Slot) (first : ℕ) (pairs : List (ℕ × ℕ)) (closed left : List ℕ) → IsKept slots first pairs closed left → length left ≡ 0 → map Some (closed_slots (shown slots)) ≡ shown slots
no_holes slots first pairs closed [] k none = all_held first slots (λ place. grind (arith, k.known place))
no_holes slots first pairs closed (h ∷ hs) k none = cc
