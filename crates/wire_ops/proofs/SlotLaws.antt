-- The slots of an array: where values and holes stand, also once one is changed; the places between closed holes; and what is done at the position of a link.
use Rattle.std.proofs.Common.{◌≡◌, ℕ, zero, suc, ◌+◌, ◌-◌, ◌<◌, ◌≤◌, Bool, true, false, cond, ◌==◌, List, [], ◌∷◌, ◌++◌, length, set, get_or, Option, Some, None, is_some, refl, sym, ap, ◌∙◌, arith}
use Rattle.std.specs.List.{list_any, position, position_or_len}
use Rattle.std.proofs.lemmas.Bool.Decides.{nat_tests}
use Rattle.lists.specs.Rising.{RisesFrom}
use Rattle.schema_model.specs.declared.value.Value.{Value}
use Rattle.schema_model.specs.declared.value.Value.TheVariants as value
use Rattle.wire_model.specs.Effect.{has_link, push_link, drop_link, is_present_at}
use Rattle.wire_ops.specs.declared.slots.Slot.{Slot}
use Rattle.wire_ops.specs.declared.slots.Slot.TheVariants.{Held, Hole, Closed}
use Rattle.wire_ops.specs.Places.{IsFirstPlace, count_passed, count_below}
use Rattle.wire_ops.specs.Slots.{shown, held, is_link, stands_at, NotesLinks, closed_places}

-- ---- what stands at a place

module _ (p : Slot → Bool) (place : ℕ) where
  pub stands_below : (first : ℕ) (slots : List Slot) → place < first → stands_at p first slots place ≡ false
  stands_below first [] l = refl
  stands_below first (s ∷ ss) l = grind (arith, nat_tests, stands_below (suc first) ss (omega (arith, l)))

  stands_within : (first : ℕ) (slots : List Slot) → stands_at p first slots place ≡ true → (first ≤ place) × (place - first < length slots)
  stands_within first [] h = grind (arith, h)
  stands_within first (s ∷ ss) h = grind (arith, nat_tests, h, stands_within (suc first) ss)

  pub stands_above : (first : ℕ) (slots : List Slot) → first + length slots ≤ place → stands_at p first slots place ≡ false
  stands_above first [] l = refl
  stands_above first (s ∷ ss) l = grind (arith, nat_tests, stands_above (suc first) ss (omega (arith, l)))

pub stands_there : (p : Slot → Bool) (first : ℕ) (slots : List Slot) (i : ℕ) (s : Slot) → i < length slots → stands_at p first slots (first + i) ≡ p (get_or slots i s)
stands_there p first [] i s l = grind (arith, l)
stands_there p first (t ∷ ss) zero s l = grind (arith, nat_tests)
stands_there p first (t ∷ ss) (suc i) s l = grind (arith, nat_tests, stands_there p (suc first) ss i s (omega (arith, l)))

-- at a place stands this, and all else stands where it stood
abbrev pub PutsAt : ℕ → Slot → ℕ → List Slot → ℕ → List Slot → Type 0
PutsAt at s first old start new = (p : Slot → Bool) (place : ℕ) → stands_at p start new place ≡ cond (place == at) (p s) (stands_at p first old place)

pub puts_set : (first : ℕ) (slots : List Slot) (i : ℕ) (s : Slot) → i < length slots → PutsAt (first + i) s first slots first (set slots i s)
puts_set first [] i s l p place = grind (arith, l)
puts_set first (t ∷ ss) zero s l p place = grind (arith, nat_tests)
puts_set first (t ∷ ss) (suc i) s l p place = grind (arith, nat_tests, puts_set (suc first) ss i s (omega (arith, l)) p place)

pub puts_behind : (first : ℕ) (slots : List Slot) (s : Slot) → PutsAt (first + length slots) s first slots first (slots ++ s ∷ [])
puts_behind first [] s p place = grind (arith, nat_tests)
puts_behind first (t ∷ ss) s p place = grind (arith, nat_tests, puts_behind (suc first) ss s p place)

-- ---- the slots between closed holes

-- the index of the slot at a position
abbrev pub index_at : List Slot → ℕ → ℕ
index_at [] at = at
index_at (Closed ∷ ss) at = suc (index_at ss at)
index_at (s ∷ ss) zero = zero
index_at (s ∷ ss) (suc at) = suc (index_at ss at)

passed_none : (place first : ℕ) (slots : List Slot) → place < first → count_passed (closed_places first slots) place ≡ zero
passed_none place first [] l = refl
passed_none place first (Held v ∷ ss) l = passed_none place (suc first) ss (omega (arith, l))
passed_none place first (Hole ∷ ss) l = passed_none place (suc first) ss (omega (arith, l))
passed_none place first (Closed ∷ ss) l = grind (arith, nat_tests)

-- where closed holes are passed over, the slot is reached
pub passed_index : (first : ℕ) (slots : List Slot) (at : ℕ) → at + count_passed (closed_places first slots) (first + at) ≡ index_at slots at
passed_index first [] at = omega arith
passed_index first (Held v ∷ ss) zero = grind (arith, nat_tests, passed_none first (suc first) ss (omega arith))
passed_index first (Held v ∷ ss) (suc at) = grind (arith, nat_tests, passed_index (suc first) ss at)
passed_index first (Hole ∷ ss) zero = grind (arith, nat_tests, passed_none first (suc first) ss (omega arith))
passed_index first (Hole ∷ ss) (suc at) = grind (arith, nat_tests, passed_index (suc first) ss at)
passed_index first (Closed ∷ ss) at = grind (arith, nat_tests, passed_index (suc first) ss at)

pub closed_rise : (low first : ℕ) (slots : List Slot) → low ≤ first → RisesFrom (λ p. p) low (closed_places first slots)
closed_rise low first [] l = tt
closed_rise low first (Held v ∷ ss) l = closed_rise low (suc first) ss (omega (arith, l))
closed_rise low first (Hole ∷ ss) l = closed_rise low (suc first) ss (omega (arith, l))
closed_rise low first (Closed ∷ ss) l = (l, closed_rise (suc first) (suc first) ss (omega arith))

pub length_shown : (first : ℕ) (slots : List Slot) → length (shown slots) + length (closed_places first slots) ≡ length slots
length_shown first [] = refl
length_shown first (Held v ∷ ss) = omega (arith, length_shown (suc first) ss)
length_shown first (Hole ∷ ss) = omega (arith, length_shown (suc first) ss)
length_shown first (Closed ∷ ss) = omega (arith, length_shown (suc first) ss)

pub index_within : (slots : List Slot) (at : ℕ) → at < length (shown slots) → index_at slots at < length slots
index_within [] at l = l
index_within (Held v ∷ ss) zero l = omega arith
index_within (Held v ∷ ss) (suc at) l = omega (arith, index_within ss at (omega (arith, l)))
index_within (Hole ∷ ss) zero l = omega arith
index_within (Hole ∷ ss) (suc at) l = omega (arith, index_within ss at (omega (arith, l)))
index_within (Closed ∷ ss) at l = omega (arith, index_within ss at l)

-- a slot is a value or a hole
module _ (s : Slot) (x : Option Value) where
  pub set_shown : ((ss : List Slot) → shown (s ∷ ss) ≡ x ∷ shown ss) → (slots : List Slot) (at : ℕ) → shown (set slots (index_at slots at) s) ≡ set (shown slots) at x
  set_shown e [] at = refl
  set_shown e (Held v ∷ ss) zero = e ss
  set_shown e (Held v ∷ ss) (suc at) = ap (λ l. Some v ∷ l) (set_shown e ss at)
  set_shown e (Hole ∷ ss) zero = e ss
  set_shown e (Hole ∷ ss) (suc at) = ap (λ l. None ∷ l) (set_shown e ss at)
  set_shown e (Closed ∷ ss) at = set_shown e ss at

pub set_closed : (s : Slot) → ((first : ℕ) (ss : List Slot) → closed_places first (s ∷ ss) ≡ closed_places (suc first) ss) → (first : ℕ) (slots : List Slot) (at : ℕ) → closed_places first (set slots (index_at slots at) s) ≡ closed_places first slots
set_closed s e first [] at = refl
set_closed s e first (Held v ∷ ss) zero = e first ss
set_closed s e first (Held v ∷ ss) (suc at) = set_closed s e (suc first) ss at
set_closed s e first (Hole ∷ ss) zero = e first ss
set_closed s e first (Hole ∷ ss) (suc at) = set_closed s e (suc first) ss at
set_closed s e first (Closed ∷ ss) at = ap (λ cs. first ∷ cs) (set_closed s e (suc first) ss at)

pub get_shown : (slots : List Slot) (at : ℕ) (s : Slot) → held (get_or slots (index_at slots at) s) ≡ get_or (shown slots) at (held s)
get_shown [] at s = refl
get_shown (Held v ∷ ss) zero s = refl
get_shown (Held v ∷ ss) (suc at) s = get_shown ss at s
get_shown (Hole ∷ ss) zero s = refl
get_shown (Hole ∷ ss) (suc at) s = get_shown ss at s
get_shown (Closed ∷ ss) at s = get_shown ss at s

pub first_present : (slots : List Slot) (s : Slot) → 0 < length (shown slots) → is_present_at (shown slots) 0 ≡ is_some (held (get_or slots (index_at slots 0) s))
first_present [] s l = absurd (omega (arith, l))
first_present (Held v ∷ ss) s l = refl
first_present (Hole ∷ ss) s l = refl
first_present (Closed ∷ ss) s l = first_present ss s l

pub shown_behind : (slots : List Slot) (v : Value) → shown (slots ++ Held v ∷ []) ≡ shown slots ++ Some v ∷ []
shown_behind [] v = refl
shown_behind (Held w ∷ ss) v = ap (λ l. Some w ∷ l) (shown_behind ss v)
shown_behind (Hole ∷ ss) v = ap (λ l. None ∷ l) (shown_behind ss v)
shown_behind (Closed ∷ ss) v = shown_behind ss v

pub closed_behind : (first : ℕ) (slots : List Slot) (v : Value) → closed_places first (slots ++ Held v ∷ []) ≡ closed_places first slots
closed_behind first [] v = refl
closed_behind first (Held w ∷ ss) v = closed_behind (suc first) ss v
closed_behind first (Hole ∷ ss) v = closed_behind (suc first) ss v
closed_behind first (Closed ∷ ss) v = ap (λ l. first ∷ l) (closed_behind (suc first) ss v)

-- ---- a link that stands somewhere, and one that stands nowhere

module _ (p : Slot → Bool) where
  pub stands_here : (first : ℕ) (s : Slot) (ss : List Slot) → stands_at p first (s ∷ ss) first ≡ p s
  stands_here first s ss = grind (arith, nat_tests)

  stands_later : (first : ℕ) (s : Slot) (ss : List Slot) (place : ℕ) → stands_at p (suc first) ss place ≡ true → stands_at p first (s ∷ ss) place ≡ true
  stands_later first s ss place h = grind (arith, nat_tests, h, stands_within p place (suc first) ss h)

  pub nowhere_later : (first : ℕ) (s : Slot) (ss : List Slot) (place : ℕ) → stands_at p first (s ∷ ss) place ≡ false → stands_at p (suc first) ss place ≡ false
  nowhere_later first s ss place h = grind (arith, nat_tests, h, stands_below p place (suc first) ss)

  -- it stands at a place, and at none below
  abbrev StandsFirst : ℕ → List Slot → ℕ → Type 0
  StandsFirst first slots place = (stands_at p first slots place ≡ true) × ((q : ℕ) → stands_at p first slots q ≡ true → place ≤ q)

  -- a first place other than that of the first slot is the first place of the other slots
  first_later : (first : ℕ) (s : Slot) (ss : List Slot) (place : ℕ) → StandsFirst first (s ∷ ss) place → p s ≡ false →
      (suc first ≤ place) × StandsFirst (suc first) ss place
  first_later first s ss place h e =
      let there : stands_at p (suc first) ss place ≡ true = grind (arith, nat_tests, h.0, e) in
      ((stands_within p place (suc first) ss there).0, (there, λ q t. h.1 q (stands_later first s ss q t)))

pub count_none : (place first : ℕ) (slots : List Slot) → place ≤ first → count_below (closed_places first slots) place ≡ zero
count_none place first [] l = refl
count_none place first (Held v ∷ ss) l = count_none place (suc first) ss (omega (arith, l))
count_none place first (Hole ∷ ss) l = count_none place (suc first) ss (omega (arith, l))
count_none place first (Closed ∷ ss) l = grind (arith, nat_tests)

module _ (who : ℕ) where
  -- the position of a link is that of its first place, less the closed places below
  position_first : (first : ℕ) (slots : List Slot) (place : ℕ) → StandsFirst (is_link who) first slots place →
      position_or_len (has_link who) (shown slots) + count_below (closed_places first slots) place + first ≡ place
  position_first first [] place h = grind (arith, h.0)
  position_first first (Held v ∷ ss) place h =
      let go : (b : Bool) → has_link who (Some v) ≡ b → position_or_len (has_link who) (Some v ∷ shown ss) + count_below (closed_places (suc first) ss) place + first ≡ place = elim [
        | true ↦ λ e. rw e (let least : place ≤ first = h.1 first (stands_here (is_link who) first (Held v) ss ∙ e) in
            omega (arith, least, (stands_within (is_link who) place first (Held v ∷ ss) h.0).0, count_none place (suc first) ss (omega (arith, least))))
        | false ↦ λ e. let later = first_later (is_link who) first (Held v) ss place h e in rw e (omega (arith, later.0, position_first (suc first) ss place later.1))
      ] in
      go (has_link who (Some v)) refl
  position_first first (Hole ∷ ss) place h = let later = first_later (is_link who) first Hole ss place h refl in omega (arith, later.0, position_first (suc first) ss place later.1)
  position_first first (Closed ∷ ss) place h = let later = first_later (is_link who) first Closed ss place h refl in grind (arith, nat_tests, later.0, position_first (suc first) ss place later.1)

  position_within : (first : ℕ) (slots : List Slot) (place : ℕ) → stands_at (is_link who) first slots place ≡ true → position_or_len (has_link who) (shown slots) < length (shown slots)
  position_within first [] place h = grind (arith, h)
  position_within first (Held v ∷ ss) place h = grind (arith, nat_tests, h, position_within (suc first) ss place)
  position_within first (Hole ∷ ss) place h = grind (arith, nat_tests, h, position_within (suc first) ss place)
  position_within first (Closed ∷ ss) place h = grind (arith, nat_tests, h, position_within (suc first) ss place)

  position_nowhere : (first : ℕ) (slots : List Slot) → ((place : ℕ) → stands_at (is_link who) first slots place ≡ false) → position_or_len (has_link who) (shown slots) ≡ length (shown slots)
  position_nowhere first [] h = refl
  position_nowhere first (Held v ∷ ss) h = grind (arith, h first, stands_here (is_link who) first (Held v) ss, position_nowhere (suc first) ss (λ q. nowhere_later (is_link who) first (Held v) ss q (h q)))
  position_nowhere first (Hole ∷ ss) h = grind (arith, position_nowhere (suc first) ss (λ q. nowhere_later (is_link who) first Hole ss q (h q)))
  position_nowhere first (Closed ∷ ss) h = position_nowhere (suc first) ss (λ q. nowhere_later (is_link who) first Closed ss q (h q))

module _ (pairs : List (ℕ × ℕ)) (first : ℕ) (slots : List Slot) (notes : NotesLinks pairs first slots) (who : ℕ) where
  -- the first place that is noted is that of a slot
  pub first_within : (place : ℕ) → IsFirstPlace pairs who (Some place) → first ≤ place
  first_within place f = (stands_within (is_link who) place first slots (sym (notes who place) ∙ f.0)).0

  pub place_position : (place : ℕ) → IsFirstPlace pairs who (Some place) → position_or_len (has_link who) (shown slots) + count_below (closed_places first slots) place + first ≡ place
  place_position place f = position_first who first slots place (sym (notes who place) ∙ f.0, λ q t. f.1 q (notes who q ∙ t))

  -- and that slot is the first with the link
  pub position_some : (place : ℕ) → IsFirstPlace pairs who (Some place) → position (has_link who) (shown slots) ≡ Some (place - first - count_below (closed_places first slots) place)
  position_some place f = grind (arith, nat_tests, place_position place f, position_within who first slots place (sym (notes who place) ∙ f.0))

  -- where no place is noted, no slot has the link
  pub position_none : IsFirstPlace pairs who None → position (has_link who) (shown slots) ≡ None
  position_none f =
      let at : position_or_len (has_link who) (shown slots) ≡ length (shown slots) = position_nowhere who first slots (λ q. sym (notes who q) ∙ f q) in
      grind (arith, nat_tests, at)

-- ---- what is done at the position of a link

drop_at : (slots : List (Option Value)) (who : ℕ) → drop_link who slots ≡ set slots (position_or_len (has_link who) slots) None
drop_at [] who = refl
drop_at (s ∷ ss) who = grind (arith, drop_at ss who)

drop_absent : (slots : List (Option Value)) (who : ℕ) → list_any (has_link who) slots ≡ false → drop_link who slots ≡ slots
drop_absent [] who h = refl
drop_absent (s ∷ ss) who h = grind (arith, h, drop_absent ss who)

any_at : (slots : List (Option Value)) (who : ℕ) → is_some (position (has_link who) slots) ≡ list_any (has_link who) slots
any_at [] who = refl
any_at (s ∷ ss) who = grind (arith, nat_tests, any_at ss who)

-- the slot at the position becomes a hole
pub drop_some : (slots : List (Option Value)) (who at : ℕ) → position (has_link who) slots ≡ Some at → drop_link who slots ≡ set slots at None
drop_some slots who at e = grind (arith, nat_tests, e, drop_at slots who)

-- nothing is dropped
pub drop_none : (slots : List (Option Value)) (who : ℕ) → position (has_link who) slots ≡ None → drop_link who slots ≡ slots
drop_none slots who e = drop_absent slots who (sym (any_at slots who) ∙ ap is_some e)

module _ (slots : List (Option Value)) (v : Value) (n : ℕ) (is : v ≡ value.Link n) where
  -- a link that isn't there goes last
  pub push_new : is_some (position (has_link n) slots) ≡ false → push_link v slots ≡ slots ++ Some v ∷ []
  push_new h = rw (is, sym (any_at slots n) ∙ h) refl

  -- a link that is there isn't put again
  pub push_known : is_some (position (has_link n) slots) ≡ true → push_link v slots ≡ slots
  push_known h = rw (is, sym (any_at slots n) ∙ h) refl
