-- What is kept of an array once a slot is changed, or comes first or last.
use Rattle.std.proofs.Common.{◌≡◌, ℕ, suc, ◌+◌, ◌-◌, ◌<◌, ◌≤◌, ◌^◌, true, false, cond, ◌||◌, ◌==◌, List, [], ◌∷◌, ◌++◌, length, set, get_or, Option, Some, None, refl, sym, ap, subst, ◌∙◌, arith, length-append, length-set}
use Rattle.std.proofs.lemmas.Bool.Decides.{nat_tests}
use Rattle.lists.specs.Rising.{RisesFrom}
use Rattle.schema_model.specs.declared.value.Value.{Value}
use Rattle.wire_model.specs.Effect.{has_link}
use Rattle.wire_ops.specs.declared.slots.Slot.{Slot}
use Rattle.wire_ops.specs.declared.slots.Slots.TheInside.{Inside}
use Rattle.wire_ops.specs.declared.slots.Slot.TheVariants.{Held, Hole}
use Rattle.wire_ops.specs.Places.{NotesAlso, NotesNoMore, NotesAt, NotesInstead, count_passed}
use Rattle.wire_ops.specs.Slots.{shown, held, is_hole, is_link, stands_at, NotesLinks, closed_places, is_among, IsKept}
use Rattle.wire_ops.proofs.SlotLaws.{PutsAt, puts_set, puts_behind, stands_below, stands_above, stands_there, index_at, index_within, passed_index, length_shown, closed_rise, set_closed, closed_behind}

-- ---- what is noted once something is put at a place

module _ (at : ℕ) (s : Slot) (first : ℕ) (old : List Slot) (start : ℕ) (new : List Slot) (puts : PutsAt at s first old start new) where
  -- a value's link is noted where none was
  links_also : (pairs pairs' : List (ℕ × ℕ)) → NotesLinks pairs first old → ((who : ℕ) → stands_at (is_link who) first old at ≡ false) → NotesAlso (held s) at pairs pairs' → NotesLinks pairs' start new
  links_also pairs pairs' n free also who place = grind (arith, nat_tests, puts (is_link who) place, n who place, n who at, free who, also who place)

  -- the link of the value that stood there is noted no more
  links_no_more : (pairs pairs' : List (ℕ × ℕ)) (v : Option Value) → NotesLinks pairs first old → held s ≡ None → ((who : ℕ) → stands_at (is_link who) first old at ≡ has_link who v) → NotesNoMore v at pairs pairs' → NotesLinks pairs' start new
  links_no_more pairs pairs' v n none was no_more who place = grind (arith, nat_tests, none, puts (is_link who) place, n who place, n who at, was who, no_more who place)

  -- a hole's place is noted
  holes_put : (holes holes' : List ℕ) → ((place : ℕ) → stands_at is_hole first old place ≡ true → is_among holes place ≡ true) → ((place : ℕ) → is_among holes place ≡ true → is_among holes' place ≡ true)
      → (is_hole s ≡ true → is_among holes' at ≡ true) →
      (place : ℕ) → stands_at is_hole start new place ≡ true → is_among holes' place ≡ true
  holes_put holes holes' known more here place h = grind (arith, nat_tests, puts is_hole place, known place, more place, here, h)

-- ---- what is kept

among_more : (ps : List ℕ) (q place : ℕ) → is_among (ps ++ q ∷ []) place ≡ (is_among ps place || (q == place))
among_more [] q place = grind arith
among_more (p ∷ ps) q place = grind (arith, among_more ps q place)

module _ (s : Inside) (k : IsKept s.slots.items s.first s.links s.closed.items s.holes.items) where
  -- a value comes behind all others
  pub kept_behind : (pairs : List (ℕ × ℕ)) (v : Value) → NotesAlso (Some v) (s.first + length s.slots.items) s.links pairs → IsKept (s.slots.items ++ Held v ∷ []) s.first pairs s.closed.items s.holes.items
  kept_behind pairs v also =
      let slots = s.slots.items in
      let at = s.first + length slots in
      let new = slots ++ Held v ∷ [] in
      let puts = puts_behind s.first slots (Held v) in
      let more : length slots ≤ length new = omega (arith, length-append slots (Held v ∷ [])) in
      record {
        wide = (k.wide.0, omega (arith, k.wide.1, more));
        links = links_also at (Held v) s.first slots s.first new puts s.links pairs k.links (λ who. stands_above (is_link who) at s.first slots (omega arith)) also;
        places = k.places ∙ sym (closed_behind s.first slots v);
        known = holes_put at (Held v) s.first slots s.first new puts s.holes.items s.holes.items k.known (λ place t. t) (λ no. cc);
        within = λ place t. ((k.within place t).0, omega (arith, (k.within place t).1, more));
      }

  -- places stand before the first
  pub above_none : 0 < s.first
  above_none = omega (arith, k.wide.1, s.slots.ok.0, s.slots.small)

  -- a value comes before all others
  pub kept_in_front : (pairs : List (ℕ × ℕ)) (v : Value) → NotesAlso (Some v) (s.first - 1) s.links pairs → IsKept (Held v ∷ s.slots.items) (s.first - 1) pairs s.closed.items s.holes.items
  kept_in_front pairs v also =
      let slots = s.slots.items in
      let at = s.first - 1 in
      let e : suc at ≡ s.first = omega (arith, above_none) in
      let puts : PutsAt at (Held v) s.first slots at (Held v ∷ slots) = λ p place. ap (λ n. cond (place == at) (p (Held v)) (stands_at p n slots place)) e in
      record {
        wide = (omega (arith, k.wide.0), omega (arith, e, k.wide.1));
        links = links_also at (Held v) s.first slots at (Held v ∷ slots) puts s.links pairs k.links (λ who. stands_below (is_link who) at s.first slots (omega (arith, e))) also;
        places = k.places ∙ ap (λ n. closed_places n slots) (sym e);
        known = holes_put at (Held v) s.first slots at (Held v ∷ slots) puts s.holes.items s.holes.items k.known (λ place t. t) (λ no. cc);
        within = λ place t. (omega (arith, (k.within place t).0), omega (arith, e, (k.within place t).1));
      }

  pub rises : (closed : List ℕ) → closed ≡ s.closed.items → RisesFrom (λ p. p) 0 closed
  rises closed same = subst (RisesFrom (λ p. p) 0) (sym (same ∙ k.places)) (closed_rise 0 s.first s.slots.items (omega arith))

  -- the index of a position
  module _ (at : ℕ) (within : at < length (shown s.slots.items)) where
    pub index_fits : s.first + at + length s.closed.items < 2 ^ 64
    index_fits = omega (arith, k.wide.0, within, s.slots.ok.0, s.slots.small, length_shown s.first s.slots.items, ap length k.places)

    module _ (closed : List ℕ) (same : closed ≡ s.closed.items) (i : ℕ) (to : i ≡ at + count_passed closed (s.first + at)) where
      pub index_is : i ≡ index_at s.slots.items at
      index_is = to ∙ (ap (λ ps. at + count_passed ps (s.first + at)) (same ∙ k.places) ∙ passed_index s.first s.slots.items at)

      pub index_below : i < length s.slots.items
      index_below = omega (arith, index_is, index_within s.slots.items at within)

      -- the slot becomes a hole
      pub kept_hole : (pairs : List (ℕ × ℕ)) (old : Slot) → old ≡ get_or s.slots.items i old → NotesNoMore (held old) (s.first + i) s.links pairs →
          IsKept (set s.slots.items i Hole) s.first pairs s.closed.items (s.holes.items ++ (s.first + i) ∷ [])
      kept_hole pairs old there no_more =
          let slots = s.slots.items in
          let place = s.first + i in
          let new = set slots i Hole in
          let puts = puts_set s.first slots i Hole index_below in
          let more = among_more s.holes.items place in
          record {
            wide = (k.wide.0, rw length-set k.wide.1);
            links = links_no_more place Hole s.first slots s.first new puts s.links pairs (held old) k.links refl (λ who. stands_there (is_link who) s.first slots i old index_below ∙ ap (is_link who) (sym there)) no_more;
            places = k.places ∙ sym (rw index_is (set_closed Hole (λ f ss. refl) s.first slots at));
            known = holes_put place Hole s.first slots s.first new puts s.holes.items (s.holes.items ++ place ∷ []) k.known (λ q t. grind (arith, more q, t)) (λ yes. grind (arith, nat_tests, more place));
            within = λ q t. grind (arith, nat_tests, index_below, more q, t, k.within q, length-set slots i Hole);
          }

      -- what is noted at its place
      pub noted_there : (old : Slot) → old ≡ get_or s.slots.items i old → NotesAt (held old) (s.first + i) s.links
      noted_there old there who = k.links who (s.first + i) ∙ (stands_there (is_link who) s.first s.slots.items i old index_below ∙ ap (is_link who) (sym there))

      -- the slot gets a value
      pub kept_value : (pairs : List (ℕ × ℕ)) (v : Value) → NotesInstead (Some v) (s.first + i) s.links pairs →
          IsKept (set s.slots.items i (Held v)) s.first pairs s.closed.items s.holes.items
      kept_value pairs v instead =
          let slots = s.slots.items in
          let place = s.first + i in
          let new = set slots i (Held v) in
          let puts = puts_set s.first slots i (Held v) index_below in
          record {
            wide = (k.wide.0, rw length-set k.wide.1);
            links = λ who q. grind (arith, nat_tests, puts (is_link who) q, k.links who q, instead who q);
            places = k.places ∙ sym (rw index_is (set_closed (Held v) (λ f ss. refl) s.first slots at));
            known = holes_put place (Held v) s.first slots s.first new puts s.holes.items s.holes.items k.known (λ q t. t) (λ no. cc);
            within = λ q t. rw length-set (k.within q t);
          }
