-- The operations on an array by position: what stands before the position is done, and from it on all is as it was.
use Rattle.std.proofs.Common.{◌≡◌, ℕ, zero, suc, ◌+◌, Bool, true, false, ◌==◌, List, [], ◌∷◌, ◌++◌, length, map, drop, max, nat_lt, slice_get, Option, Some, None, refl, sym, ap, ◌∙◌, append_assoc, add-one, arith}
use Rattle.std.specs.List.{fold, flat_map, range_with_len}
use Rattle.std.proofs.lemmas.List.{append-nil, length-append}
use Rattle.std.proofs.lemmas.List.Sums.{fold-append}
use Rattle.std.proofs.Math.Seq.{set-append_seam}
use Rattle.std.proofs.lemmas.Bool.Decides.{nat_tests}
use Rattle.lists.proofs.ListFacts.{drop_rest, drop_first, drop_still, drop_none}
use Rattle.schema_model.specs.Classes.{Schema}
use Rattle.schema_model.specs.declared.value.Value.{Value}
use Rattle.schema_model.specs.declared.place.Home.{Home}
use Rattle.state_model.specs.declared.row.RowEntry.{RowEntry}
use Rattle.state_model.specs.declared.row.Row.TheVariants.{Array}
use Rattle.state_model.specs.Values.{same_value, is_link}
use Rattle.state_model.specs.declared.place.Expected.{Expected}
use Rattle.state_model.specs.Places.{item_expects}
use Rattle.wire_model.specs.declared.op.OpKey.TheVariants.{Item}
use Rattle.wire_model.specs.Edits.{Edit}
use Rattle.wire_model.specs.Effect.{Body, Slots, effect, closed, closed_slots, put_slot, add_slot, empty_slot}
use Rattle.wire_model.specs.Patch.{carried, changed_place, place_edit, slot_edits}
use Rattle.state_laws.proofs.SameValues.{same_is}
use Rattle.wire_laws.proofs.Values.{carried_is}

-- ---- slots without holes

-- slots close one list after the other
pub closed_slots-append : (a b : List (Option Value)) → closed_slots (a ++ b) ≡ closed_slots a ++ closed_slots b
closed_slots-append [] b = refl
closed_slots-append (None ∷ a) b = closed_slots-append a b
closed_slots-append (Some v ∷ a) b = ap (λ vs. v ∷ vs) (closed_slots-append a b)

-- slots without holes close to their values
pub closed_slots-map : (vs : List Value) → closed_slots (map Some vs) ≡ vs
closed_slots-map [] = refl
closed_slots-map (v ∷ vs) = ap (λ ws. v ∷ ws) (closed_slots-map vs)

-- ---- what stands at a position

-- ---- one operation at the position behind what is done

-- a value is put at the position behind what is done
put_at : (done rest : List (Option Value)) (s : Option Value) (v : Value) → put_slot (length done) v (done ++ s ∷ rest) ≡ done ++ Some v ∷ rest
put_at done rest s v = let within : nat_lt (length done) (length (done ++ s ∷ rest)) ≡ true = grind (arith, nat_tests, length-append done (s ∷ rest)) in rw within (set-append_seam done s rest (Some v))

-- a value that is put at the length goes last
put_last : (done : List (Option Value)) (v : Value) → put_slot (length done) v done ≡ done ++ Some v ∷ []
put_last done v =
    let past : nat_lt (length done) (length done) ≡ false = grind (arith, nat_tests) in
    let last : (length done == length done) ≡ true = grind (arith, nat_tests) in
    rw (past, last) refl

-- a value that is added at the length goes last, also at 0, as nothing is present there
add_last : (done : List (Option Value)) (v : Value) → add_slot (length done) v done ≡ done ++ Some v ∷ []
add_last [] v = refl
add_last (d ∷ done) v = let later : (length (d ∷ done) == 0) ≡ false = grind (arith, nat_tests) in rw later (put_last (d ∷ done) v)

-- the slot behind what is done becomes a hole
empty_at : (done rest : List (Option Value)) (s : Option Value) → empty_slot (length done) (done ++ s ∷ rest) ≡ done ++ None ∷ rest
empty_at done rest s = set-append_seam done s rest None

module _ (home : Home) (rows : List RowEntry) (expected : Option Expected) where
  -- the slots after the operations at a position
  abbrev Leads : ℕ → Option Value → Option Value → List (Option Value) → List (Option Value) → Type 0
  Leads p o n slots next = fold (λ body e. effect e body) (Slots home slots) (place_edit (Item p) (Item p) rows expected o n) ≡ Slots home next

  -- the operation on a slot that has another value
  change_leads : (p : ℕ) (done rest : List (Option Value)) (s : Option Value) (v : Value) → length done ≡ p → (link : Bool) → is_link v ≡ link
      → fold (λ body e. effect e body) (Slots home (done ++ s ∷ rest)) (changed_place (Item p) (Item p) v (carried rows expected v) ∷ []) ≡ Slots home (done ++ Some v ∷ rest)
  change_leads p done rest s v l true t = rw (t, ← l) (ap (λ w. Slots home (put_slot (length done) w (done ++ s ∷ rest))) (carried_is rows expected v) ∙ ap (Slots home) (put_at done rest s v))
  change_leads p done rest s v l false t = rw (t, ← l) (ap (λ w. Slots home (put_slot (length done) w (done ++ s ∷ rest))) (carried_is rows expected v) ∙ ap (Slots home) (put_at done rest s v))

  -- in both: the slot has the new value
  both_lead : (p : ℕ) (done rest : List (Option Value)) (u v : Value) → length done ≡ p → (same : Bool) → same_value u v ≡ same → Leads p (Some u) (Some v) (done ++ Some u ∷ rest) (done ++ Some v ∷ rest)
  both_lead p done rest u v l true t = rw t (ap (λ w. Slots home (done ++ Some w ∷ rest)) (same_is u v t))
  both_lead p done rest u v l false t = rw t (change_leads p done rest (Some u) v l (is_link v) refl)

  -- in old alone: a hole
  old_leads : (p : ℕ) (done rest : List (Option Value)) (u : Value) → length done ≡ p → Leads p (Some u) None (done ++ Some u ∷ rest) (done ++ None ∷ rest)
  old_leads p done rest u l = rw (← l) (ap (Slots home) (empty_at done rest (Some u)))

  -- in new alone: the value goes last
  new_leads : (p : ℕ) (done : List (Option Value)) (v : Value) → length done ≡ p → Leads p None (Some v) done (done ++ Some v ∷ [])
  new_leads p done v l = rw (← l) (ap (λ w. Slots home (add_slot (length done) w done)) (carried_is rows expected v) ∙ ap (Slots home) (add_last done v))

  module _ (old new : List Value) where
    -- the operations at a position
    abbrev edits_at : ℕ → List Edit
    edits_at p = place_edit (Item p) (Item p) rows expected (slice_get old p) (slice_get new p)

    -- the slots after the operations on so many positions, from one on
    abbrev after : List (Option Value) → ℕ → ℕ → Body
    after slots p n = fold (λ body e. effect e body) (Slots home slots) (flat_map edits_at (range_with_len p n))

    -- a position leads on to the next
    leads_on : (slots next : List (Option Value)) (p n : ℕ) (o w : Option Value) → slice_get old p ≡ o → slice_get new p ≡ w → Leads p o w slots next → after slots p (suc n) ≡ after next (p + 1) n
    leads_on slots next p n o w e f h =
        let here : fold (λ body e. effect e body) (Slots home slots) (edits_at p) ≡ Slots home next = rw (e, f) h in
        fold-append (λ body e. effect e body) (Slots home slots) (edits_at p) (flat_map edits_at (range_with_len (p + 1) n)) ∙ ap (λ x. fold (λ body e. effect e body) x (flat_map edits_at (range_with_len (p + 1) n))) here

    -- from a position on: what is done stays, and the rest of new follows
    abbrev Completes : List (Option Value) → List (Option Value) → ℕ → ℕ → List Value → Type 0
    Completes slots done p n vs = (last : List (Option Value)) × (after slots p n ≡ Slots home last) × (closed_slots last ≡ closed_slots done ++ vs)

    -- what is done with one more slot, and the positions behind it
    completes : (done slots : List (Option Value)) (s : Option Value) (us ws vs : List Value) (p n : ℕ) → after slots p (suc n) ≡ after (done ++ s ∷ map Some us) (p + 1) n → closed_slots (s ∷ []) ++ ws ≡ vs
        → Completes ((done ++ s ∷ []) ++ map Some us) (done ++ s ∷ []) (p + 1) n ws → Completes slots done p (suc n) vs
    completes done slots s us ws vs p n leads e c =
        let joined : (done ++ s ∷ []) ++ map Some us ≡ done ++ s ∷ map Some us = append_assoc done (s ∷ []) (map Some us) in
        let closes : closed_slots c.0 ≡ closed_slots done ++ vs = c.2 ∙ ap (λ xs. xs ++ ws) (closed_slots-append done (s ∷ [])) ∙ append_assoc (closed_slots done) (closed_slots (s ∷ [])) ws ∙ ap (λ xs. closed_slots done ++ xs) e in
        (c.0, leads ∙ ap (λ xs. after xs (p + 1) n) (sym joined) ∙ c.1, closes)

    -- one more is done
    length_pushed : (done : List (Option Value)) (s : Option Value) (p : ℕ) → length done ≡ p → length (done ++ s ∷ []) ≡ p + 1
    length_pushed done s p l = omega (arith, length-append done (s ∷ []))

    -- the operations at all positions from one on
    positions_run : (n p : ℕ) (done : List (Option Value)) (us vs : List Value) → length done ≡ p → drop p old ≡ us → drop p new ≡ vs → n ≡ max (length us) (length vs)
        → Completes (done ++ map Some us) done p n vs
    positions_run zero p done [] [] l a b m = (done ++ [], refl, closed_slots-append done [])
    positions_run zero p done (u ∷ us) vs l a b m = absurd (omega arith)
    positions_run zero p done [] (v ∷ vs) l a b m = absurd (omega arith)
    positions_run (suc n) p done [] [] l a b m = absurd (omega arith)
    positions_run (suc n) p done [] (v ∷ vs) l a b m =
        completes done (done ++ []) (Some v) [] vs (v ∷ vs) p n
        (rw append-nil (leads_on done (done ++ Some v ∷ []) p n None (Some v) (drop_none old p a) (drop_first new p v vs b) (new_leads p done v l))) refl
        (positions_run n (p + 1) (done ++ Some v ∷ []) [] vs (length_pushed done (Some v) p l) (rw add-one (drop_still old p a)) (rw add-one (drop_rest new p v vs b)) (omega arith))
    positions_run (suc n) p done (u ∷ us) [] l a b m =
        completes done (done ++ Some u ∷ map Some us) None us [] [] p n
        (leads_on (done ++ Some u ∷ map Some us) (done ++ None ∷ map Some us) p n (Some u) None (drop_first old p u us a) (drop_none new p b) (old_leads p done (map Some us) u l)) refl
        (positions_run n (p + 1) (done ++ None ∷ []) us [] (length_pushed done None p l) (rw add-one (drop_rest old p u us a)) (rw add-one (drop_still new p b)) (omega arith))
    positions_run (suc n) p done (u ∷ us) (v ∷ vs) l a b m =
        completes done (done ++ Some u ∷ map Some us) (Some v) us vs (v ∷ vs) p n
        (leads_on (done ++ Some u ∷ map Some us) (done ++ Some v ∷ map Some us) p n (Some u) (Some v) (drop_first old p u us a) (drop_first new p v vs b) (both_lead p done (map Some us) u v l (same_value u v) refl)) refl
        (positions_run n (p + 1) (done ++ Some v ∷ []) us vs (length_pushed done (Some v) p l) (rw add-one (drop_rest old p u us a)) (rw add-one (drop_rest new p v vs b)) (omega arith))

-- the operations by position lead from the old items of an array to its new ones
pub slot_run : (schema : Schema) (rows : List RowEntry) (home declared : Home) (old new : List Value)
    → closed (fold (λ body e. effect e body) (Slots home (map Some old)) (slot_edits schema rows declared old new)) ≡ Array home new
slot_run schema rows home declared old new =
    let c = positions_run home rows (item_expects schema declared) old new (max (length old) (length new)) 0 [] old new refl refl refl refl in
    ap closed c.1 ∙ ap (Array home) c.2
