use Rattle.std.proofs.Common.{subst, ◌≡◌, ◌∙◌, ap, sym, true, not, arith, length, ℕ, ◌&&◌, ◌==◌, List, Option, Some}
use Rattle.std.specs.List.{remove}
use Rattle.std.proofs.lemmas.Bool.Decides.{nat_tests}
use Rattle.seat_ledger.specs.declared.slot.Slot.{Slot}
use Rattle.seat_ledger.specs.Slots.{IndexState, IsSorted, without_slot, is_slot, is_key, has_slot, one_of, HasSlot}
use Rattle.seat_ledger.proofs.SlotLaws.{taken, taken_within, length_without, sorted_without, has_without}
use Rattle.seat_ledger.proofs.index.Index.take_out.Goals as goal

-- the slot of the key is there
there : (key : Option ℕ) (k at : ℕ) (i j : IndexState) → i ≡ j → key ≡ Some k → HasSlot key at j.slots → has_slot k at i.slots ≡ true
there key k at i j same is h = ap (λ (i : IndexState). has_slot k at i.slots) same ∙ subst (λ o. HasSlot o at j.slots) is h

pub remove-requires : goal.remove-requires
remove-requires c =
    let is = there c.args.key c.in-Some.key c.args.at c.self.inside.slots c.args.self.now c.self.view_is c.in-Some.is c.requires in
    omega (arith, c.place_of-place.ensures, taken_within (record { key = c.in-Some.key; at = c.args.at }) c.self.inside.slots.slots c.self.invariant is)

-- the slots without the old one
old_slots : (c : goal.After-remove) → c.remove.new.self.slots ≡ without_slot (record { key = c.in-Some.key; at = c.args.at }) c.self.inside.slots.slots
old_slots c =
    let ss = c.self.inside.slots.slots in
    let is = there c.args.key c.in-Some.key c.args.at c.self.inside.slots c.args.self.now c.self.view_is c.in-Some.is c.requires in
    c.remove.ensures.slots ∙ (ap (remove ss) c.place_of-place.ensures ∙ taken (record { key = c.in-Some.key; at = c.args.at }) ss c.self.invariant is)

pub invariant_of-self : goal.invariant_of-self
invariant_of-self c = rw (old_slots c) (sorted_without (record { key = c.in-Some.key; at = c.args.at }) c.self.inside.slots.slots c.self.invariant)

one_less : (q p key at : ℕ) (ss : List Slot) → IsSorted ss → has_slot q p (without_slot (record { key = key; at = at }) ss) ≡ (has_slot q p ss && not ((p == at) && (key == q)))
one_less q p key at ss k =
    let x : Slot = record { key = key; at = at } in
    let same : is_slot q p x ≡ ((p == at) && (key == q)) = grind (arith, nat_tests) in
    has_without q p x ss k ∙ ap (λ b. has_slot q p ss && not b) same

pub returns-in-Some-clause-slots : goal.returns-in-Some-clause-slots
returns-in-Some-clause-slots c q p =
    ap (has_slot q p) (old_slots c)
    ∙ (one_less q p c.in-Some.key c.args.at c.self.inside.slots.slots c.self.invariant
    ∙ (ap (λ k. has_slot q p c.self.inside.slots.slots && not ((p == c.args.at) && is_key q k)) (sym c.in-Some.is)
    ∙ ap (λ (i : IndexState). has_slot q p i.slots && not ((p == c.args.at) && is_key q c.args.key)) c.self.view_is))

pub returns-in-Some-clause-length : goal.returns-in-Some-clause-length
returns-in-Some-clause-length c =
    let is = there c.args.key c.in-Some.key c.args.at c.self.inside.slots c.args.self.now c.self.view_is c.in-Some.is c.requires in
    omega (arith, ap length (old_slots c), length_without (record { key = c.in-Some.key; at = c.args.at }) c.self.inside.slots.slots is, ap one_of c.in-Some.is, ap (λ i. length i.slots) c.self.view_is)
