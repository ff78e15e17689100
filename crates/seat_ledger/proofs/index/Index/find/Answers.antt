use Rattle.std.proofs.Common.{subst, ◌≡◌, ◌∙◌, ap, sym, Option, Some, None, true, false, ltb, ℕ, ◌==◌, arith, List}
use Rattle.std.specs.Prelude.{slice_get}
use Rattle.std.specs.List.{prefix_len}
use Rattle.std.proofs.lemmas.Bool.Decides.{nat_tests}
use Rattle.std.proofs.lemmas.Option.{same_Some}
use Rattle.seat_ledger.specs.declared.slot.Slot.{Slot}
use Rattle.seat_ledger.specs.Slots.{IndexState, IsSorted, IsFoundSlot, has_slot, precedes}
use Rattle.seat_ledger.proofs.SlotLaws.{first_place, has_at, not_found}
use Rattle.seat_ledger.proofs.index.Index.find.Goals as goal

-- what stands at the first place of a key
first : (key n : ℕ) (ss : List Slot) (o : Option Slot) → n ≡ prefix_len (λ s. precedes s (record { key = key; at = 0 })) ss → o ≡ slice_get ss n → slice_get ss (prefix_len (λ s. ltb s.key key) ss) ≡ o
first key n ss o place is = sym (is ∙ ap (slice_get ss) (place ∙ first_place key ss))

-- the first slot is that of the key
found : (key : ℕ) (s : Slot) (i j : IndexState) → i ≡ j → slice_get i.slots (prefix_len (λ s. ltb s.key key) i.slots) ≡ Some s → s.key ≡ key → IsFoundSlot key j.slots (Some s.at)
found key s i j same there is =
    subst (λ k. has_slot k s.at j.slots ≡ true) is (sym (ap (λ (i : IndexState). has_slot s.key s.at i.slots) same) ∙ has_at i.slots (prefix_len (λ s. ltb s.key key) i.slots) s there)

-- the first slot is that of another key, or there is none
unlike : (key : ℕ) (s t : Slot) (o : Option Slot) → o ≡ Some s → (s.key ≡ key → ⊥) → o ≡ Some t → (t.key == key) ≡ false
unlike key s t o h apart k = (let same : s ≡ t = same_Some s t (sym h ∙ k) in subst (λ (u : Slot). (u.key == key) ≡ false) same (let differ : (s.key == key) ≡ false = grind (arith, nat_tests, apart) in differ))

other : (key : ℕ) (s : Slot) (i j : IndexState) → IsSorted i.slots → i ≡ j → slice_get i.slots (prefix_len (λ s. ltb s.key key) i.slots) ≡ Some s → (s.key ≡ key → ⊥) → IsFoundSlot key j.slots None
other key s i j sorted same there apart p =
    sym (ap (λ (i : IndexState). has_slot key p i.slots) same) ∙ not_found key p i.slots sorted (λ t h. unlike key s t (slice_get i.slots (prefix_len (λ s. ltb s.key key) i.slots)) there apart h)

none : (key : ℕ) (i j : IndexState) → IsSorted i.slots → i ≡ j → slice_get i.slots (prefix_len (λ s. ltb s.key key) i.slots) ≡ None → IsFoundSlot key j.slots None
none key i j sorted same there p =
    sym (ap (λ (i : IndexState). has_slot key p i.slots) same) ∙ not_found key p i.slots sorted (λ t h. absurd (let clash : None ≡ Some t = sym there ∙ h in cc))

pub returns-then-slot-key : goal.returns-then-slot-key
returns-then-slot-key c =
    let i = c.self.inside.slots in
    found c.args.key c.in_ok-slot.slot i c.args.self.now c.self.view_is (first c.args.key c.place_of-place.result i.slots c.get.result c.place_of-place.ensures c.get.ensures ∙ c.in_ok-slot.was) c.if-slot-key.true

pub returns-else-slot-key : goal.returns-else-slot-key
returns-else-slot-key c =
    let i = c.self.inside.slots in
    other c.args.key c.in_ok-slot.slot i c.args.self.now c.self.invariant c.self.view_is (first c.args.key c.place_of-place.result i.slots c.get.result c.place_of-place.ensures c.get.ensures ∙ c.in_ok-slot.was) c.if-slot-key.false

pub returns-in_err-slot : goal.returns-in_err-slot
returns-in_err-slot c =
    let i = c.self.inside.slots in
    rw c.from_residual.ensures (none c.args.key i c.args.self.now c.self.invariant c.self.view_is (first c.args.key c.place_of-place.result i.slots c.get.result c.place_of-place.ensures c.get.ensures ∙ c.in_err-slot.was))
