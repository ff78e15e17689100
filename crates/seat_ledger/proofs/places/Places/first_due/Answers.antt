use Rattle.std.proofs.Common.{◌≡◌, ◌∙◌, ℕ, ◌<◌, ◌≤◌, Option, Some, None, List, subst, sym, arith}
use Rattle.room_model.specs.declared.seat.SeatEntry.{SeatEntry}
use Rattle.seat_ledger.specs.declared.slot.Slot.{Slot}
use Rattle.seat_ledger.specs.Slots.{IndexState, IsLeastSlot}
use Rattle.seat_ledger.specs.Places.{IsKept, IsDuePlace}
use Rattle.seat_ledger.proofs.PlaceLaws.{due_is, later_is, no_lapse_is}
use Rattle.seat_ledger.proofs.places.Places.first_due.Goals as goal

due : (max capacity now : ℕ) (es : List SeatEntry) (s t l : IndexState) (slot : Slot) → IsKept max capacity es s t l → IsLeastSlot l.slots (Some slot) → slot.key ≤ now → IsDuePlace now es (Some slot.at)
due max capacity now es s t l slot is h low =
    due_is now slot.key slot.at es (sym (is.under_lapse.held slot.key slot.at) ∙ h.0) low (λ q p k. h.1 q p (is.under_lapse.held q p ∙ k))

later : (max capacity now : ℕ) (es : List SeatEntry) (s t l : IndexState) (slot : Slot) → IsKept max capacity es s t l → IsLeastSlot l.slots (Some slot) → now < slot.key → IsDuePlace now es None
later max capacity now es s t l slot is h high = later_is now slot.key slot.at es high (λ q p k. h.1 q p (is.under_lapse.held q p ∙ k))

pub returns-then-slot-from : goal.returns-then-slot-from
returns-then-slot-from c =
    let low : c.in_ok-slot.slot.key ≤ c.args.now = omega (arith, c.from.ensures, c.if-slot-from.true) in
    subst (λ p. IsDuePlace c.args.now p.entries (Some c.in_ok-slot.slot.at)) c.self.view_is
    (due _ _ c.args.now c.self.inside.entries.items _ _ c.self.inside.by_lapse c.in_ok-slot.slot c.self.invariant c.in_ok-slot.ensures low)

pub returns-else-slot-from : goal.returns-else-slot-from
returns-else-slot-from c =
    let high : c.args.now < c.in_ok-slot.slot.key = omega (arith, c.from.ensures, c.if-slot-from.false) in
    subst (λ p. IsDuePlace c.args.now p.entries None) c.self.view_is
    (later _ _ c.args.now c.self.inside.entries.items _ _ c.self.inside.by_lapse c.in_ok-slot.slot c.self.invariant c.in_ok-slot.ensures high)

-- where an index has no slot
none_due_of : (max capacity now : ℕ) (es : List SeatEntry) (s t l : IndexState) (o : Option Slot) → IsKept max capacity es s t l → IsLeastSlot l.slots o → o ≡ None → IsDuePlace now es None
none_due_of max capacity now es s t l o is h none =
    no_lapse_is now es (λ q p. sym (is.under_lapse.held q p) ∙ subst (IsLeastSlot l.slots) none h q p)

pub returns-in_err-slot : goal.returns-in_err-slot
returns-in_err-slot c =
    rw c.from_residual.ensures
    (subst (λ p. IsDuePlace c.args.now p.entries None) c.self.view_is
    (none_due_of _ _ c.args.now c.self.inside.entries.items _ _ c.self.inside.by_lapse c.least.result c.self.invariant c.least.ensures c.in_err-slot.was))
