use Rattle.std.proofs.Common.{◌≡◌, ◌∙◌, ℕ, sym, ap, subst, true, length, ◌<◌, None, List, arith}
use Rattle.std.specs.Prelude.{is_some, slice_get}
use Rattle.room_model.specs.declared.seat.SeatEntry.{SeatEntry}
use Rattle.room_model.specs.Ledger.{first_due, is_due}
use Rattle.seat_ledger.specs.Keys.{by_lapse}
use Rattle.seat_ledger.specs.Held.{holds}
use Rattle.seat_ledger.specs.Places.{due_of, IsLeastLapse, PlacesState}
use Rattle.seat_ledger.proofs.HeldLaws.{holds_within}
use Rattle.seat_ledger.proofs.PlaceLaws.{next_is, no_lapse_is}
use Rattle.seat_ledger.proofs.places.Places.next_lapse.Goals as goal

pub entry-requires : goal.entry-requires
entry-requires c =
    let slot = c.in_ok-slot.slot in
    omega (arith, holds_within by_lapse c.self.inside.entries.items slot.key slot.at (sym (c.self.invariant.under_lapse.held slot.key slot.at) ∙ c.in_ok-slot.ensures.0), ap (λ p. length p.entries) c.self.view_is)

pub returns-in_err-slot : goal.returns-in_err-slot
returns-in_err-slot c now =
    let none = no_lapse_is now c.self.inside.entries.items (λ q p. sym (c.self.invariant.under_lapse.held q p) ∙ c.in_err-slot.ensures q p) in
    ap (λ (p : PlacesState). is_some (first_due (due_of now p.entries))) (sym c.self.view_is) ∙ (ap is_some none ∙ sym (ap (is_due now) c.from_residual.ensures))

pub returns : goal.returns
returns c now =
    let slot = c.in_ok-slot.slot in
    let es = c.self.inside.entries.items in
    let held = c.self.invariant.under_lapse.held in
    let there = ap (λ (p : PlacesState). slice_get p.entries slot.at) c.self.view_is ∙ c.entry.ensures.there in
    ap (λ (p : PlacesState). is_some (first_due (due_of now p.entries))) (sym c.self.view_is)
    ∙ (next_is now slot.key slot.at es c.entry.result (sym (held slot.key slot.at) ∙ c.in_ok-slot.ensures.0) (λ q p h. c.in_ok-slot.ensures.1 q p (held q p ∙ h)) there
    ∙ sym (ap (is_due now) c.lapse_of.ensures))
