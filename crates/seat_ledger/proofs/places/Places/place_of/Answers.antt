use Rattle.std.proofs.Common.{◌≡◌, ◌∙◌, ℕ, Option, Some, None, List, subst, sym}
use Rattle.room_model.specs.declared.seat.SeatEntry.{SeatEntry}
use Rattle.seat_ledger.specs.Slots.{IndexState, IsFoundSlot}
use Rattle.seat_ledger.specs.Keys.{id_number, IsId}
use Rattle.seat_ledger.specs.Places.{IsKept, IsSessionPlace}
use Rattle.seat_ledger.proofs.PlaceLaws.{new_is, place_is}
use Rattle.seat_ledger.proofs.places.Places.place_of.Goals as goal

found : (max capacity key : ℕ) (es : List SeatEntry) (s t l : IndexState) (session : List ℕ) (o : Option ℕ) → IsKept max capacity es s t l → IsId session → key ≡ id_number session → IsFoundSlot key s.slots o
    → IsSessionPlace session es o
found max capacity key es s t l session None is id same h =
    new_is session es is.ids id (λ p. sym (is.under_session.held (id_number session) p) ∙ subst (λ k. IsFoundSlot k s.slots None) same h p)
found max capacity key es s t l session (Some at) is id same h =
    place_is session es at is.ids is.one_session id (sym (is.under_session.held (id_number session) at) ∙ subst (λ k. IsFoundSlot k s.slots (Some at)) same h)

pub returns : goal.returns
returns c =
    subst (λ p. IsSessionPlace c.args.session p.entries c.find.result) c.self.view_is
    (found _ _ c.id_key.result c.self.inside.entries.items c.self.inside.by_session _ _ c.args.session c.find.result c.self.invariant c.id_key.ensures.id c.id_key.ensures.value c.find.ensures)
