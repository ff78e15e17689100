use Rattle.std.proofs.Common.{◌≡◌, ◌∙◌, ℕ, Option, Some, None, List, subst, sym}
use Rattle.room_model.specs.declared.seat.SeatEntry.{SeatEntry}
use Rattle.seat_ledger.specs.Slots.{IndexState, IsFoundSlot}
use Rattle.seat_ledger.specs.Keys.{id_number, IsId}
use Rattle.seat_ledger.specs.Places.{IsKept, IsTokenPlace}
use Rattle.seat_ledger.proofs.PlaceLaws.{unused_is, place_with_is}
use Rattle.seat_ledger.proofs.places.Places.place_with.Goals as goal

found : (max capacity key : ℕ) (es : List SeatEntry) (s t l : IndexState) (token : List ℕ) (o : Option ℕ) → IsKept max capacity es s t l → IsId token → key ≡ id_number token → IsFoundSlot key t.slots o
    → IsTokenPlace token es o
found max capacity key es s t l token None is id same h =
    unused_is token es is.ids id (λ p. sym (is.under_token.held (id_number token) p) ∙ subst (λ k. IsFoundSlot k t.slots None) same h p)
found max capacity key es s t l token (Some at) is id same h =
    place_with_is token es at is.ids is.one_token id (sym (is.under_token.held (id_number token) at) ∙ subst (λ k. IsFoundSlot k t.slots (Some at)) same h)

pub returns : goal.returns
returns c =
    subst (λ p. IsTokenPlace c.args.token p.entries c.find.result) c.self.view_is
    (found _ _ c.id_key.result c.self.inside.entries.items _ c.self.inside.by_token _ c.args.token c.find.result c.self.invariant c.id_key.ensures.id c.id_key.ensures.value c.find.ensures)
