use Rattle.std.proofs.Common.{subst, ◌≡◌, sym, Option, Some, None, List}
use Rattle.std.specs.Prelude.{slice_get}
use Rattle.seat_ledger.specs.declared.slot.Slot.{Slot}
use Rattle.seat_ledger.specs.Slots.{IndexState, IsSorted, IsLeastSlot}
use Rattle.seat_ledger.proofs.SlotLaws.{has_at, none_first, least_first}
use Rattle.seat_ledger.proofs.index.Index.least.Goals as goal

leads : (ss : List Slot) (o : Option Slot) → IsSorted ss → slice_get ss 0 ≡ o → IsLeastSlot ss o
leads ss None k h = λ q p. none_first q p ss h
leads ss (Some s) k h = (has_at ss 0 s h, λ q p there. least_first q p ss s k h there)

pub returns : goal.returns
returns c = subst (λ (i : IndexState). IsLeastSlot i.slots c.get.result) c.self.view_is (leads c.self.inside.slots.slots c.get.result c.self.invariant (sym c.get.ensures))
