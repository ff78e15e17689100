use Rattle.std.proofs.Common.{◌≡◌, ◌∙◌, ap, sym, arith, length, map, subst}
use Rattle.seat_ledger.specs.Slots.{IndexState, IsFree, IsSorted, closed_slot, has_slot}
use Rattle.seat_ledger.proofs.SlotLaws.{sorted_closed, has_closed, length_closed}
use Rattle.seat_ledger.proofs.index.Index.close.Goals as goal

new_slots : (c : goal.After-close) → c.close.new.self.slots ≡ map (closed_slot c.args.at) c.args.self.now.slots
new_slots c = c.close.ensures.slots ∙ ap (λ (i : IndexState). map (closed_slot c.args.at) i.slots) c.self.view_is

pub invariant_of-self : goal.invariant_of-self
invariant_of-self c =
    let sorted : IsSorted c.args.self.now.slots = subst (λ i. IsSorted i.slots) c.self.view_is c.self.invariant in
    rw (new_slots c) (sorted_closed c.args.at c.args.self.now.slots c.requires.free sorted)

pub returns-clause-slots : goal.returns-clause-slots
returns-clause-slots c q p = ap (has_slot q p) (new_slots c) ∙ has_closed q p c.args.at c.args.self.now.slots c.requires.free

pub returns-clause-length : goal.returns-clause-length
returns-clause-length c = ap length (new_slots c) ∙ length_closed c.args.at c.args.self.now.slots

pub close-requires-clause-entry : goal.close-requires-clause-entry
close-requires-clause-entry c = omega (arith, c.requires.entry, ap (λ i. i.count) c.self.view_is)

pub close-requires-clause-free : goal.close-requires-clause-free
close-requires-clause-free c = subst (λ (i : IndexState). IsFree c.args.at i.slots) (sym c.self.view_is) c.requires.free
