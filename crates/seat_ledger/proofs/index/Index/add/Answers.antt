use Rattle.std.proofs.Common.{◌≡◌, ◌∙◌, ap, sym, false, arith, length, ℕ, ◌||◌, ◌&&◌, ◌==◌, List}
use Rattle.std.specs.List.{insert}
use Rattle.std.proofs.lemmas.Bool.Decides.{nat_tests}
use Rattle.seat_ledger.specs.declared.slot.Slot.{Slot}
use Rattle.seat_ledger.specs.Slots.{IndexState, with_slot, is_slot, is_key, has_slot, one_of}
use Rattle.seat_ledger.proofs.SlotLaws.{inserted, length_with, place_within, sorted_with, has_with}
use Rattle.seat_ledger.proofs.index.Index.add.Goals as goal

pub insert-requires-clause-within : goal.insert-requires-clause-within
insert-requires-clause-within c = omega (arith, c.place_of-place.ensures, place_within (record { key = c.in-Some.key; at = c.args.at }) c.self.inside.slots.slots)

pub insert-requires-clause-room : goal.insert-requires-clause-room
insert-requires-clause-room c = omega (arith, c.requires.room, ap one_of c.in-Some.is, ap (λ i. length i.slots) c.self.view_is, ap (λ i. i.room) c.self.view_is)

-- the slots with the new one
new_slots : (c : goal.After-insert) → c.insert.new.self.slots ≡ with_slot (record { key = c.in-Some.key; at = c.args.at }) c.self.inside.slots.slots
new_slots c =
    let x : Slot = record { key = c.in-Some.key; at = c.args.at } in
    c.insert.ensures.slots ∙ (ap (λ n. insert c.self.inside.slots.slots n x) c.place_of-place.ensures ∙ inserted x c.self.inside.slots.slots)

pub invariant_of-self : goal.invariant_of-self
invariant_of-self c =
    let free : has_slot c.in-Some.key c.args.at c.self.inside.slots.slots ≡ false = ap (λ (i : IndexState). has_slot c.in-Some.key c.args.at i.slots) c.self.view_is ∙ c.requires.free c.in-Some.key in
    rw (new_slots c) (sorted_with (record { key = c.in-Some.key; at = c.args.at }) c.self.inside.slots.slots c.self.invariant free)

one_more : (q p key at : ℕ) (ss : List Slot) → has_slot q p (with_slot (record { key = key; at = at }) ss) ≡ (has_slot q p ss || ((p == at) && (key == q)))
one_more q p key at ss =
    let x : Slot = record { key = key; at = at } in
    let same : is_slot q p x ≡ ((p == at) && (key == q)) = grind (arith, nat_tests) in
    has_with q p x ss ∙ ap (λ b. has_slot q p ss || b) same

pub returns-in-Some-clause-slots : goal.returns-in-Some-clause-slots
returns-in-Some-clause-slots c q p =
    ap (has_slot q p) (new_slots c)
    ∙ (one_more q p c.in-Some.key c.args.at c.self.inside.slots.slots
    ∙ (ap (λ k. has_slot q p c.self.inside.slots.slots || ((p == c.args.at) && is_key q k)) (sym c.in-Some.is)
    ∙ ap (λ (i : IndexState). has_slot q p i.slots || ((p == c.args.at) && is_key q c.args.key)) c.self.view_is))

pub returns-in-Some-clause-length : goal.returns-in-Some-clause-length
returns-in-Some-clause-length c =
    omega (arith, ap length (new_slots c), length_with (record { key = c.in-Some.key; at = c.args.at }) c.self.inside.slots.slots, ap one_of c.in-Some.is, ap (λ i. length i.slots) c.self.view_is)
