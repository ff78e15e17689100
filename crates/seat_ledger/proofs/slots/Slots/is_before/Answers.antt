use Rattle.std.proofs.Common.{◌∙◌, ap, sym, arith, refl, length, ◌<◌}
use Rattle.std.specs.Prelude.{slice_get}
use Rattle.std.proofs.lemmas.Option.{same_Some, slice_get_read}
use Rattle.seat_ledger.specs.declared.slot.Slot.{Slot}
use Rattle.seat_ledger.specs.Slots.{precedes}
use Rattle.seat_ledger.proofs.KeyedLaws.{keyed_length, below_get, slot_read}
use Rattle.seat_ledger.proofs.slots.Slots.is_before.Goals as goal

pub index-at-requires : goal.index-at-requires
index-at-requires c = omega (arith, c.requires, ap (λ i. length i.slots) c.self.view_is, keyed_length c.self.inside.keys.items c.self.inside.places.items, c.self.inside.places.ok.0)

pub index-requires : goal.index-requires
index-requires c =
    let within : c.args.place < length c.self.inside.places.items = omega (arith, c.requires, ap (λ i. length i.slots) c.self.view_is, keyed_length c.self.inside.keys.items c.self.inside.places.items) in
    let there = slice_get_read c.self.inside.places.items (length c.self.inside.places.items) c.args.place c.index-at.result.now refl within c.index-at.ensures in
    omega (arith, below_get (length c.self.inside.keys.items) c.self.inside.places.items c.args.place c.index-at.result.now c.self.invariant there, c.self.inside.keys.ok.0)

pub returns : goal.returns
returns c s h =
    let within : c.args.place < length c.self.inside.places.items = omega (arith, c.requires, ap (λ i. length i.slots) c.self.view_is, keyed_length c.self.inside.keys.items c.self.inside.places.items) in
    let there = slice_get_read c.self.inside.places.items (length c.self.inside.places.items) c.args.place c.index-at.result.now refl within c.index-at.ensures in
    let x : Slot = record { key = c.index.result.now; at = c.index-at.result.now } in
    let read = slot_read c.self.inside.keys.items c.self.inside.places.items c.args.place c.index-at.result.now c.index.result.now c.self.invariant there c.index.ensures in
    c.comes_before.ensures ∙ ap (λ y. precedes y c.args.slot) (same_Some x s (sym read ∙ (ap (λ i. slice_get i.slots c.args.place) c.self.view_is ∙ h)))
