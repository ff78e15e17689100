use Rattle.std.proofs.Common.{◌∙◌, ap, arith, length}
use Rattle.std.specs.List.{remove}
use Rattle.seat_ledger.specs.Keyed.{keyed_places}
use Rattle.seat_ledger.proofs.KeyedLaws.{keyed_length, keyed_remove, below_remove}
use Rattle.seat_ledger.proofs.slots.Slots.remove.Goals as goal

pub remove-requires : goal.remove-requires
remove-requires c = omega (arith, c.requires, ap (λ i. length i.slots) c.self.view_is, keyed_length c.self.inside.keys.items c.self.inside.places.items, c.self.inside.places.ok.0)

pub invariant_of-self : goal.invariant_of-self
invariant_of-self c = rw c.remove.ensures.items (below_remove (length c.self.inside.keys.items) c.self.inside.places.items c.args.place c.self.invariant)

pub returns-clause-slots : goal.returns-clause-slots
returns-clause-slots c =
    ap (keyed_places c.self.inside.keys.items) c.remove.ensures.items ∙ (keyed_remove c.self.inside.keys.items c.self.inside.places.items c.args.place ∙ ap (λ i. remove i.slots c.args.place) c.self.view_is)
