use Rattle.std.proofs.Common.{◌≡◌, ◌∙◌, ap, ap₂, sym, cond, is_ok, arith, length, set, subst, ◌<◌}
use Rattle.std.specs.List.{insert}
use Rattle.std.proofs.lemmas.List.{length-set, get_or-set_same}
use Rattle.seat_ledger.specs.Slots.{IndexState, IsFree}
use Rattle.seat_ledger.specs.Keyed.{keyed_places}
use Rattle.seat_ledger.proofs.KeyedLaws.{keyed_length, keyed_insert, keyed_set, below_insert}
use Rattle.seat_ledger.proofs.slots.Slots.insert.Goals as goal

pub insert-requires : goal.insert-requires
insert-requires c = omega (arith, c.requires.within, ap (λ i. length i.slots) c.self.view_is, keyed_length c.self.inside.keys.items c.self.inside.places.items, c.self.inside.places.ok.0)

pub unwrap-requires : goal.unwrap-requires
unwrap-requires c =
    c.insert.ensures.succeeds (omega (arith, c.requires.room, ap (λ i. length i.slots) c.self.view_is, ap (λ i. i.room) c.self.view_is, keyed_length c.self.inside.keys.items c.self.inside.places.items, c.self.inside.places.ok.0))

pub invariant_of-self : goal.invariant_of-self
invariant_of-self c =
    let keys = c.self.inside.keys.items in
    let places = c.self.inside.places.items in
    let entry : c.args.slot.at < length keys = omega (arith, c.requires.entry, ap (λ i. i.count) c.self.view_is) in
    let items : c.insert.new.self.items ≡ insert places c.args.place c.args.slot.at = c.insert.ensures.items ∙ ap (λ r. cond (is_ok r) (insert places c.args.place c.args.slot.at) places) c.unwrap.ensures in
    rw (items, length-set keys c.args.slot.at c.args.slot.key) (below_insert (length keys) places c.args.place c.args.slot.at c.self.invariant entry)

pub returns-clause-slots : goal.returns-clause-slots
returns-clause-slots c =
    let keys = c.self.inside.keys.items in
    let places = c.self.inside.places.items in
    let x = c.args.slot in
    let entry : x.at < length keys = omega (arith, c.requires.entry, ap (λ i. i.count) c.self.view_is) in
    let items : c.insert.new.self.items ≡ insert places c.args.place x.at = c.insert.ensures.items ∙ ap (λ r. cond (is_ok r) (insert places c.args.place x.at) places) c.unwrap.ensures in
    let free : IsFree x.at (keyed_places keys places) = subst (λ (i : IndexState). IsFree x.at i.slots) (sym c.self.view_is) c.requires.free in
    ap (keyed_places (set keys x.at x.key)) items
    ∙ (keyed_insert (set keys x.at x.key) places c.args.place x.at
    ∙ (ap₂ (λ l n. insert l c.args.place (record { key = n; at = x.at })) (keyed_set keys places x.at x.key free) (get_or-set_same keys x.at x.key 0 entry)
    ∙ ap (λ i. insert i.slots c.args.place x) c.self.view_is))
