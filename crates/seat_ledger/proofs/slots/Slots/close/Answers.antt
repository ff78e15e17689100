use Rattle.std.proofs.Common.{◌≡◌, ◌∙◌, ap, ap₂, sym, arith, ◌<◌, ◌++◌, append-nil, take, drop, length, map, List, ℕ, subst}
use Rattle.std.specs.List.{remove}
use Rattle.std.proofs.lemmas.List.{take_all, drop_all}
use Rattle.std.proofs.lemmas.List.Edits.{length-remove}
use Rattle.seat_ledger.specs.Slots.{closed_place, closed_slot, IndexState, IsFree}
use Rattle.seat_ledger.specs.Keyed.{keyed_places}
use Rattle.seat_ledger.proofs.KeyedLaws.{keyed_closed, below_closed}
use Rattle.seat_ledger.proofs.slots.Slots.close.Goals as goal

-- what a slice's edit leaves of a list is the slice
whole : (len : ℕ) (now old : List ℕ) → length now ≡ length old → len ≡ length old → take len (now ++ drop (length now) old) ≡ now
whole len now old same is = ap (λ l. take len (now ++ l)) (drop_all (length now) old (omega (arith, same))) ∙ (ap (take len) (append-nil now) ∙ take_all len now (omega (arith, same, is)))

new_places : (c : goal.After-remove) → take c.self.inside.places.len (c.close_all.new.places ++ drop (length c.close_all.new.places) c.self.inside.places.items) ≡ map (closed_place c.args.gone) c.self.inside.places.items
new_places c =
    whole c.self.inside.places.len c.close_all.new.places c.self.inside.places.items (omega (arith, c.close_all.auto.places, ap length c.deref_mut.ensures.value)) (omega (arith, c.self.inside.places.ok.0))
    ∙ (c.close_all.ensures ∙ ap (map (closed_place c.args.gone)) c.deref_mut.ensures.value)

pub invariant_of-self : goal.invariant_of-self
invariant_of-self c =
    let keys = c.self.inside.keys.items in
    let entry : c.args.gone < length keys = omega (arith, c.requires.entry, ap (λ i. i.count) c.self.view_is) in
    let free : IsFree c.args.gone (keyed_places keys c.self.inside.places.items) = subst (λ (i : IndexState). IsFree c.args.gone i.slots) (sym c.self.view_is) c.requires.free in
    rw (new_places c, c.remove.ensures.items)
    (below_closed (length keys) (length (remove keys c.args.gone)) c.args.gone keys c.self.inside.places.items (length-remove keys c.args.gone entry) entry c.self.invariant free)

pub returns-clause-slots : goal.returns-clause-slots
returns-clause-slots c =
    let keys = c.self.inside.keys.items in
    let entry : c.args.gone < length keys = omega (arith, c.requires.entry, ap (λ i. i.count) c.self.view_is) in
    let free : IsFree c.args.gone (keyed_places keys c.self.inside.places.items) = subst (λ (i : IndexState). IsFree c.args.gone i.slots) (sym c.self.view_is) c.requires.free in
    ap₂ keyed_places c.remove.ensures.items (new_places c) ∙ (keyed_closed c.args.gone keys c.self.inside.places.items entry free ∙ ap (λ i. map (closed_slot c.args.gone) i.slots) c.self.view_is)
