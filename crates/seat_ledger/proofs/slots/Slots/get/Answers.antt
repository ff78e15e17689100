use Rattle.std.proofs.Common.{◌≡◌, ◌∙◌, ap, sym, arith, Some, None, length}
use Rattle.std.specs.Prelude.{slice_get}
use Rattle.seat_ledger.proofs.KeyedLaws.{keyed_none, below_get, slot_read}
use Rattle.seat_ledger.proofs.slots.Slots.get.Goals as goal

pub returns-in_err-at : goal.returns-in_err-at
returns-in_err-at c =
    let none : slice_get c.self.inside.places.items c.args.place ≡ None = sym (ap (λ l. slice_get l c.args.place) c.deref.ensures.value) ∙ (sym c.copied_at.ensures ∙ c.in_err-at.was) in
    c.from_residual.ensures ∙ sym (sym (ap (λ i. slice_get i.slots c.args.place) c.self.view_is) ∙ keyed_none c.self.inside.keys.items c.self.inside.places.items c.args.place none)

pub index-key-requires : goal.index-key-requires
index-key-requires c =
    let there : slice_get c.self.inside.places.items c.args.place ≡ Some c.in_ok-at.at = sym (ap (λ l. slice_get l c.args.place) c.deref.ensures.value) ∙ (sym c.copied_at.ensures ∙ c.in_ok-at.was) in
    let below = below_get (length c.self.inside.keys.items) c.self.inside.places.items c.args.place c.in_ok-at.at c.self.invariant there in
    omega (arith, below, c.self.inside.keys.ok.0)

pub returns : goal.returns
returns c =
    let there : slice_get c.self.inside.places.items c.args.place ≡ Some c.in_ok-at.at = sym (ap (λ l. slice_get l c.args.place) c.deref.ensures.value) ∙ (sym c.copied_at.ensures ∙ c.in_ok-at.was) in
    sym (sym (ap (λ i. slice_get i.slots c.args.place) c.self.view_is) ∙ slot_read c.self.inside.keys.items c.self.inside.places.items c.args.place c.in_ok-at.at c.index-key.result.now c.self.invariant there c.index-key.ensures)
