use Rattle.std.proofs.Common.{◌≡◌, ◌∙◌, ℕ, List, Option, None, Some, option_copied, slice_get, refl, sym, ap, subst, arith}
use Rattle.std.specs.Iterator.{SkipsThenYields}
use Rattle.std.specs.Map.{values_of}
use Rattle.std.specs.Map.Iter.{TakesFirst}
use Rattle.std.specs.Option.{option_and_then, option_map}
use Rattle.std.proofs.lemmas.Map.Iter.{iter_end, iter_turn}
use Rattle.std.proofs.lemmas.Option.{slice_get_past}
use Rattle.slab.specs.Slab.{get}
use Rattle.hub_core.proofs.SlotLaws.{nth_slot}
use Rattle.hub_core.proofs.slots.Slots.nth.Goals as goal

-- the item behind those that were passed over
shown : {A X : Type 0} (shows : A → X) (s u : List X) (n : ℕ) (r : Option A) → SkipsThenYields (TakesFirst shows) s n r u → option_map shows r ≡ slice_get s n
shown shows s u n None ran =
    let all = iter_end shows s ran.0 s ran.1.0 u None refl ran.1.1 refl ran.1.2 in
    sym (slice_get_past s n (omega (arith, all.1, ran.2)))
shown shows s u n (Some x) ran =
    let at = iter_turn shows s ran.0 s ran.1.0 u (Some x) refl ran.1.1 x refl ran.1.2 in
    sym (subst (λ k. slice_get s k ≡ Some (shows x)) ran.2 at.1)

pub returns-in_err-slot : goal.returns-in_err-slot
returns-in_err-slot g c =
    let all : option_copied c.nth.result ≡ slice_get (values_of c.self.inside.by_serial.entries) c.args.n = rw c.values.ensures.rest at (shown (λ x. x.now) c.values.result c.nth.new.self c.args.n c.nth.result c.nth.ensures.ran) in
    let none : None ≡ slice_get (values_of c.self.inside.by_serial.entries) c.args.n = sym (ap option_copied c.in_err-slot.was) ∙ all in
    rw (← c.self.view_is, c.from_residual.ensures) (ap (option_and_then (get c.self.inside.slots)) none ∙ sym (nth_slot (get c.self.inside.slots) c.self.inside.by_serial.entries c.args.n c.self.invariant.filled))

pub returns-in-Some : goal.returns-in-Some
returns-in-Some g c =
    let all : option_copied c.nth.result ≡ slice_get (values_of c.self.inside.by_serial.entries) c.args.n = rw c.values.ensures.rest at (shown (λ x. x.now) c.values.result c.nth.new.self c.args.n c.nth.result c.nth.ensures.ran) in
    let there : Some c.in_ok-slot.field-0.now ≡ slice_get (values_of c.self.inside.by_serial.entries) c.args.n = sym (ap option_copied c.in_ok-slot.was) ∙ all in
    let at : Some c.in-Some.boxed.now ≡ get c.self.inside.slots c.in_ok-slot.field-0.now = c.in-Some.ensures in
    ap Some c.get-in-Some.ensures ∙ rw (← c.self.view_is) (at ∙ (ap (option_and_then (get c.self.inside.slots)) there ∙ sym (nth_slot (get c.self.inside.slots) c.self.inside.by_serial.entries c.args.n c.self.invariant.filled)))

pub returns-in-None : goal.returns-in-None
returns-in-None g c =
    let all : option_copied c.nth.result ≡ slice_get (values_of c.self.inside.by_serial.entries) c.args.n = rw c.values.ensures.rest at (shown (λ x. x.now) c.values.result c.nth.new.self c.args.n c.nth.result c.nth.ensures.ran) in
    let there : Some c.in_ok-slot.field-0.now ≡ slice_get (values_of c.self.inside.by_serial.entries) c.args.n = sym (ap option_copied c.in_ok-slot.was) ∙ all in
    let at : None ≡ get c.self.inside.slots c.in_ok-slot.field-0.now = c.in-None.ensures in
    rw (← c.self.view_is) (at ∙ (ap (option_and_then (get c.self.inside.slots)) there ∙ sym (nth_slot (get c.self.inside.slots) c.self.inside.by_serial.entries c.args.n c.self.invariant.filled)))
