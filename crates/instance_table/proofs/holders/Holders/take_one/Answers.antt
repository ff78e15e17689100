use Rattle.std.proofs.Common.{subst, ◌≡◌, ◌∙◌, ap, ap₂, sym}
use Rattle.std.specs.Prelude.{slice_get}
use Rattle.std.specs.List.{remove}
use Rattle.instance_table.specs.Holders.{AscendsFrom, is_holder, without_one}
use Rattle.instance_table.proofs.HolderLaws.{ascends_without, found_among, none_taken, taken}
use Rattle.instance_table.proofs.holders.Holders.take_one.Goals as goal

pub invariant_of-self : goal.invariant_of-self
invariant_of-self c =
    let ns = c.args.self.now in
    let h = c.args.holder in
    let up : AscendsFrom 0 ns = subst (AscendsFrom 0) c.self.view_is c.self.invariant in
    let there = ap (λ k. is_holder h (slice_get ns k)) (sym c.first_from-at.ensures.value) ∙ (sym c.stands_at.ensures ∙ c.if-stands_at.true) in
    let new : c.remove.new.self.items ≡ without_one h ns =
    c.remove.ensures.items ∙ (ap₂ remove c.self.view_is c.first_from-at.ensures.value ∙ taken h ns there) in
    rw new (ascends_without h 0 ns up)

pub returns-then-stands_at : goal.returns-then-stands_at
returns-then-stands_at c =
    let ns = c.args.self.now in
    let h = c.args.holder in
    let there = ap (λ k. is_holder h (slice_get ns k)) (sym c.first_from-at.ensures.value) ∙ (sym c.stands_at.ensures ∙ c.if-stands_at.true) in
    c.remove.ensures.items ∙ (ap₂ remove c.self.view_is c.first_from-at.ensures.value ∙ taken h ns there)

pub returns-else-stands_at : goal.returns-else-stands_at
returns-else-stands_at c =
    let ns = c.args.self.now in
    let h = c.args.holder in
    let up : AscendsFrom 0 ns = subst (AscendsFrom 0) c.self.view_is c.self.invariant in
    let there = ap (λ k. is_holder h (slice_get ns k)) (sym c.first_from-at.ensures.value) ∙ (sym c.stands_at.ensures ∙ c.if-stands_at.false) in
    sym (none_taken h ns (sym (found_among h 0 ns up) ∙ there))
