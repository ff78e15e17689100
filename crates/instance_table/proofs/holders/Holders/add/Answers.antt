use Rattle.std.proofs.Common.{subst, ◌≡◌, ◌∙◌, ap, ap₂, arith, length}
use Rattle.std.specs.List.{insert}
use Rattle.instance_table.specs.Holders.{AscendsFrom, with_holder}
use Rattle.instance_table.proofs.HolderLaws.{ascends_with, high_within, inserted}
use Rattle.instance_table.proofs.holders.Holders.add.Goals as goal

pub insert-requires : goal.insert-requires
insert-requires c =
    omega (arith, c.last_to-at.ensures, high_within c.args.holder c.args.self.now, ap length c.self.view_is, c.self.inside.numbers.ok.0)

pub invariant_of-self-2 : goal.invariant_of-self-2
invariant_of-self-2 c =
    let ns = c.args.self.now in
    let h = c.args.holder in
    let up : AscendsFrom 0 ns = subst (AscendsFrom 0) c.self.view_is c.self.invariant in
    let new : c.insert.new.self.items ≡ with_holder h ns =
    c.in_ok-insert.ensures.items ∙ (ap₂ (λ l k. insert l k h) c.self.view_is c.last_to-at.ensures ∙ inserted h ns) in
    rw new (ascends_with h 0 ns (omega arith) up)

pub returns : goal.returns
returns c =
    c.in_ok-insert.ensures.items
    ∙ (ap₂ (λ l k. insert l k c.args.holder) c.self.view_is c.last_to-at.ensures ∙ inserted c.args.holder c.args.self.now)
