use Rattle.std.proofs.Common.{ℕ, List, subst, ◌≡◌, ◌==◌, ◌∙◌, ap, ap₂, arith, filter, length, not}
use Rattle.std.specs.List.{remove_range}
use Rattle.instance_table.specs.Holders.{AscendsFrom}
use Rattle.instance_table.proofs.HolderLaws.{dropped, ends_rise, high_end, high_within, low_end, ascends_filter}
use Rattle.instance_table.proofs.holders.Holders.take_all.Goals as goal

rest_of : (all ns : List ℕ) (h from to : ℕ) → all ≡ ns → from ≡ low_end h ns → to ≡ high_end h ns → remove_range all from to ≡ remove_range ns (low_end h ns) (high_end h ns)
rest_of all ns h from to e f t = ap (λ l. remove_range l from to) e ∙ ap₂ (remove_range ns) f t

pub drain-requires-clause-start_le_end : goal.drain-requires-clause-start_le_end
drain-requires-clause-start_le_end c = omega (arith, c.first_from-from.ensures.value, c.last_to-to.ensures, ends_rise c.args.holder c.args.self.now)

pub drain-requires-clause-in_bounds : goal.drain-requires-clause-in_bounds
drain-requires-clause-in_bounds c =
    omega (arith, c.last_to-to.ensures, high_within c.args.holder c.args.self.now, ap length c.self.view_is, c.self.inside.numbers.ok.0)

pub invariant_of-self : goal.invariant_of-self
invariant_of-self c =
    let ns = c.args.self.now in
    let h = c.args.holder in
    let up : AscendsFrom 0 ns = subst (AscendsFrom 0) c.self.view_is c.self.invariant in
    let new : c.drop-drain.new.self.0.items ≡ filter (λ n. not (n == h)) ns =
    c.drop-drain.ensures.items ∙ (c.drain.ensures.kept ∙ (rest_of c.self.inside.numbers.items ns h _ _ c.self.view_is c.first_from-from.ensures.value c.last_to-to.ensures ∙ dropped h 0 ns up)) in
    rw new (ascends_filter (λ n. not (n == h)) 0 ns up)

pub returns : goal.returns
returns c =
    let ns = c.args.self.now in
    let h = c.args.holder in
    let up : AscendsFrom 0 ns = subst (AscendsFrom 0) c.self.view_is c.self.invariant in
    c.drop-drain.ensures.items ∙ (c.drain.ensures.kept ∙ (rest_of c.self.inside.numbers.items ns h _ _ c.self.view_is c.first_from-from.ensures.value c.last_to-to.ensures ∙ dropped h 0 ns up))
