use Rattle.std.proofs.Common.{◌++◌, ap, sym, subst, ◌∙◌}
use Rattle.lists.specs.Rising.{RisesFrom}
use Rattle.trees.proofs.TreeLaws.{values_same, next_above}
use Rattle.trees.proofs.tree.Tree.into_rising.Goals as goal

pub loop-item-init : goal.loop-item-init
loop-item-init g c =
    let es = c.self.inside.entries.entries in
    let all = c.into_iter-item-iterator.ensures.into_iter_gives ∙ (c.into_values-item-items.ensures.rest ∙ values_same es) in
    (sym c.self.view_is ∙ (sym all ∙ ap (λ l. l ++ c.into_iter-item-iterator.result) (sym c.new-out.ensures)), subst (RisesFrom g.T.Keyed.key 0) c.self.view_is c.self.invariant.1)

pub push-requires : goal.push-requires
push-requires g c =
    next_above g.T.Keyed.key c.args.self c.loop-item.out c.loop-item.item-iterator c.in-Some.item c.next.new.self c.loop-item.invariant.1 c.loop-item.invariant.0 c.in-Some.ensures.steps
