use Rattle.trees.proofs.TreeLaws.{moved}
use Rattle.trees.proofs.tree.Tree.from_rising.Goals as goal

pub loop-item-preserved-in_ok-put : goal.loop-item-preserved-in_ok-put
loop-item-preserved-in_ok-put g c =
    rw c.in_ok-put.ensures.ok
    (moved g.T.Keyed.key c.args.items c.loop-item.items c.pop.new.self c.in-Some.item c.loop-item.tree c.is_empty.ensures.rises c.loop-item.invariant c.in-Some.ensures.items)

pub loop-item-preserved : goal.loop-item-preserved
loop-item-preserved g c =
    rw c.in_ok-put.ensures.ok
    (moved g.T.Keyed.key c.args.items c.loop-item.items c.pop.new.self c.in-Some.item c.loop-item.tree c.is_empty.ensures.rises c.loop-item.invariant c.in-Some.ensures.items)
