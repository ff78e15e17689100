use Rattle.std.proofs.Common.{◌≡◌, ◌++◌}
use Rattle.lists.specs.Rising.{RisesFrom}
use Rattle.trees.proofs.tree.Tree.into_rising.Given as goal

-- what was moved and what is left, of items that rise
abbrev pub invariant-loop-item : goal.invariant-loop-item
invariant-loop-item g l = (l.fn.self ≡ l.out ++ l.item-iterator) × RisesFrom g.T.Keyed.key 0 l.fn.self
