use Rattle.std.proofs.Common.{◌∙◌}
use Rattle.trees.proofs.TreeLaws.{find_entry}
use Rattle.trees.proofs.tree.Tree.get.Goals as goal

pub returns : goal.returns
returns g c = rw (← c.self.view_is) (c.get.ensures.value ∙ find_entry g.T.Keyed.key c.args.key c.self.inside.entries.entries c.self.invariant.0)
