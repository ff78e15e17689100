use Rattle.std.proofs.Common.{◌∙◌, sym}
use Rattle.trees.proofs.TreeLaws.{length-values}
use Rattle.trees.proofs.tree.Tree.len.Goals as goal

pub returns : goal.returns
returns g c = rw (← c.self.view_is) (c.len.ensures.len ∙ sym (length-values c.self.inside.entries.entries))
