use Rattle.trees.proofs.TreeLaws.{first_out}
use Rattle.trees.proofs.tree.Tree.pop_first.Goals as goal

pub invariant_of-self-2 : goal.invariant_of-self-2
invariant_of-self-2 g c = first_out g.T.Keyed.key c.self.inside.entries.entries (c.in_ok-item.field-0-0, c.in_ok-item.item) c.pop_first.new.self.entries c.in_ok-item.ensures.removal c.self.invariant.0 c.self.invariant.1
