use Rattle.std.proofs.Common.{◌∙◌}
use Rattle.lists.proofs.RisingLaws.{RisesFrom-remove}
use Rattle.trees.proofs.TreeLaws.{find_entry, values-remove, IsKeyed-remove}
use Rattle.trees.proofs.tree.Tree.remove.Goals as goal

pub invariant_of-self : goal.invariant_of-self
invariant_of-self g c =
    let key = g.T.Keyed.key in
    let es = c.self.inside.entries.entries in
    rw (c.remove.ensures.entries, values-remove key c.args.key 0 es c.self.invariant.0 c.self.invariant.1)
    (IsKeyed-remove key c.args.key es c.self.invariant.0, RisesFrom-remove key 0 c.args.key _ c.self.invariant.1)

pub returns-clause-found : goal.returns-clause-found
returns-clause-found g c = rw (← c.self.view_is) (c.remove.ensures.value ∙ find_entry g.T.Keyed.key c.args.key c.self.inside.entries.entries c.self.invariant.0)

pub returns-clause-rest : goal.returns-clause-rest
returns-clause-rest g c =
    rw (← c.self.view_is, c.remove.ensures.entries) (values-remove g.T.Keyed.key c.args.key 0 c.self.inside.entries.entries c.self.invariant.0 c.self.invariant.1)

pub returns-clause-rises : goal.returns-clause-rises
returns-clause-rises g c = rw (← c.self.view_is) c.self.invariant.1
