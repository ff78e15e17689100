use Rattle.lists.proofs.RisingLaws.{RisesFrom-take}
use Rattle.lists.proofs.rising.Rising.pop.Goals as goal

pub invariant_of-self : goal.invariant_of-self
invariant_of-self g c = rw c.pop.ensures.rest (RisesFrom-take g.T.Keyed.key 0 _ _ c.self.invariant)
