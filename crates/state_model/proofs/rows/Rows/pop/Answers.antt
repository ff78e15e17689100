use Rattle.lists.proofs.RisingLaws.{RisesFrom-take}
use Rattle.state_model.specs.Rows.{number_of}
use Rattle.state_model.proofs.rows.Rows.pop.Goals as goal

pub invariant_of-self : goal.invariant_of-self
invariant_of-self c = rw c.pop.ensures.rest (RisesFrom-take number_of 0 _ _ c.self.invariant)
