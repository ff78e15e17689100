use Rattle.std.proofs.Common.{◌∙◌, ap}
use Rattle.lists.specs.Rising.{remove}
use Rattle.lists.proofs.RisingLaws.{RisesFrom-remove}
use Rattle.plain_rows.proofs.NumberSets.{remove_number}
use Rattle.plain_rows.proofs.number_set.NumberSet.remove.Goals as goal

pub invariant_of-self : goal.invariant_of-self
invariant_of-self c =
    rw (c.remove.ensures.keys, remove_number 0 c.self.inside.numbers.keys c.number.inside.0 c.self.invariant) (RisesFrom-remove (λ n. n) 0 c.number.inside.0 c.self.inside.numbers.keys c.self.invariant)

pub returns-clause-rest : goal.returns-clause-rest
returns-clause-rest c = c.remove.ensures.keys ∙ remove_number 0 c.self.inside.numbers.keys c.number.inside.0 c.self.invariant ∙ ap (λ ns. remove (λ n. n) c.number.inside.0 ns) c.self.view_is
    ∙ ap (λ k. remove (λ n. n) k c.args.self.now) c.number.view_is
