use Rattle.std.proofs.Common.{zero-le, ◌∙◌, ap}
use Rattle.lists.proofs.RisingLaws.{RisesFrom-put}
use Rattle.state_model.specs.Reached.{with_number}
use Rattle.plain_rows.proofs.NumberSets.{put_number}
use Rattle.plain_rows.proofs.number_set.NumberSet.insert.Goals as goal

pub invariant_of-self-2 : goal.invariant_of-self-2
invariant_of-self-2 c =
    rw (c.in_ok-insert.ensures.keys, put_number c.self.inside.numbers.keys c.number.inside.0) (RisesFrom-put (λ n. n) 0 c.number.inside.0 c.self.inside.numbers.keys c.self.invariant zero-le)

pub returns-clause-numbers : goal.returns-clause-numbers
returns-clause-numbers c = c.in_ok-insert.ensures.keys ∙ put_number c.self.inside.numbers.keys c.number.inside.0 ∙ ap (λ ns. with_number ns c.number.inside.0) c.self.view_is ∙ ap (λ n. with_number c.args.self.now n) c.number.view_is
