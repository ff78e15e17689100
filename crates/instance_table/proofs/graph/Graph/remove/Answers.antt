use Rattle.std.proofs.Common.{◌≡◌, false, ap, ◌∙◌, arith}
use Rattle.instance_table.specs.Graph.{GraphState, waits_at}
use Rattle.instance_table.proofs.GraphLaws.{room_removed}
use Rattle.instance_table.proofs.WaitingLaws.{waiting_within}
use Rattle.instance_table.proofs.graph.Graph.remove.Goals as goal

pub invariant_of-self : goal.invariant_of-self
invariant_of-self c =
    let rests : waits_at c.self.inside.nodes c.args.who ≡ false = ap (λ (g : GraphState). waits_at g.nodes c.args.who) c.self.view_is ∙ c.requires in
    room_removed c.args.who c.self.inside.nodes c.remove.new.self c.self.inside.loose.numbers c.self.inside.loose.room c.remove.ensures.rises rests c.remove.ensures.rest c.self.invariant

pub returns-clause-few : goal.returns-clause-few
returns-clause-few c =
    let left = invariant_of-self c in
    omega (arith, left.0.counted, waiting_within c.remove.new.self)
