use Rattle.std.proofs.Common.{◌≡◌, [], sym, ap, append-nil, ◌∙◌}
use Rattle.state_model.specs.Reached.{is_among}
use Rattle.instance_table.proofs.GraphLaws.{room_rested}
use Rattle.instance_table.proofs.graph.Graph.next_loose.Goals as goal

pub invariant_of-self-2 : goal.invariant_of-self-2
invariant_of-self-2 c =
    room_rested c.self.inside.nodes c.rest.new.self c.in_ok-who.who c.self.inside.loose.numbers _ c.self.inside.loose.room _ c.rest.ensures.rises c.rest.ensures.after c.in_ok-who.ensures.numbers c.in_ok-who.ensures.kept c.self.invariant

pub returns-in_err-who-clause-none : goal.returns-in_err-who-clause-none
returns-in_err-who-clause-none c none who =
    let popped : c.pop.new.self.numbers ≡ [] = c.pop.ensures.none c.in_err-who.was in
    let empty : c.self.inside.loose.numbers ≡ [] = c.in_err-who.ensures.numbers ∙ (append-nil c.pop.new.self.numbers ∙ popped) in
    sym (c.self.invariant.0.listed who) ∙ ap (is_among who) empty
