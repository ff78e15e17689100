use Rattle.std.proofs.Common.{ℕ, List}
use Rattle.instance_table.specs.Holders.{without_one}
use Rattle.instance_table.specs.declared.node.Node.{Node}
use Rattle.instance_table.proofs.GraphLaws.{room_kept, room_more, room_woken}
use Rattle.instance_table.proofs.graph.Graph.let_go.Goals as goal

pub add-requires : goal.add-requires
add-requires c =
    let left : Node → List ℕ = λ n. without_one c.args.holder n.holders in
    room_more left c.self.inside.nodes c.args.who c.self.inside.loose.numbers c.self.inside.loose.room c.if-let_go.ensures.value c.self.invariant

pub invariant_of-self : goal.invariant_of-self
invariant_of-self c =
    let left : Node → List ℕ = λ n. without_one c.args.holder n.holders in
    room_woken left c.self.inside.nodes c.let_go.new.self c.args.who c.self.inside.loose.numbers _ c.self.inside.loose.room _ c.let_go.ensures.rises c.if-let_go.ensures.value
    c.let_go.ensures.after c.add.ensures.numbers c.add.ensures.kept c.self.invariant

pub invariant_of-self-else-let_go : goal.invariant_of-self-else-let_go
invariant_of-self-else-let_go c =
    let left : Node → List ℕ = λ n. without_one c.args.holder n.holders in
    room_kept left c.self.inside.nodes c.let_go.new.self c.args.who c.self.inside.loose.numbers c.self.inside.loose.room c.let_go.ensures.rises c.if-let_go.ensures.value c.let_go.ensures.after c.self.invariant
