use Rattle.std.proofs.Common.{◌==◌, ℕ, List, filter, not}
use Rattle.instance_table.specs.declared.node.Node.{Node}
use Rattle.instance_table.proofs.GraphLaws.{room_kept, room_more, room_woken}
use Rattle.instance_table.proofs.graph.Graph.let_go_all.Goals as goal

pub add-requires : goal.add-requires
add-requires c =
    let left : Node → List ℕ = λ n. filter (λ m. not (m == c.args.holder)) n.holders in
    room_more left c.self.inside.nodes c.args.who c.self.inside.loose.numbers c.self.inside.loose.room c.if-let_go_all.ensures.value c.self.invariant

pub invariant_of-self : goal.invariant_of-self
invariant_of-self c =
    let left : Node → List ℕ = λ n. filter (λ m. not (m == c.args.holder)) n.holders in
    room_woken left c.self.inside.nodes c.let_go_all.new.self c.args.who c.self.inside.loose.numbers _ c.self.inside.loose.room _ c.let_go_all.ensures.rises c.if-let_go_all.ensures.value
    c.let_go_all.ensures.after c.add.ensures.numbers c.add.ensures.kept c.self.invariant

pub invariant_of-self-else-let_go_all : goal.invariant_of-self-else-let_go_all
invariant_of-self-else-let_go_all c =
    let left : Node → List ℕ = λ n. filter (λ m. not (m == c.args.holder)) n.holders in
    room_kept left c.self.inside.nodes c.let_go_all.new.self c.args.who c.self.inside.loose.numbers c.self.inside.loose.room c.let_go_all.ensures.rises c.if-let_go_all.ensures.value c.let_go_all.ensures.after c.self.invariant
