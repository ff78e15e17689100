use Rattle.std.proofs.Common.{is_ok, refl}
use Rattle.instance_table.specs.Changes.{edited_node}
use Rattle.instance_table.proofs.GraphLaws.{room_same}
use Rattle.instance_table.proofs.graph.Graph.edit.Goals as goal

pub invariant_of-self : goal.invariant_of-self
invariant_of-self c =
    room_same (is_ok c.edit.result) c.args.who (edited_node c.args.command.now) c.self.inside.nodes c.edit.new.self c.self.inside.loose.numbers c.self.inside.loose.room (λ n. refl) c.edit.ensures.after c.edit.ensures.rises
    c.self.invariant
