use Rattle.std.proofs.Common.{is_ok, refl}
use Rattle.instance_table.specs.Nodes.{held_more}
use Rattle.instance_table.proofs.GraphLaws.{room_same}
use Rattle.instance_table.proofs.graph.Graph.hold.Goals as goal

pub invariant_of-self : goal.invariant_of-self
invariant_of-self c =
    room_same (is_ok c.hold.result) c.args.who (held_more c.args.holder) c.self.inside.nodes c.hold.new.self c.self.inside.loose.numbers c.self.inside.loose.room (λ n. refl) c.hold.ensures.after c.hold.ensures.rises
    c.self.invariant
