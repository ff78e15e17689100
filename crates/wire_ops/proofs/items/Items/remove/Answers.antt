use Rattle.wire_ops.proofs.IndexLaws.{remove_from}
use Rattle.wire_ops.proofs.items.Items.remove.Goals as goal

pub invariant_of-self : goal.invariant_of-self
invariant_of-self c =
    rw c.remove-old.ensures.rest
    (remove_from c.self.inside.items c.self.inside.index c.forget_in.new.index c.args.number c.remove-old.result c.remove-old.ensures.found c.self.invariant c.forget_in.ensures)
