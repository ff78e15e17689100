use Rattle.collection_ops.proofs.SetLaws.{AfterRemove, taken_out}
use Rattle.collection_ops.proofs.set_body.SetBody.remove_at.Goals as goal

-- what is left
done : (c : goal.Joined-remove) → AfterRemove (record { items = c.self.inside.items; given = c.self.inside.given }) c.args.value.now c.remove-2.new.self c.remove.new.self c.args.number
done c =
    let led = rw (← c.self.view_is) at c.requires in
    taken_out (record { items = c.self.inside.items; given = c.self.inside.given }) c.args.value.now c.self.inside.index c.remove.new.self c.args.number c.remove-2.new.self
    c.self.invariant.0 c.self.invariant.1 led c.remove-2.ensures.rest c.remove.ensures

pub invariant_of-self : goal.invariant_of-self
invariant_of-self c = ((done c).0, (done c).1)

pub returns : goal.returns
returns c = rw (← c.self.view_is) (done c).2
