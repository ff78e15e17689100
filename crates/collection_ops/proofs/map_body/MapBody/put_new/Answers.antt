use Rattle.std.proofs.Common.{subst, arith}
use Rattle.state_model.specs.declared.row.MapItem.{MapItem}
use Rattle.trees.specs.Texts.{IsWith, IsWithout}
use Rattle.collection_ops.proofs.MapIndex.{kept_index, undone_index}
use Rattle.collection_ops.proofs.MapLaws.{AfterNew, put_new}
use Rattle.collection_ops.proofs.map_body.MapBody.put_new.Goals as goal

pub invariant_of-self : goal.invariant_of-self
invariant_of-self c = (c.self.invariant.0, kept_index c.self.inside.items c.self.inside.index c.self.invariant.1 c.put.new.self c.in_err-put.ensures.err)

-- what the new item leaves
done : (c : goal.After-self-1) → AfterNew (record { items = c.self.inside.items; given = c.self.inside.given }) c.args.key c.args.value c.put.new.self
done c =
    let absent = rw (← c.self.view_is) at c.requires in
    let more : IsWith c.self.inside.index c.put.new.self c.args.key c.self.inside.given = rw (← c.as_str-2.ensures) c.in_ok-put.ensures.ok in
    put_new (record { items = c.self.inside.items; given = c.self.inside.given }) c.args.key c.args.value c.self.inside.index c.put.new.self
    c.self.invariant.0 c.self.invariant.1 absent (omega (arith, c.if-self-gt-LAST_NUMBER.false)) more

pub invariant_of-self-in-Ok : goal.invariant_of-self-in-Ok
invariant_of-self-in-Ok c = rw c.in-Ok.ensures.items ((done c).0, (done c).1)

pub returns-in-Ok : goal.returns-in-Ok
returns-in-Ok c = rw (← c.self.view_is, c.in-Ok.ensures.items) (done c).2

pub invariant_of-self-in-Err : goal.invariant_of-self-in-Err
invariant_of-self-in-Err c =
    let absent = rw (← c.self.view_is) at c.requires in
    let more : IsWith c.self.inside.index c.put.new.self c.args.key c.self.inside.given = rw (← c.as_str-2.ensures) c.in_ok-put.ensures.ok in
    let less : IsWithout c.put.new.self c.take_back.new.index c.args.key c.self.inside.given =
    subst (λ (i : MapItem). IsWithout c.put.new.self c.take_back.new.index i.key i.number) c.in-Err.ensures.err c.take_back.ensures in
    rw c.in-Err.ensures.items (c.self.invariant.0, undone_index c.self.inside.items c.self.inside.index c.self.invariant.1 c.put.new.self c.take_back.new.index c.args.key c.self.inside.given c.self.invariant.0.below absent more less)
