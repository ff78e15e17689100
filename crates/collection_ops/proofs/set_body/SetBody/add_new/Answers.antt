use Rattle.std.proofs.Common.{◌≡◌, true, false, refl, subst, arith}
use Rattle.std.specs.Bool.{nat_lt}
use Rattle.std.proofs.lemmas.Bool.Decides.{nat_tests}
use Rattle.state_model.specs.declared.row.SetItem.{SetItem}
use Rattle.collection_ops.specs.Indexes.{IsWithoutValue}
use Rattle.collection_ops.proofs.SetIndex.{kept_index, undone_index}
use Rattle.collection_ops.proofs.SetLaws.{AfterAdd, add_spent, added}
use Rattle.collection_ops.proofs.set_body.SetBody.add_new.Goals as goal

pub returns-then-self-gt-LAST_NUMBER : goal.returns-then-self-gt-LAST_NUMBER
returns-then-self-gt-LAST_NUMBER c =
    let none = rw (← c.self.view_is) at c.requires in
    let spent : nat_lt 2147483647 c.self.inside.given ≡ true = grind (arith, nat_tests, c.if-self-gt-LAST_NUMBER.true) in
    (rw (← c.self.view_is) (add_spent (record { items = c.self.inside.items; given = c.self.inside.given }) c.args.value none spent), refl)

pub invariant_of-self : goal.invariant_of-self
invariant_of-self c = (c.self.invariant.0, kept_index c.self.inside.items c.self.inside.index c.self.invariant.1 c.put.new.self c.in_err-put.ensures.err)

-- what the new item leaves
done : (c : goal.After-self-1) → AfterAdd (record { items = c.self.inside.items; given = c.self.inside.given }) c.args.value c.put.new.self
done c =
    let none = rw (← c.self.view_is) at c.requires in
    let left : nat_lt 2147483647 c.self.inside.given ≡ false = grind (arith, nat_tests, c.if-self-gt-LAST_NUMBER.false) in
    added (record { items = c.self.inside.items; given = c.self.inside.given }) c.args.value c.self.inside.index c.put.new.self c.self.invariant.0 c.self.invariant.1 none left c.in_ok-put.ensures.ok

pub invariant_of-self-in-Ok : goal.invariant_of-self-in-Ok
invariant_of-self-in-Ok c = rw c.in-Ok.ensures.items ((done c).0, (done c).1)

pub returns-in-Ok : goal.returns-in-Ok
returns-in-Ok c = rw (← c.self.view_is, c.in-Ok.ensures.items) (done c).2

pub invariant_of-self-in-Err : goal.invariant_of-self-in-Err
invariant_of-self-in-Err c =
    let none = rw (← c.self.view_is) at c.requires in
    let less : IsWithoutValue c.put.new.self c.take_back.new.index c.args.value c.self.inside.given =
    subst (λ (i : SetItem). IsWithoutValue c.put.new.self c.take_back.new.index i.value i.number) c.in-Err.ensures.err c.take_back.ensures in
    rw c.in-Err.ensures.items (
      c.self.invariant.0,
      undone_index c.self.inside.items c.self.inside.index c.self.invariant.1 c.put.new.self c.take_back.new.index c.args.value
          c.self.inside.given c.self.invariant.0.below none c.in_ok-put.ensures.ok less,
    )
