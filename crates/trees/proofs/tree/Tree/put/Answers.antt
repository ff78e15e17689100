use Rattle.std.proofs.Common.{◌∙◌, sym, zero-le, Result, Ok, Err, OnErr}
use Rattle.lists.proofs.RisingLaws.{RisesFrom-put}
use Rattle.trees.proofs.TreeLaws.{find_entry, values-insert, IsKeyed-insert}
use Rattle.trees.proofs.tree.Tree.put.Goals as goal

on_err : {T E P : Type 0} (r : Result T E) → P → OnErr r P
on_err (Ok x) p = tt
on_err (Err e) p = p

pub invariant_of-self-2 : goal.invariant_of-self-2
invariant_of-self-2 g c =
    let key = g.T.Keyed.key in
    let es = c.self.inside.entries.entries in
    let made = rw c.key.ensures at c.in_ok-old.ensures.entries in
    rw (made, values-insert key c.args.item es c.self.invariant.0)
    (IsKeyed-insert key c.args.item es c.self.invariant.0, RisesFrom-put key 0 c.args.item _ c.self.invariant.1 zero-le)

pub returns-clause-replaced : goal.returns-clause-replaced
returns-clause-replaced g c =
    rw (← c.self.view_is, ← c.key.ensures) (c.in_ok-old.ensures.old ∙ find_entry g.T.Keyed.key c.key.result c.self.inside.entries.entries c.self.invariant.0)

pub returns-clause-ok : goal.returns-clause-ok
returns-clause-ok g c =
    let made = rw c.key.ensures at c.in_ok-old.ensures.entries in
    rw (← c.self.view_is, made) (values-insert g.T.Keyed.key c.args.item c.self.inside.entries.entries c.self.invariant.0)

pub returns-clause-rises : goal.returns-clause-rises
returns-clause-rises g c = rw (← c.self.view_is) c.self.invariant.1

pub returns-in_err-old-clause-absent : goal.returns-in_err-old-clause-absent
returns-in_err-old-clause-absent g c =
    let found = find_entry g.T.Keyed.key c.key.result c.self.inside.entries.entries c.self.invariant.0 in
    on_err c.from_residual.result (rw (← c.self.view_is, ← c.key.ensures) (sym found ∙ c.in_err-old.ensures.absent))
