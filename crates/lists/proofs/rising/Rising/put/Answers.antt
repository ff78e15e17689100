use Rattle.std.proofs.Common.{◌∙◌, zero-le}
use Rattle.lists.proofs.Places.{find_here, put_here, find_missing, put_missing}
use Rattle.lists.proofs.Results.{on_err}
use Rattle.lists.proofs.RisingLaws.{RisesFrom-put}
use Rattle.lists.proofs.rising.Rising.put.Goals as goal

pub invariant_of-self : goal.invariant_of-self
invariant_of-self g c =
    let here = rw c.as_slice.ensures.value at c.in-Ok.ensures.found in
    let edit = put_here g.T.Keyed.key 0 c.args.item c.self.inside.items.items c.in-Ok.at c.args.item c.self.invariant here.0 (here.1 c.args.item ∙ c.key.ensures) in
    rw (c.replace.ensures.after, ← edit) (RisesFrom-put g.T.Keyed.key 0 c.args.item c.self.inside.items.items c.self.invariant zero-le)

pub invariant_of-self-in-Err : goal.invariant_of-self-in-Err
invariant_of-self-in-Err g c =
    let sides = rw (c.as_slice.ensures.value, c.key.ensures) at c.in-Err.ensures.missing in
    let edit = put_missing g.T.Keyed.key c.args.item c.self.inside.items.items c.in-Err.at sides.1 sides.2 in
    rw (c.in_ok-insert-in-Err.ensures.items, ← edit) (RisesFrom-put g.T.Keyed.key 0 c.args.item c.self.inside.items.items c.self.invariant zero-le)

pub returns-in-Ok-clause-replaced : goal.returns-in-Ok-clause-replaced
returns-in-Ok-clause-replaced g c =
    let here = rw c.as_slice.ensures.value at c.in-Ok.ensures.found in
    let found = find_here g.T.Keyed.key 0 c.key.result c.self.inside.items.items c.in-Ok.at c.replace.result c.self.invariant here.0 (here.1 c.replace.result) in
    cc

pub returns-in-Ok-clause-ok : goal.returns-in-Ok-clause-ok
returns-in-Ok-clause-ok g c =
    let here = rw c.as_slice.ensures.value at c.in-Ok.ensures.found in
    let edit = put_here g.T.Keyed.key 0 c.args.item c.self.inside.items.items c.in-Ok.at c.args.item c.self.invariant here.0 (here.1 c.args.item ∙ c.key.ensures) in
    cc

pub returns-in_ok-insert-in-Err-clause-replaced : goal.returns-in_ok-insert-in-Err-clause-replaced
returns-in_ok-insert-in-Err-clause-replaced g c =
    let sides = rw c.as_slice.ensures.value at c.in-Err.ensures.missing in
    let missing = find_missing g.T.Keyed.key c.key.result c.self.inside.items.items c.in-Err.at sides.1 sides.2 in
    cc

pub returns-in_ok-insert-in-Err-clause-ok : goal.returns-in_ok-insert-in-Err-clause-ok
returns-in_ok-insert-in-Err-clause-ok g c =
    let sides = rw (c.as_slice.ensures.value, c.key.ensures) at c.in-Err.ensures.missing in
    let edit = put_missing g.T.Keyed.key c.args.item c.self.inside.items.items c.in-Err.at sides.1 sides.2 in
    rw (← c.self.view_is, edit) c.in_ok-insert-in-Err.ensures.items

pub returns-in_err-insert-in-Err-clause-absent : goal.returns-in_err-insert-in-Err-clause-absent
returns-in_err-insert-in-Err-clause-absent g c =
    let sides = rw (c.as_slice.ensures.value, c.key.ensures) at c.in-Err.ensures.missing in
    let missing = find_missing g.T.Keyed.key (g.T.Keyed.key c.args.item) c.self.inside.items.items c.in-Err.at sides.1 sides.2 in
    on_err c.from_residual.result (rw c.self.view_is at missing)
