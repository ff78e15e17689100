use Rattle.lists.proofs.Places.{find_here, find_missing, remove_here}
use Rattle.lists.proofs.RisingLaws.{RisesFrom-remove, remove_missing}
use Rattle.lists.proofs.rising.Rising.remove.Goals as goal

pub invariant_of-self : goal.invariant_of-self
invariant_of-self g c =
    let here = rw c.as_slice.ensures.value at c.in-Ok.ensures.found in
    let edit = remove_here g.T.Keyed.key 0 c.args.key c.self.inside.items.items c.in-Ok.at c.remove.result c.self.invariant here.0 (here.1 c.remove.result) in
    rw (c.remove.ensures.items, ← edit) (RisesFrom-remove g.T.Keyed.key 0 c.args.key c.self.inside.items.items c.self.invariant)

pub returns-in-Ok-clause-found : goal.returns-in-Ok-clause-found
returns-in-Ok-clause-found g c =
    let here = rw c.as_slice.ensures.value at c.in-Ok.ensures.found in
    let found = find_here g.T.Keyed.key 0 c.args.key c.self.inside.items.items c.in-Ok.at c.remove.result c.self.invariant here.0 (here.1 c.remove.result) in
    cc

pub returns-in-Ok-clause-rest : goal.returns-in-Ok-clause-rest
returns-in-Ok-clause-rest g c =
    let here = rw c.as_slice.ensures.value at c.in-Ok.ensures.found in
    let edit = remove_here g.T.Keyed.key 0 c.args.key c.self.inside.items.items c.in-Ok.at c.remove.result c.self.invariant here.0 (here.1 c.remove.result) in
    rw (← c.self.view_is, edit) c.remove.ensures.items

pub returns-in-Err-clause-found : goal.returns-in-Err-clause-found
returns-in-Err-clause-found g c =
    let sides = rw c.as_slice.ensures.value at c.in-Err.ensures.missing in
    let missing = find_missing g.T.Keyed.key c.args.key c.self.inside.items.items c.in-Err.field-0 sides.1 sides.2 in
    cc

pub returns-in-Err-clause-rest : goal.returns-in-Err-clause-rest
returns-in-Err-clause-rest g c =
    let sides = rw c.as_slice.ensures.value at c.in-Err.ensures.missing in
    let missing = find_missing g.T.Keyed.key c.args.key c.self.inside.items.items c.in-Err.field-0 sides.1 sides.2 in
    let same = remove_missing g.T.Keyed.key c.args.key c.self.inside.items.items missing in
    rw (← c.self.view_is, same)
