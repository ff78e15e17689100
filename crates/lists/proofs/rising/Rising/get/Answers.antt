use Rattle.lists.proofs.Places.{find_here, find_missing}
use Rattle.lists.proofs.rising.Rising.get.Goals as goal

pub returns-in-Ok : goal.returns-in-Ok
returns-in-Ok g c =
    let here = rw c.as_slice.ensures.value at c.in-Ok.ensures.found in
    let found = find_here g.T.Keyed.key 0 c.args.key c.self.inside.items.items c.in-Ok.at c.index.result.now c.self.invariant here.0 (here.1 c.index.result.now) in
    cc

pub returns-in-Err : goal.returns-in-Err
returns-in-Err g c =
    let sides = rw c.as_slice.ensures.value at c.in-Err.ensures.missing in
    let missing = find_missing g.T.Keyed.key c.args.key c.self.inside.items.items c.in-Err.field-0 sides.1 sides.2 in
    cc
