use Rattle.std.proofs.Common.{◌≡◌, ◌+◌, suc, arith}
use Rattle.lists.proofs.Places.{above_here, drop_behind, rises_behind}
use Rattle.lists.proofs.RisingLaws.{IsAbove-higher}
use Rattle.lists.proofs.rising.place_behind.Goals as goal

pub returns-in-Ok-clause-after : goal.returns-in-Ok-clause-after
returns-in-Ok-clause-after g c =
    let key = g.T.Keyed.key in
    let items = c.args.items.now in
    let here = c.in-Ok.ensures.found in
    let next : c.in-Ok.at + 1 ≡ suc c.in-Ok.at = omega arith in
    drop_behind key 0 c.args.key items (c.in-Ok.at + 1) c.requires
    (rw next (above_here key 0 c.args.key items c.in-Ok.at c.requires here.0 here.1))
    (rw next (rises_behind key 0 c.args.key items c.in-Ok.at c.requires here.0 here.1))

pub returns-in-Err-clause-after : goal.returns-in-Err-clause-after
returns-in-Err-clause-after g c =
    let sides = c.in-Err.ensures.missing in
    drop_behind g.T.Keyed.key 0 c.args.key c.args.items.now c.in-Err.at c.requires (IsAbove-higher g.T.Keyed.key c.args.key (suc c.args.key) _ sides.1 (omega arith)) sides.2
