use Rattle.std.proofs.Common.{sym, append-nil, arith}
use Rattle.instance_table.proofs.BehindLaws.{held_behind, places_found}
use Rattle.instance_table.proofs.behind.add_links_of.Goals as goal

pub returns-in-Some-clause-links : goal.returns-in-Some-clause-links
returns-in-Some-clause-links g c =
    let found = held_behind c.args.schema.now c.args.tag c.args.nodes.now c.args.who _ c.in-Some.ensures in
    rw found c.add_links_through.ensures.links

pub returns-in-Some-clause-cost : goal.returns-in-Some-clause-cost
returns-in-Some-clause-cost g c =
    let found = places_found c.args.nodes.now c.args.who _ c.in-Some.ensures in
    rw found c.add_links_through.ensures.cost

pub returns-in-None-clause-links : goal.returns-in-None-clause-links
returns-in-None-clause-links g c =
    let found = held_behind c.args.schema.now c.args.tag c.args.nodes.now c.args.who _ c.in-None.ensures in
    rw found (sym (append-nil (g.R.WalkRoom.waiting_in c.args.room.now)))

pub returns-in-None-clause-cost : goal.returns-in-None-clause-cost
returns-in-None-clause-cost g c = omega (arith, places_found c.args.nodes.now c.args.who _ c.in-None.ensures)

pub returns-in-Some-clause-most : goal.returns-in-Some-clause-most
returns-in-Some-clause-most g c =
    let found = places_found c.args.nodes.now c.args.who _ c.in-Some.ensures in
    rw found c.add_links_through.ensures.most

pub returns-in-None-clause-most : goal.returns-in-None-clause-most
returns-in-None-clause-most g c = omega (arith, places_found c.args.nodes.now c.args.who _ c.in-None.ensures)

pub returns-in-Some-clause-lacks : goal.returns-in-Some-clause-lacks
returns-in-Some-clause-lacks g c =
    let found = held_behind c.args.schema.now c.args.tag c.args.nodes.now c.args.who _ c.in-Some.ensures in
    rw found c.add_links_through.ensures.lacks
