use Rattle.std.proofs.Common.{inl, inr, arith}
use Rattle.std.proofs.lemmas.List.{length-map}
use Rattle.instance_table.specs.Nodes.{entry_row, rows_in}
use Rattle.instance_table.proofs.WalkRooms.{links_few, reached_few}
use Rattle.instance_table.proofs.behind.see_behind.Goals as goal

pub unreachable-requires : goal.unreachable-requires
unreachable-requires g c =
    let rows = rows_in c.args.nodes.now in
    let few = reached_few c.args.schema.now rows c.args.tag c.args.from c.requires.sound c.requires.live in
    let links = links_few c.args.schema.now c.args.tag rows in
    let all = length-map c.args.nodes.now entry_row in
    elim c.in-Err.ensures.lacks [
      | inl less ↦ omega (arith, less, few, all, c.requires.rows)
      | inr less ↦ omega (arith, less, links, c.requires.places)
    ]
