use Rattle.std.proofs.Common.{◌≡◌, map, false}
use Rattle.state_model.specs.Reached.{is_among}
use Rattle.plain_rows.proofs.Walks.{Walked}
use Rattle.instance_table.specs.Nodes.{rows_in}
use Rattle.instance_table.specs.Ways.{back_row, left_of}
use Rattle.instance_table.proofs.walk.meets.Given as goal

abbrev pub invariant-loop-holders : goal.invariant-loop-holders
invariant-loop-holders l = record {
  ahead : Walked (rows_in l.nodes) l.fn.from l.ahead l.links.items;
  unseen : is_among l.fn.to l.ahead ≡ false;
  back : Walked (map back_row l.nodes) l.fn.to l.back l.holders.items;
  unmet : is_among l.fn.from l.back ≡ false;
}

abbrev pub decreases-loop-holders : goal.decreases-loop-holders
decreases-loop-holders l = left_of (rows_in l.nodes) l.ahead l.links.items
