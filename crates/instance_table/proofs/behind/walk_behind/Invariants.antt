use Rattle.std.proofs.Common.{◌≡◌, ◌+◌, ◌≤◌, true, not, length}
use Rattle.state_model.specs.Members.{rows_through}
use Rattle.state_model.specs.Reached.{is_among}
use Rattle.state_model.specs.Rows.{place_count, rows_of}
use Rattle.plain_rows.specs.Links.{links_where}
use Rattle.plain_rows.proofs.Walks.{Walked}
use Rattle.instance_table.specs.Nodes.{rows_in}
use Rattle.instance_table.proofs.behind.walk_behind.Given as goal

abbrev pub invariant-loop-who : goal.invariant-loop-who
invariant-loop-who g l =
    let thru = rows_through l.schema l.tag (rows_in l.nodes) in
    let seen = g.R.WalkRoom.seen_in l.room in
    let waiting = g.R.WalkRoom.waiting_in l.room in
    record {
      walked : Walked thru l.fn.from seen waiting;
      cost : l.steps ≡ l.initial.steps + place_count (rows_of seen (rows_in l.nodes));
      left : length waiting + links_where (λ k. not (is_among k seen)) thru ≤ 1 + links_where (λ k. true) thru;
    }

abbrev pub decreases-loop-who : goal.decreases-loop-who
decreases-loop-who g l =
    length (g.R.WalkRoom.waiting_in l.room) + links_where (λ k. not (is_among k (g.R.WalkRoom.seen_in l.room))) (rows_through l.schema l.tag (rows_in l.nodes))
