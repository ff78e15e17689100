use Rattle.std.proofs.Common.{◌+◌, not, length}
use Rattle.state_model.specs.Reached.{is_among}
use Rattle.plain_rows.specs.Links.{links_where}
use Rattle.plain_rows.proofs.Walks.{Walked}
use Rattle.plain_rows.proofs.reached_rows.reached_set.Given as goal

abbrev pub invariant-loop-number : goal.invariant-loop-number
invariant-loop-number l = Walked l.rows l.fn.from l.seen l.waiting.items

abbrev pub decreases-loop-number : goal.decreases-loop-number
decreases-loop-number l = length l.waiting.items + links_where (λ k. not (is_among k l.seen)) l.rows
