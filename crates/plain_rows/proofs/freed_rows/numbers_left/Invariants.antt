use Rattle.std.proofs.Common.{◌+◌, length}
use Rattle.state_model.specs.Reached.{is_among}
use Rattle.plain_rows.specs.Links.{links_where}
use Rattle.plain_rows.proofs.Freeing.{Freeing}
use Rattle.plain_rows.proofs.freed_rows.numbers_left.Given as goal

abbrev pub invariant-loop-number : goal.invariant-loop-number
invariant-loop-number l = Freeing l.rows l.left l.waiting.items l.counts

abbrev pub decreases-loop-number : goal.decreases-loop-number
decreases-loop-number l = length l.waiting.items + links_where (λ k. is_among k l.left) l.rows
