use Rattle.std.proofs.Common.{IsPermutation, subst}
use Rattle.plain_rows.proofs.HeldRows.{freed_held_rows}
use Rattle.plain_rows.proofs.freed_rows.stay.Goals as goal

pub returns : goal.returns
returns c =
    let same = subst (λ ns. IsPermutation ns c.sort_unstable.new.self.items) c.in_ok-held.ensures c.sort_unstable.ensures.permutation in
    λ t. freed_held_rows c.args.rows.now c.sort_unstable.new.self.items same (rw c.as_slice.ensures.value at (c.are_held.ensures t))
