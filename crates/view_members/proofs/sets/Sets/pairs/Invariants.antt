use Rattle.std.proofs.Common.{◌≡◌, ◌++◌, ◌^◌}
use Rattle.lists.specs.Rising.{IsAbove}
use Rattle.view_members.specs.Standings.{entry_rank, pairs_of, is_now}
use Rattle.view_members.proofs.sets.Sets.pairs.Given as goal

abbrev pub invariant-loop-rank : goal.invariant-loop-rank
invariant-loop-rank l =
    (goal.iterator-loop-rank).can_next l.rank-iterator ×
    (goal.iterator-loop-rank).is_finite l.rank-iterator ×
    (l.out.items ++ pairs_of is_now l.rank-iterator ≡ pairs_of is_now l.fn.self) ×
    IsAbove entry_rank (2 ^ 48) l.rank-iterator
