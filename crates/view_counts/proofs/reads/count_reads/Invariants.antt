use Rattle.std.proofs.Common.{◌≡◌, ◌+◌}
use Rattle.view_counts.proofs.reads.count_reads.Given as goal

-- the reads so far
abbrev pub invariant-loop : goal.invariant-loop
invariant-loop g l = l.steps ≡ l.fn.steps + l.counter
