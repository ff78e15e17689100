use Rattle.std.proofs.Common.{◌≡◌, ◌-◌, ℕ, take}
use Rattle.state_laws.specs.Counts.{count_of}
use Rattle.plain_rows.specs.Counts.{counted}
use Rattle.plain_rows.proofs.holder_counts.HolderCounts.lower.Given as goal

abbrev pub invariant-loop-link : goal.invariant-loop-link
invariant-loop-link l = (k : ℕ) → counted l.self-inside.counts.entries k ≡ counted l.fn.self k - count_of k (take l.link-index l.links)
