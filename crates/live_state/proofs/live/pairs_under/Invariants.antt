use Rattle.std.proofs.Common.{◌≡◌, take}
use Rattle.live_state.specs.Live.{pairs_of}
use Rattle.live_state.proofs.live.pairs_under.Given as goal

-- the pairs of the numbers so far
abbrev pub invariant-loop-who : goal.invariant-loop-who
invariant-loop-who l = l.pairs.items ≡ pairs_of (take l.who-index l.numbers) l.fn.tag
