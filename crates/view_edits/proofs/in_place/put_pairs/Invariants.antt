use Rattle.std.proofs.Common.{◌≡◌, take}
use Rattle.live_state.specs.Live.{pairs_of}
use Rattle.view_edits.proofs.in_place.put_pairs.Given as goal

-- the first pairs are the numbers so far
abbrev pub invariant-loop-at : goal.invariant-loop-at
invariant-loop-at l = take l.at l.pairs ≡ pairs_of (take l.at l.numbers) l.fn.tag
