use Rattle.std.proofs.Common.{take}
use Rattle.canon_patch.specs.ByRef.{AreLinksOf}
use Rattle.canon_patch.proofs.by_ref.links_of.Given as goal

-- the links so far
abbrev pub invariant-loop-value : goal.invariant-loop-value
invariant-loop-value l = AreLinksOf (take l.value-index l.values) l.links
