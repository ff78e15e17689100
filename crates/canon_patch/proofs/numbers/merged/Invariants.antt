use Rattle.std.proofs.Common.{◌≡◌, ◌+◌, ◌++◌, length, map}
use Rattle.lists.specs.Rising.{RisesFrom}
use Rattle.wire_model.specs.Patch.{either_number}
use Rattle.canon_patch.proofs.numbers.merged.Given as goal

-- the numbers so far, and those of what is left of both
abbrev pub invariant-loop-number : goal.invariant-loop-number
invariant-loop-number g l =
    (l.numbers.items ++ either_number (map g.T.Keyed.key l.left) (map g.T.Keyed.key l.right) ≡ either_number (map g.T.Keyed.key l.old) (map g.T.Keyed.key l.new))
    × RisesFrom g.T.Keyed.key 0 l.left × RisesFrom g.T.Keyed.key 0 l.right

abbrev pub decreases-loop-number : goal.decreases-loop-number
decreases-loop-number g l = length l.left + length l.right
