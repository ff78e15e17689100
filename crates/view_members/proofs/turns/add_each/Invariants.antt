use Rattle.std.proofs.Common.{◌≡◌, drop}
use Rattle.view_members.specs.Standings.{add_all}
use Rattle.view_members.proofs.turns.add_each.Given as goal

abbrev pub invariant-loop-pair : goal.invariant-loop-pair
invariant-loop-pair l = add_all l.pairs l.initial.sets ≡ add_all (drop l.pair-index l.pairs) l.sets
