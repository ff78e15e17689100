use Rattle.std.proofs.Common.{◌≡◌, drop}
use Rattle.view_members.specs.Standings.{AllFit, without_spares}
use Rattle.view_members.proofs.turns.drop_spares.Given as goal

abbrev pub invariant-loop-pair : goal.invariant-loop-pair
invariant-loop-pair l = record {
  left : without_spares l.pairs l.initial.sets ≡ without_spares (drop l.pair-index l.pairs) l.sets;
  fit : AllFit (drop l.pair-index l.pairs) → AllFit l.pairs;
}
