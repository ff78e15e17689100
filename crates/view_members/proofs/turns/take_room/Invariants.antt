use Rattle.std.proofs.Common.{◌≡◌, ◌≤◌, drop, length}
use Rattle.view_members.specs.Standings.{AllFit, with_spares, without_spares}
use Rattle.view_members.proofs.turns.take_room.Given as goal

abbrev pub invariant-loop-pair : goal.invariant-loop-pair
invariant-loop-pair l = record {
  left : with_spares l.pairs l.initial.sets ≡ with_spares (drop l.pair-index l.pairs) l.sets;
  back : without_spares l.pairs l.sets ≡ l.initial.sets;
  few : length l.sets ≤ 65536;
  fit : AllFit (drop l.pair-index l.pairs) → AllFit l.pairs;
}
