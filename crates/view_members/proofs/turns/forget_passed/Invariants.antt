use Rattle.std.proofs.Common.{◌≡◌, ◌≤◌, length}
use Rattle.view_members.specs.Standings.{is_now, is_spare, is_changed, is_passed, ranks_of}
use Rattle.view_members.proofs.turns.forget_passed.Given as goal

abbrev pub invariant-loop-rank : goal.invariant-loop-rank
invariant-loop-rank l = record {
  now : ranks_of is_now l.sets ≡ ranks_of is_now l.initial.sets;
  changed : ranks_of is_changed l.sets ≡ ranks_of is_changed l.initial.sets;
  spare : ranks_of is_spare l.sets ≡ ranks_of is_spare l.initial.sets;
  len : length l.sets ≤ length l.initial.sets;
}

abbrev pub decreases-loop-rank : goal.decreases-loop-rank
decreases-loop-rank l = length (ranks_of is_passed l.sets)
