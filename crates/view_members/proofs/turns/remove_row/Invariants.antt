use Rattle.std.proofs.Common.{◌≡◌, ℕ, ◌+◌, ◌-◌, ◌*◌, ◌<◌, ◌≤◌, false, length}
use Rattle.view_members.specs.Sets.{without_row}
use Rattle.view_members.specs.Standings.{is_now, is_spare, ranks_of, members_of}
use Rattle.view_members.proofs.RankLists.{has}
use Rattle.view_members.proofs.turns.remove_row.Given as goal

abbrev pub invariant-loop-rank : goal.invariant-loop-rank
invariant-loop-rank l = record {
  from : 65536 * l.fn.who ≤ l.from;
  end : l.end ≡ 65536 * l.fn.who + 65536;
  row : without_row l.fn.who (members_of l.initial.sets) ≡ without_row l.fn.who (members_of l.sets);
  behind : (k : ℕ) → 65536 * l.fn.who ≤ k → k < l.from → has is_now l.sets k ≡ false;
  spare : ranks_of is_spare l.sets ≡ ranks_of is_spare l.initial.sets;
  len : length l.sets ≡ length l.initial.sets;
}

abbrev pub decreases-loop-rank : goal.decreases-loop-rank
decreases-loop-rank l = l.end - l.from
