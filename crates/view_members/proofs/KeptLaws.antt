-- The pairs of a view rise, and those now are among those kept.
use Rattle.std.proofs.Common.{◌≡◌, ℕ, Bool, true, List, [], ◌∷◌, refl, arith}
use Rattle.std.specs.List.{list_any}
use Rattle.lists.specs.Rising.{RisesFrom}
use Rattle.schema_model.specs.declared.place.Pair.{Pair}
use Rattle.state_model.specs.Members.{pair_rank}
use Rattle.view_members.specs.declared.standing.Standing.{Standing}
use Rattle.view_members.specs.declared.standing.Standing.TheVariants.{Stays, Came, Left, Passed, Spare}
use Rattle.view_members.specs.Sets.{AreKept}
use Rattle.view_members.specs.Standings.{entry_rank, is_kept, is_last, is_now, members_of, pairs_of, ranks_of}
use Rattle.view_members.proofs.PairLists.{pairs_rise}
use Rattle.view_members.proofs.RankLists.{ranks_rise}

now_kept : (s : Standing) → is_now s ≡ true → is_kept s ≡ true
now_kept Stays h = refl
now_kept Came h = refl
now_kept Left h = refl
now_kept Passed h = cc
now_kept Spare h = cc

now_within : (q : Pair → Bool) (es : List (ℕ × Standing)) → list_any q (pairs_of is_now es) ≡ true → list_any q (pairs_of is_kept es) ≡ true
now_within q [] m = m
now_within q (e ∷ es) m = grind (arith, now_kept (e.1), now_within q es)

rise : (t : Standing → Bool) (es : List (ℕ × Standing)) → RisesFrom entry_rank 0 es → RisesFrom pair_rank 0 (pairs_of t es)
rise t es r = pairs_rise 0 (ranks_of t es) (ranks_rise t 0 es r)

pub are_kept : (es : List (ℕ × Standing)) → RisesFrom entry_rank 0 es → AreKept (members_of es)
are_kept es r = record {
  now = rise is_now es r;
  last = rise is_last es r;
  kept = rise is_kept es r;
  within = λ who tag h. now_within _ es h;
}
