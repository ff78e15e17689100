-- Ranks that rise at the place that a search answers.
use Rattle.std.proofs.Common.{◌≡◌, ℕ, suc, ◌<◌, ◌≤◌, List, ◌∷◌, ◌++◌, length, get_or, take, drop, None, Result, Err, HoldsAt, nat_cmp, Equal, sym}
use Rattle.std.specs.List.Sorted.{IsBinarySearchResult, IsSearchInRange}
use Rattle.lists.specs.Rising.{RisesFrom, IsAbove, find, put, remove}
use Rattle.lists.proofs.RisingLaws.{remove_missing, put_found}
use Rattle.lists.proofs.Places.{compares_in_order, is_equal, IsAbove-before, RisesFrom-after, remove_here, find_here, find_missing, put_missing}
use Rattle.view_members.specs.Standings.{itself}

-- what a search finds is taken out, or is there already
pub taken_at : (k : ℕ) (ns : List ℕ) (at : ℕ) → RisesFrom itself 0 ns → at < length ns → HoldsAt (λ y. nat_cmp y k ≡ Equal) ns at → take at ns ++ drop (suc at) ns ≡ remove itself k ns
taken_at k ns at r l h = sym (remove_here itself 0 k ns at 0 r l (is_equal (get_or ns at 0) k (h 0)))

pub there_at : (k : ℕ) (ns : List ℕ) (at : ℕ) → RisesFrom itself 0 ns → at < length ns → HoldsAt (λ y. nat_cmp y k ≡ Equal) ns at → put itself k ns ≡ ns
there_at k ns at r l h =
    let same = is_equal (get_or ns at 0) k (h 0) in
    put_found itself 0 k ns r (rw same at (find_here itself 0 k ns at 0 r l same))

-- what a search doesn't find stands neither before the place nor behind it
pub record Missing (k : ℕ) (ns : List ℕ) (at : ℕ) : Type 0 where
  pub bound : at ≤ length ns
  pub before : IsAbove itself k (take at ns)
  pub after : RisesFrom itself (suc k) (drop at ns)

pub missing_at : (k : ℕ) (ns : List ℕ) (r : Result ℕ ℕ) (at : ℕ) → r ≡ Err at → RisesFrom itself 0 ns → IsSearchInRange r (length ns) → IsBinarySearchResult (λ y. nat_cmp y k) ns r → Missing k ns at
missing_at k ns r at is rises range found =
    let b = rw is at range in
    let parts = (rw is at found) (compares_in_order itself 0 k ns rises) in
    record { bound = b; before = IsAbove-before itself k ns at b parts.0; after = RisesFrom-after itself 0 k ns at rises parts.1 }

pub none_at : (k : ℕ) (ns : List ℕ) (at : ℕ) → Missing k ns at → find itself k ns ≡ None
none_at k ns at m = find_missing itself k ns at m.before m.after

pub left_at : (k : ℕ) (ns : List ℕ) (at : ℕ) → Missing k ns at → ns ≡ remove itself k ns
left_at k ns at m = sym (remove_missing itself k ns (none_at k ns at m))

pub put_at : (k : ℕ) (ns : List ℕ) (at : ℕ) → Missing k ns at → take at ns ++ k ∷ drop at ns ≡ put itself k ns
put_at k ns at m = sym (put_missing itself k ns at m.before m.after)
