-- Rows of which some stay and the rest is freed.
use Rattle.std.proofs.Common.{◌≡◌, ℕ, true, false, cond, List, Some}
use Rattle.lists.specs.Rising.{RisesFrom}
use Rattle.state_model.specs.declared.row.Row.{Row}
use Rattle.state_model.specs.declared.row.RowEntry.{RowEntry}
use Rattle.state_model.specs.Rows.{number_of, row_at, is_live, held_in}
use Rattle.state_model.specs.Reached.{is_among, reached, HasNoCycle}

-- all is the rows that stay, and others beside them: those that stay hold each other and are reached from the root, the others
-- hold no cycle
pub record Joined (stay others all : List RowEntry) : Type 0 where
  pub stay_rise : RisesFrom number_of 0 stay
  pub others_rise : RisesFrom number_of 0 others
  pub all_rise : RisesFrom number_of 0 all
  pub rows : (n : ℕ) → row_at all n ≡ cond (is_live stay n) (row_at stay n) (row_at others n)
  pub root : is_live stay 0 ≡ true
  pub links : (n m : ℕ) (r : Row) → row_at stay n ≡ Some r → is_among m (held_in r) ≡ true → is_live stay m ≡ true
  pub reach : (n : ℕ) → is_live stay n ≡ true → is_among n (reached stay 0) ≡ true
  pub apart : (n : ℕ) → is_live others n ≡ true → is_live stay n ≡ false
  pub no_cycle : HasNoCycle others
