-- Sweeping row by row: a row that nothing holds may go first, and when none is left the rows are what freeing leaves.
use Rattle.std.proofs.Common.{◌≡◌, ℕ, zero, suc, ◌+◌, Bool, true, false, cond, not, ◌||◌, ◌==◌, List, length, Option, Some, None, is_some, filter, refl, sym, ap, ◌∙◌, arith, inl, inr}
use Rattle.std.specs.List.{sum_by}
use Rattle.std.specs.Option.{option_map_or}
use Rattle.std.proofs.lemmas.Bool.Decides.{nat_tests}
use Rattle.lists.specs.Rising as rising
use Rattle.lists.proofs.RisingLaws.{RisesFrom-filter, RisesFrom-remove, same_rising}
use Rattle.state_model.specs.declared.row.Row.{Row}
use Rattle.state_model.specs.declared.row.RowEntry.{RowEntry}
use Rattle.state_model.specs.Rows.{number_of, row_at, is_live, held_in}
use Rattle.state_model.specs.Reached.{times, is_among, all_held, swept_once, freed}
use Rattle.state_laws.proofs.Numbers.{live_row, live_at, found_same, row_chosen, held_by_row, holder_row}
pub use Rattle.state_laws.proofs.Counts.{count_among}
use Rattle.state_laws.proofs.FreedLaw.{freed_rises, swept_keeps}
use Rattle.state_laws.proofs.FreedParts.{freed_within, freed_held}
use Rattle.command_laws.specs.Accounts.{count_of, count_held}
use Rattle.command_laws.proofs.ListSums.{sum_by-flat_map}
use Rattle.command_laws.proofs.RowSums.{removed_row_sum}

-- ---- rows within rows

-- each row of the first stands in the second, as it is
abbrev pub IsWithin : List RowEntry → List RowEntry → Type 0
IsWithin some rows = (n : ℕ) (r : Row) → row_at some n ≡ Some r → row_at rows n ≡ Some r

-- each row but 0 is held
abbrev pub AreHeld : List RowEntry → Type 0
AreHeld rows = (n : ℕ) (r : Row) → row_at rows n ≡ Some r → (n == 0 || is_among n (all_held rows)) ≡ true

-- rows that rise and have the same row at each number are the same
pub same_rows : (xs ys : List RowEntry) → rising.RisesFrom number_of 0 xs → rising.RisesFrom number_of 0 ys → ((n : ℕ) → row_at xs n ≡ row_at ys n) → xs ≡ ys
same_rows xs ys r s h = same_rising number_of 0 0 xs ys r s (λ n. found_same xs ys n (h n))

-- rows that rise and stand in each other are the same
within_both : (xs ys : List RowEntry) → rising.RisesFrom number_of 0 xs → rising.RisesFrom number_of 0 ys → IsWithin xs ys → IsWithin ys xs → xs ≡ ys
within_both xs ys r s there back = same_rows xs ys r s (λ n. same_at n (row_at xs n) refl (row_at ys n) refl)
  where
    same_at : (n : ℕ) (a : Option Row) → row_at xs n ≡ a → (b : Option Row) → row_at ys n ≡ b → row_at xs n ≡ row_at ys n
    same_at n (Some q) t b u = t ∙ sym (there n q t)
    same_at n None t (Some q) u = back n q u ∙ sym u
    same_at n None t None u = t ∙ sym u

-- what is held in rows is held in those that have them
held_wider : (some rows : List RowEntry) (n : ℕ) → rising.RisesFrom number_of 0 some → IsWithin some rows → (n == 0 || is_among n (all_held some)) ≡ true → (n == 0 || is_among n (all_held rows)) ≡ true
held_wider some rows n rise within h =
    let go : (b : Bool) → is_among n (all_held some) ≡ b → (n == 0 || is_among n (all_held rows)) ≡ true = elim [
      | true ↦ λ t.
          let holder = holder_row some n rise t in
          let held : is_among n (all_held rows) ≡ true = held_by_row rows holder.0 n holder.1 (within holder.0 holder.1 holder.2) holder.3 in
          grind (arith, nat_tests)
      | false ↦ λ f. grind (arith, nat_tests)
    ] in
    go (is_among n (all_held some)) refl

rounds_most : (k : ℕ) (some now : List RowEntry) → rising.RisesFrom number_of 0 some → AreHeld some → IsWithin some now → IsWithin some (times k swept_once now)
rounds_most zero some now rise held within = within
rounds_most (suc k) some now rise held within =
    rounds_most k some (swept_once now) rise held (λ n r s. swept_keeps now n r (within n r s) (held_wider some now n rise within (held n r s)))

-- rows among others of which each but 0 is held are left
pub freed_most : (some rows : List RowEntry) → rising.RisesFrom number_of 0 some → AreHeld some → IsWithin some rows → IsWithin some (freed rows)
freed_most some rows rise held within = rounds_most (length rows) some rows rise held within

-- each row that is left but 0 is held by one that is left
freed_are_held : (rows : List RowEntry) → rising.RisesFrom number_of 0 rows → AreHeld (freed rows)
freed_are_held rows rise n r s =
    elim (freed_held rows n r rise s) [
      | inl same ↦ grind (arith, nat_tests)
      | inr h ↦ let held : is_among n (all_held (freed rows)) ≡ true = held_by_row (freed rows) h.0 n h.1 h.2 h.3 in grind (arith, nat_tests)
    ]

-- ---- one row taken out

-- the row at a number without the row of another
row_without : (rows : List RowEntry) (n a : ℕ) → row_at (rising.remove number_of n rows) a ≡ cond (not (a == n)) (row_at rows a) None
row_without rows n a = row_chosen (λ k. not (k == n)) rows a

without_within : (rows : List RowEntry) (n : ℕ) → IsWithin (rising.remove number_of n rows) rows
without_within rows n a r s = grind (arith, nat_tests, row_without rows n a)

-- a row other than 0 that no row holds isn't left
unheld_differs : (rows : List RowEntry) (n : ℕ) → rising.RisesFrom number_of 0 rows → (n == 0) ≡ false → is_among n (all_held rows) ≡ false → (a : ℕ) (r : Row) → row_at (freed rows) a ≡ Some r → (a == n) ≡ false
unheld_differs rows n rise other none a r s =
    let held = held_wider (freed rows) rows a (freed_rises rows rise) (λ b q t. freed_within rows b q rise t) (freed_are_held rows rise a r s) in
    let go : (b : Bool) → a == n ≡ b → (a == n) ≡ false = elim [
      | true ↦ λ t. let same : a ≡ n = grind (arith, nat_tests) in let also = rw same at held in grind (arith, nat_tests)
      | false ↦ λ f. f
    ] in
    go (a == n) refl

-- what is left stands in the rows without such a row
freed_without_it : (rows : List RowEntry) (n : ℕ) → rising.RisesFrom number_of 0 rows → (n == 0) ≡ false → is_among n (all_held rows) ≡ false → IsWithin (freed rows) (rising.remove number_of n rows)
freed_without_it rows n rise other none a r s =
    row_without rows n a ∙ ap (λ b. cond (not b) (row_at rows a) None) (unheld_differs rows n rise other none a r s) ∙ freed_within rows a r rise s

-- a row other than 0 that no row holds may go first
pub freed_without : (rows : List RowEntry) (n : ℕ) → rising.RisesFrom number_of 0 rows → (n == 0) ≡ false → is_among n (all_held rows) ≡ false → freed (rising.remove number_of n rows) ≡ freed rows
freed_without rows n rise other none =
    let rest = rising.remove number_of n rows in
    let rises : rising.RisesFrom number_of 0 rest = RisesFrom-remove number_of 0 n rows rise in
    within_both (freed rest) (freed rows) (freed_rises rest rises) (freed_rises rows rise)
    (freed_most (freed rest) rows (freed_rises rest rises) (freed_are_held rest rises) (λ a r s. without_within rows n a r (freed_within rest a r rises s)))
    (freed_most (freed rows) rest (freed_rises rows rise) (freed_are_held rows rise) (freed_without_it rows n rise other none))

-- where each row but 0 is held all are left
pub freed_settled : (rows : List RowEntry) → AreHeld rows → rising.RisesFrom number_of 0 rows → freed rows ≡ rows
freed_settled rows held rise =
    within_both (freed rows) rows (freed_rises rows rise) rise (λ n r s. freed_within rows n r rise s) (freed_most rows rows rise held (λ n r s. s))

-- ---- how often a number is held

-- how often rows hold a number, as a sum over the rows
count_held_sum : (k : ℕ) (rows : List RowEntry) → count_held k rows ≡ sum_by (λ (e : RowEntry). count_of k (held_in e.row)) rows
count_held_sum k rows = sum_by-flat_map (λ m. cond (m == k) 1 0) (λ (e : RowEntry). held_in e.row) rows

-- rows without one hold a number as often less as that row holds it
pub held_without : (rows : List RowEntry) (n k : ℕ) (r : Row) → rising.RisesFrom number_of 0 rows → row_at rows n ≡ Some r → count_held k (rising.remove number_of n rows) + count_of k (held_in r) ≡ count_held k rows
held_without rows n k r rise s =
    let weight : Row → ℕ = λ q. count_of k (held_in q) in
    let gone = removed_row_sum weight rows n rise in
    omega (arith, gone, ap (λ o. option_map_or weight o 0) s, count_held_sum k rows, count_held_sum k (rising.remove number_of n rows))

-- where rows hold a number nowhere, no row holds it
pub count_held_rows : (rows : List RowEntry) → rising.RisesFrom number_of 0 rows → (k : ℕ) → count_held k rows ≡ 0 → (a : ℕ) (r : Row) → row_at rows a ≡ Some r → count_of k (held_in r) ≡ 0
count_held_rows rows rise k none a r s = omega (arith, held_without rows a k r rise s)

-- where no row holds a number, rows hold it nowhere
pub count_held_none : (rows : List RowEntry) → rising.RisesFrom number_of 0 rows → (k : ℕ) → ((a : ℕ) (r : Row) → row_at rows a ≡ Some r → count_of k (held_in r) ≡ 0) → count_held k rows ≡ 0
count_held_none rows rise k none =
    let go : (b : Bool) → is_among k (all_held rows) ≡ b → count_held k rows ≡ 0 = elim [
      | true ↦ λ t.
          let holder = holder_row rows k rise t in
          grind (arith, nat_tests, count_among k (held_in holder.1), none holder.0 holder.1 holder.2, holder.3)
      | false ↦ λ f. grind (arith, nat_tests, count_among k (all_held rows))
    ] in
    go (is_among k (all_held rows)) refl

-- ---- the rows that are left, as a filter

-- the rows that are left are those of the rows whose numbers are left
pub freed_filter : (rows : List RowEntry) → rising.RisesFrom number_of 0 rows → freed rows ≡ filter (λ (e : RowEntry). is_live (freed rows) e.who) rows
freed_filter rows rise =
    same_rows (freed rows) (filter (λ (e : RowEntry). is_live (freed rows) e.who) rows) (freed_rises rows rise) (RisesFrom-filter number_of 0 (λ (e : RowEntry). is_live (freed rows) e.who) rows rise)
    (λ n. sym (row_chosen (is_live (freed rows)) rows n ∙ left_at n (row_at (freed rows) n) refl))
  where
    left_at : (n : ℕ) (o : Option Row) → row_at (freed rows) n ≡ o → cond (is_live (freed rows) n) (row_at rows n) None ≡ row_at (freed rows) n
    left_at n (Some r) s = ap (λ b. cond b (row_at rows n) None) (live_at (freed rows) n r s) ∙ freed_within rows n r rise s ∙ sym s
    left_at n None s =
        let gone : is_live (freed rows) n ≡ false = live_row (freed rows) n ∙ ap is_some s in
        ap (λ b. cond b (row_at rows n) None) gone ∙ sym s
