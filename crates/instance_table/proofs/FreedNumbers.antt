-- The numbers that a sweep tells, put into order.
use Rattle.std.proofs.Common.{◌≡◌, ℕ, suc, ◌+◌, ◌<◌, Bool, true, false, cond, not, ◌&&◌, ◌==◌, List, [], ◌∷◌, filter, map, refl, sym, ap, ◌∙◌, arith}
use Rattle.std.specs.List.Sorted.{IsPermutation}
use Rattle.std.proofs.lemmas.Bool.Decides.{nat_tests}
use Rattle.std.proofs.lemmas.List.Sorted.{sum_by-IsPermutation}
use Rattle.lists.specs.Rising.{RisesFrom}
use Rattle.lists.proofs.RisingLaws.{RisesFrom-filter}
use Rattle.state_model.specs.declared.row.RowEntry.{RowEntry}
use Rattle.state_model.specs.Rows as state
use Rattle.state_model.specs.Reached.{freed}
use Rattle.state_laws.proofs.Numbers.{live_chosen}
use Rattle.command_laws.specs.Accounts.{count_of, one_if}
use Rattle.instance_table.specs.Holders.{AscendsFrom}
use Rattle.instance_table.specs.Table.{freed_numbers}
use Rattle.instance_table.proofs.HolderLaws.{AscendsFrom-lower}
use Rattle.instance_table.proofs.HolderCounts.{count_first, same_counts}

-- ---- the numbers that a sweep tells

-- the numbers of rows that rise do so
ascends_numbers : (low : ℕ) (rows : List RowEntry) → RisesFrom state.number_of low rows → AscendsFrom low (map (λ (e : RowEntry). e.who) rows)
ascends_numbers low [] r = tt
ascends_numbers low (e ∷ rows) r = (r.0, AscendsFrom-lower e.who (suc e.who) (map (λ (x : RowEntry). x.who) rows) (omega arith) (ascends_numbers (suc e.who) rows r.1))

-- a number below those of all rows has none
none_below : (k low : ℕ) (rows : List RowEntry) → RisesFrom state.number_of low rows → k < low → state.is_live rows k ≡ false
none_below k low [] r h = refl
none_below k low (e ∷ rows) r h = grind (arith, nat_tests, r.0, none_below k (suc e.who) rows r.1)

-- each number of rows that rise stands once among them
count_numbers : (k low : ℕ) (rows : List RowEntry) → RisesFrom state.number_of low rows → count_of k (map (λ (e : RowEntry). e.who) rows) ≡ one_if (state.is_live rows k)
count_numbers k low [] r = refl
count_numbers k low (e ∷ rows) r =
    let none = none_below k (suc e.who) rows r.1 in
    grind (arith, nat_tests, count_first k e.who (map (λ (x : RowEntry). x.who) rows), count_numbers k (suc e.who) rows r.1, none)

-- numbers that ascend, each as often as a sweep told it, are those that are freed
pub swept_numbers : (rows : List RowEntry) (gone sorted : List ℕ) → RisesFrom state.number_of 0 rows
    → ((k : ℕ) → count_of k gone + one_if (state.is_live (freed rows) k) ≡ one_if (state.is_live rows k)) → IsPermutation gone sorted → AscendsFrom 0 sorted
    → sorted ≡ freed_numbers rows
swept_numbers rows gone sorted rise told same ascends =
    let left : List RowEntry = filter (λ (e : RowEntry). not (state.is_live (freed rows) e.who)) rows in
    let rises : RisesFrom state.number_of 0 left = RisesFrom-filter state.number_of 0 (λ (e : RowEntry). not (state.is_live (freed rows) e.who)) rows rise in
    let counts : (k : ℕ) → count_of k sorted ≡ count_of k (freed_numbers rows) = λ k.
    let moved : count_of k sorted ≡ count_of k gone = sum_by-IsPermutation (λ m. cond (m == k) 1 0) gone sorted same in
    let numbers : count_of k (freed_numbers rows) ≡ one_if (state.is_live left k) = count_numbers k 0 left rises in
    let live : state.is_live left k ≡ (not (state.is_live (freed rows) k) && state.is_live rows k) = live_chosen (λ n. not (state.is_live (freed rows) n)) rows k in
    let law = told k in
    moved ∙ (least (count_of k gone) (state.is_live (freed rows) k) (state.is_live rows k) law ∙ sym (numbers ∙ ap one_if live)) in
    same_counts 0 0 sorted (freed_numbers rows) ascends (ascends_numbers 0 left rises) counts
  where
    least : (n : ℕ) (a b : Bool) → n + one_if a ≡ one_if b → n ≡ one_if (not a && b)
    least n true true h = omega (arith, h)
    least n true false h = omega (arith, h)
    least n false true h = omega (arith, h)
    least n false false h = omega (arith, h)
