-- The counts of item numbers after one was put: they rise, and which maps and sets have one.
use Rattle.std.proofs.Common.{◌≡◌, ℕ, ◌≤◌, Bool, true, false, cond, ◌&&◌, ◌||◌, ◌==◌, List, Option, Some, is_some, refl, sym, ap, ◌∙◌, arith}
use Rattle.std.specs.Option.{option_map_or}
use Rattle.std.proofs.lemmas.Bool.Decides.{nat_tests}
use Rattle.lists.specs.Rising.{RisesFrom, find}
use Rattle.lists.proofs.RisingLaws.{find-put, RisesFrom-put}
use Rattle.state_model.specs.declared.row.Row.{Row}
use Rattle.state_model.specs.declared.row.RowEntry.{RowEntry}
use Rattle.state_model.specs.Rows.{row_at, put_row}
use Rattle.state_model.specs.State.{ItemCount}
use Rattle.state_model.specs.Commands.{counts_items, put_count}
use Rattle.command_laws.proofs.LinkedRows.{row_put}

-- whose count it is
abbrev pub who_of : ItemCount → ℕ
who_of c = c.who

-- the count of a row, 0 where it has none
abbrev pub count_at : List ItemCount → ℕ → ℕ
count_at counts n = option_map_or (λ (c : ItemCount). c.count) (find who_of n counts) 0

-- the counts, with this one where the test holds
abbrev pub counts_with : Bool → ℕ → ℕ → List ItemCount → List ItemCount
counts_with b who count counts = cond b (put_count who count counts) counts

abbrev item_count : ℕ → ℕ → ItemCount
item_count who count = record { who = who; count = count }

-- looking up
pub find_count : (b : Bool) (who count : ℕ) (counts : List ItemCount) (n : ℕ) → find who_of n (counts_with b who count counts) ≡ cond (b && who == n) (Some (item_count who count)) (find who_of n counts)
find_count true who count counts n = find-put who_of (item_count who count) counts n
find_count false who count counts n = refl

-- the counts rise
pub counts_with_rise : (b : Bool) (who count : ℕ) (counts : List ItemCount) → RisesFrom who_of 0 counts → RisesFrom who_of 0 (counts_with b who count counts)
counts_with_rise true who count counts r = RisesFrom-put who_of 0 (item_count who count) counts r (omega arith)
counts_with_rise false who count counts r = r

-- the count of a row is the one that was put, or as it was
pub count_after : (b : Bool) (who count : ℕ) (counts : List ItemCount) (n : ℕ) → count_at (counts_with b who count counts) n ≡ cond (b && who == n) count (count_at counts n)
count_after b who count counts n =
    ap (λ o. option_map_or (λ (c : ItemCount). c.count) o 0) (find_count b who count counts n) ∙ by_test (b && who == n)
  where
    by_test : (t : Bool) → option_map_or (λ (c : ItemCount). c.count) (cond t (Some (item_count who count)) (find who_of n counts)) 0 ≡ cond t count (count_at counts n)
    by_test true = refl
    by_test false = refl

-- no count is less than before where the one that was put isn't
pub count_no_less : (b : Bool) (who count : ℕ) (counts : List ItemCount) → count_at counts who ≤ count → (n : ℕ) → count_at counts n ≤ count_at (counts_with b who count counts) n
count_no_less b who count counts h n = rw (count_after b who count counts n) (by_test (b && who == n) (same b))
  where
    same : (b : Bool) → (b && who == n) ≡ true → who ≡ n
    same true t = grind (arith, nat_tests)
    same false t = cc

    by_test : (t : Bool) → (t ≡ true → who ≡ n) → count_at counts n ≤ cond t count (count_at counts n)
    by_test true e = let at : who ≡ n = e refl in rw (← at) h
    by_test false e = omega arith

-- a row has a count exactly where it is a map or a set, with the row and its count put
pub counted_after : (rows : List RowEntry) (b : Bool) (who count : ℕ) (counts : List ItemCount) (row : Row) → ((n : ℕ) → is_some (find who_of n counts) ≡ option_map_or counts_items (row_at rows n) false)
    → (b || option_map_or counts_items (row_at rows who) false) ≡ counts_items row
    → (n : ℕ) → is_some (find who_of n (counts_with b who count counts)) ≡ option_map_or counts_items (row_at (put_row who row rows) n) false
counted_after rows b who count counts row old own n =
    ap is_some (find_count b who count counts n) ∙ by_test (who == n) refl ∙ ap (λ o. option_map_or counts_items o false) (sym (row_put rows who row n))
  where
    at_who : (b : Bool) (o : Option ItemCount) → is_some (cond (b && true) (Some (item_count who count)) o) ≡ (b || is_some o)
    at_who true o = refl
    at_who false o = refl

    elsewhere : (b : Bool) (o : Option ItemCount) → is_some (cond (b && false) (Some (item_count who count)) o) ≡ is_some o
    elsewhere true o = refl
    elsewhere false o = refl

    by_test : (t : Bool) → who == n ≡ t → is_some (cond (b && t) (Some (item_count who count)) (find who_of n counts)) ≡ option_map_or counts_items (cond t (Some row) (row_at rows n)) false
    by_test true e =
        let same : who ≡ n = grind (arith, nat_tests) in
        at_who b (find who_of n counts) ∙ ap (λ c. b || c) (old n) ∙ ap (λ k. b || option_map_or counts_items (row_at rows k) false) (sym same) ∙ own
    by_test false e = elsewhere b (find who_of n counts) ∙ old n
