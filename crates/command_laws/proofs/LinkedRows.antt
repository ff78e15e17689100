-- Rows of which one was changed: no new cycle where it holds one link more, to a row that doesn't lead to it.
use Rattle.std.proofs.Common.{◌≡◌, ℕ, Bool, true, false, cond, ◌&&◌, ◌||◌, ◌==◌, List, Option, Some, is_some, refl, sym, ap, ◌∙◌, arith, ◌⊎◌, inl, inr}
use Rattle.std.specs.Option.{option_map}
use Rattle.std.proofs.lemmas.Bool.Decides.{nat_tests}
use Rattle.lists.specs.Rising.{RisesFrom, find}
use Rattle.lists.proofs.RisingLaws.{find-put}
use Rattle.state_model.specs.declared.row.Row.{Row}
use Rattle.state_model.specs.declared.row.RowEntry.{RowEntry}
use Rattle.state_model.specs.Rows.{number_of, row_at, is_live, held_in, put_row}
use Rattle.state_model.specs.Reached.{is_among, reached, HasNoCycle}
use Rattle.state_laws.proofs.Numbers.{live_row, entry}
use Rattle.state_laws.proofs.ReachedLaws.{reached_start, reached_least, reached_closed, reached_further, no_way_back, no_cycle_from}

-- rows with one put

map_test : {A B : Type 0} (f : A → B) (b : Bool) (a : A) (o : Option A) → option_map f (cond b (Some a) o) ≡ cond b (Some (f a)) (option_map f o)
map_test f true a o = refl
map_test f false a o = refl

-- at a number stands the row that was put there, or what stood there
pub row_put : (rows : List RowEntry) (who : ℕ) (row : Row) (n : ℕ) → row_at (put_row who row rows) n ≡ cond (who == n) (Some row) (row_at rows n)
row_put rows who row n =
    let value = λ (e : RowEntry). e.row in
    ap (option_map value) (find-put number_of (entry who row) rows n) ∙ map_test value (who == n) (entry who row) (find number_of n rows)

some_or : (b : Bool) (a : Row) (o : Option Row) → is_some (cond b (Some a) o) ≡ (b || is_some o)
some_or true a o = refl
some_or false a o = refl

-- which rows are there with one put
pub live_put : (rows : List RowEntry) (who : ℕ) (row : Row) (n : ℕ) → is_live (put_row who row rows) n ≡ (who == n || is_live rows n)
live_put rows who row n =
    live_row (put_row who row rows) n ∙ ap is_some (row_put rows who row n) ∙ some_or (who == n) row (row_at rows n) ∙ ap (λ b. who == n || b) (sym (live_row rows n))

either_row : (who n : ℕ) (row r : Row) (o : Option Row) → cond (who == n) (Some row) o ≡ Some r → ((who ≡ n) × (r ≡ row)) ⊎ (o ≡ Some r)
either_row who n row r o h = by_test (who == n) refl h
  where
    by_test : (b : Bool) → who == n ≡ b → cond b (Some row) o ≡ Some r → ((who ≡ n) × (r ≡ row)) ⊎ (o ≡ Some r)
    by_test true t h = inl (grind (arith, nat_tests), cc)
    by_test false t h = inr h

-- what stands at a number is the row that was put there, or stood there
pub put_from : (rows : List RowEntry) (who : ℕ) (row : Row) (n : ℕ) (r : Row) → row_at (put_row who row rows) n ≡ Some r → ((who ≡ n) × (r ≡ row)) ⊎ (row_at rows n ≡ Some r)
put_from rows who row n r h = either_row who n row r (row_at rows n) (sym (row_put rows who row n) ∙ h)

-- one link more

-- each link was there, or is the one from the holder to the linked row
abbrev pub HasOneMore : List RowEntry → List RowEntry → ℕ → ℕ → Type 0
HasOneMore rows more holder linked =
    (a b : ℕ) (r : Row) → row_at more a ≡ Some r → is_among b (held_in r) ≡ true
    → ((q : Row) × (row_at rows a ≡ Some q) × (is_among b (held_in q) ≡ true)) ⊎ ((a ≡ holder) × (b ≡ linked))

-- what is reached with the link is reached without it, or behind it from a row that reaches the holder
reached_more : (rows more : List RowEntry) (holder linked from m : ℕ) → RisesFrom number_of 0 rows → RisesFrom number_of 0 more → HasOneMore rows more holder linked → is_among m (reached more from) ≡ true
    → (is_among m (reached rows from) || (is_among holder (reached rows from) && is_among m (reached rows linked))) ≡ true
reached_more rows more holder linked from m rise rise_more one h =
    let keep = λ (n : ℕ). is_among n (reached rows from) || (is_among holder (reached rows from) && is_among n (reached rows linked)) in
    reached_least more from keep rise_more (ap (λ b. b || (is_among holder (reached rows from) && is_among from (reached rows linked))) (reached_start rows from)) (λ a b r k s t. elim (one a b r s t) [
      | inl old ↦ grind (arith, nat_tests, reached_closed rows from a b old.0 rise, reached_closed rows linked a b old.0 rise, old.1, old.2)
      | inr new ↦
          let kept : (is_among holder (reached rows from) || (is_among holder (reached rows from) && is_among holder (reached rows linked))) ≡ true = ap keep (sym new.0) ∙ k in
          let there : is_among b (reached rows linked) ≡ true = ap (λ n. is_among n (reached rows linked)) new.1 ∙ reached_start rows linked in
          grind (arith, nat_tests)
    ]) m h

-- a link to a row that doesn't lead to its holder makes no cycle
pub no_cycle_linked : (rows more : List RowEntry) (holder linked : ℕ) → RisesFrom number_of 0 rows → RisesFrom number_of 0 more → HasOneMore rows more holder linked → is_among holder (reached rows linked) ≡ false → HasNoCycle rows → HasNoCycle more
no_cycle_linked rows more holder linked rise rise_more one apart none =
    no_cycle_from more rise_more (λ a b r s t. by_test a b r s t (is_among a (reached more b)) refl)
  where
    behind : (a b : ℕ) → is_among b (reached rows a) ≡ true → is_among a (reached rows b) ≡ false → is_among a (reached more b) ≡ true → is_among holder (reached rows linked) ≡ true
    behind a b held way back =
        let kept = reached_more rows more holder linked b a rise rise_more one back in
        let two : (is_among holder (reached rows b) ≡ true) × (is_among a (reached rows linked) ≡ true) = (grind (arith, nat_tests), grind (arith, nat_tests)) in
        reached_further rows linked a holder rise two.1 (reached_further rows a b holder rise held two.0)

    back_again : (a b : ℕ) (r : Row) → row_at more a ≡ Some r → is_among b (held_in r) ≡ true → is_among a (reached more b) ≡ true → is_among holder (reached rows linked) ≡ true
    back_again a b r s t back = elim (one a b r s t) [
      | inl old ↦ behind a b (reached_closed rows a a b old.0 rise (reached_start rows a) old.1 old.2) (no_way_back rows a b old.0 none old.1 old.2) back
      | inr new ↦
          let kept = reached_more rows more holder linked linked holder rise rise_more one (ap (λ n. is_among holder (reached more n)) (sym new.1) ∙ ap (λ n. is_among n (reached more b)) (sym new.0) ∙ back) in
          grind (arith, nat_tests)
    ]

    by_test : (a b : ℕ) (r : Row) → row_at more a ≡ Some r → is_among b (held_in r) ≡ true → (x : Bool) → is_among a (reached more b) ≡ x → is_among a (reached more b) ≡ false
    by_test a b r s t true back = let there = back_again a b r s t back in cc
    by_test a b r s t false back = back
