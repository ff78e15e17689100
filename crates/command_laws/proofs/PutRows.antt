-- A state with a row put, new or in place of an old one, and an item count: when it keeps what the state did.
use Rattle.std.proofs.Common.{◌≡◌, ℕ, ◌<◌, ◌≤◌, Bool, true, false, ◌||◌, ◌==◌, Some, sym, ap, subst, ◌∙◌, arith, inl, inr}
use Rattle.std.specs.Option.{option_map_or}
use Rattle.std.proofs.lemmas.Bool.{or_cases}
use Rattle.std.proofs.lemmas.Bool.Decides.{nat_tests}
use Rattle.schema_model.specs.Classes.{Schema}
use Rattle.state_model.specs.declared.row.Row.{Row}
use Rattle.state_model.specs.Rows.{row_at, is_live, put_row}
use Rattle.state_model.specs.Reached.{is_among, HasNoCycle}
use Rattle.state_model.specs.State.{State, next_item}
use Rattle.state_model.specs.Commands.{counts_items}
use Rattle.command_laws.specs.Kept.{item_numbers, IsKept}
use Rattle.command_laws.proofs.LinkedRows.{live_put, put_from}
use Rattle.command_laws.proofs.SoundRows.{IsSoundRow, KindsStay, put_sound}
use Rattle.command_laws.proofs.ItemCounts.{count_at, counts_with, counts_with_rise, count_no_less, counted_after}

-- what it needs to put a row at a number, and where the test holds a count there: kinds stay, the row is sound, no cycle comes,
-- the number was given by then, the row has a count where it counts its items, and the count is above its item numbers
pub record MayPut (schema : Schema) (s : State) (who : ℕ) (row : Row) (given : ℕ) (b : Bool) (count : ℕ) : Type 0 where
  pub stay : KindsStay s.rows (put_row who row s.rows)
  pub new : IsSoundRow schema s.rows row
  pub acyclic : HasNoCycle (put_row who row s.rows)
  pub more : s.given ≤ given
  pub within : who ≤ given
  pub counts : (b || option_map_or counts_items (row_at s.rows who) false) ≡ counts_items row
  pub no_less : next_item s who ≤ count
  pub own : (k : ℕ) → is_among k (item_numbers row) ≡ true → k < count_at (counts_with b who count s.counts) who

-- numbers that are there were given
live_given : (s : State) (who given : ℕ) (row : Row) → ((n : ℕ) → is_live s.rows n ≡ true → n ≤ s.given) → s.given ≤ given → who ≤ given → (n : ℕ) → is_live (put_row who row s.rows) n ≡ true → n ≤ given
live_given s who given row old more within n h =
    elim (or_cases (who == n) (is_live s.rows n) (sym (live_put s.rows who row n) ∙ h)) [
      | inl new ↦ let same : who ≡ n = grind (arith, nat_tests) in omega arith
      | inr there ↦ let bound = old n there in omega arith
    ]

-- item numbers are below the next one
put_items : (s : State) (who : ℕ) (row : Row) (b : Bool) (count : ℕ) → ((n : ℕ) (r : Row) → row_at s.rows n ≡ Some r → (k : ℕ) → is_among k (item_numbers r) ≡ true → k < next_item s n)
    → next_item s who ≤ count → ((k : ℕ) → is_among k (item_numbers row) ≡ true → k < count_at (counts_with b who count s.counts) who)
    → (n : ℕ) (r : Row) → row_at (put_row who row s.rows) n ≡ Some r → (k : ℕ) → is_among k (item_numbers r) ≡ true → k < count_at (counts_with b who count s.counts) n
put_items s who row b count old less own n r at k h =
    elim (put_from s.rows who row n r at) [
      | inl put ↦
          let bound = own k (ap (λ q. is_among k (item_numbers q)) (sym put.1) ∙ h) in
          subst (λ m. k < count_at (counts_with b who count s.counts) m) put.0 bound
      | inr there ↦
          let bound : k < next_item s n = old n r there k h in
          let more : next_item s n ≤ count_at (counts_with b who count s.counts) n = count_no_less b who count s.counts less n in
          omega arith
    ]

-- a state with that row and that count keeps what the state did
pub put_kept : (schema : Schema) (s : State) (who : ℕ) (row : Row) (given : ℕ) (b : Bool) (count : ℕ) → IsKept schema s → MayPut schema s who row given b count
    → IsKept schema (record { rows = put_row who row s.rows; given = given; counts = counts_with b who count s.counts })
put_kept schema s who row given b count kept may = record {
  sound = put_sound schema s.rows who row kept.sound may.stay may.new;
  acyclic = may.acyclic;
  given = live_given s who given row kept.given may.more may.within;
  counts_rise = counts_with_rise b who count s.counts kept.counts_rise;
  counted = counted_after s.rows b who count s.counts row kept.counted may.counts;
  items_given = put_items s who row b count kept.items_given may.no_less may.own;
}
