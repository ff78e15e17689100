-- A new row in a state: it takes the next number, and other rows stay.
use Rattle.std.proofs.Common.{◌≡◌, ℕ, suc, ◌≤◌, Bool, true, false, cond, ◌||◌, ◌==◌, List, [], Option, Some, None, is_some, refl, sym, ap, ◌∙◌, arith, inl, inr}
use Rattle.std.specs.Option.{option_map_or}
use Rattle.std.proofs.lemmas.Bool.Decides.{nat_tests}
use Rattle.lists.specs.Rising.{find}
use Rattle.schema_model.specs.Classes.{Schema}
use Rattle.state_model.specs.declared.row.Row.{Row}
use Rattle.state_model.specs.declared.row.Row.TheVariants.{Struct, Map, Array, Set}
use Rattle.state_model.specs.declared.row.RowEntry.{RowEntry}
use Rattle.state_model.specs.Rows.{row_at, held_in, put_row, emptied}
use Rattle.state_model.specs.Reached.{is_among, HasNoCycle}
use Rattle.state_model.specs.Sound.{places_fit, set_differs}
use Rattle.state_model.specs.State.{State, ItemCount, next_item}
use Rattle.state_model.specs.Commands.{counts_items}
use Rattle.state_laws.proofs.Numbers.{live_at, put_rises}
use Rattle.state_laws.proofs.PermittedLaws.{no_cycle_within}
use Rattle.state_laws.proofs.Fitting.{emptied_holds, emptied_fits}
use Rattle.command_laws.specs.Kept.{item_numbers, IsKept}
use Rattle.command_laws.proofs.Accepted.{IsNew}
use Rattle.command_laws.proofs.LinkedRows.{row_put, put_from}
use Rattle.command_laws.proofs.SoundRows.{sound_rises}
use Rattle.command_laws.proofs.PutRows.{MayPut}

-- a row without places: its places fit, its values differ, it holds nothing and has no item numbers

new_differs : (r : Row) → set_differs (emptied r) ≡ true
new_differs (Struct class fields) = refl
new_differs (Map home items) = refl
new_differs (Array home values) = refl
new_differs (Set home items) = refl

new_numbers : (r : Row) → item_numbers (emptied r) ≡ []
new_numbers (Struct class fields) = refl
new_numbers (Map home items) = refl
new_numbers (Array home values) = refl
new_numbers (Set home items) = refl

-- a row put at the next number

-- no row stands at the next number
pub next_free : (schema : Schema) (s : State) → IsKept schema s → row_at s.rows (suc s.given) ≡ None
next_free schema s kept = by_row (row_at s.rows (suc s.given)) refl
  where
    by_row : (o : Option Row) → row_at s.rows (suc s.given) ≡ o → row_at s.rows (suc s.given) ≡ None
    by_row None e = e
    by_row (Some r) e = let bound = kept.given (suc s.given) (live_at s.rows (suc s.given) r e) in absurd (omega arith)

-- a row that stands does so with another put where none stood
pub stands_beside : (rows : List RowEntry) (who : ℕ) (row : Row) (n : ℕ) (a : Row) → row_at rows who ≡ None → row_at rows n ≡ Some a → row_at (put_row who row rows) n ≡ Some a
stands_beside rows who row n a none s = row_put rows who row n ∙ by_test (who == n) refl
  where
    by_test : (b : Bool) → who == n ≡ b → cond b (Some row) (row_at rows n) ≡ Some a
    by_test true t = let same : who ≡ n = grind (arith, nat_tests) in let at = ap (row_at rows) same in cc
    by_test false f = s

-- no item number was given there
pub none_counted : (schema : Schema) (s : State) → IsKept schema s → next_item s (suc s.given) ≤ 0
none_counted schema s kept = by_count (find (λ (c : ItemCount). c.who) (suc s.given) s.counts) (kept.counted (suc s.given) ∙ ap (λ o. option_map_or counts_items o false) (next_free schema s kept))
  where
    by_count : (o : Option ItemCount) → is_some o ≡ false → option_map_or (λ (c : ItemCount). c.count) o 0 ≤ 0
    by_count None h = omega arith
    by_count (Some c) h = cc

-- a new row makes no cycle
new_acyclic : (schema : Schema) (s : State) (row : Row) → IsKept schema s → IsNew schema row → HasNoCycle (put_row (suc s.given) row s.rows)
new_acyclic schema s row kept new =
    let rises = sound_rises schema s.rows kept.sound in
    no_cycle_within (put_row (suc s.given) row s.rows) s.rows (put_rises s.rows (suc s.given) row rises) rises (λ n m a at t. elim (put_from s.rows (suc s.given) row n a at) [
      | inl put ↦
          let none : is_among m (held_in row) ≡ false = ap (λ r. is_among m (held_in r)) (sym new.empty) ∙ ap (is_among m) (emptied_holds row) in
          let some : is_among m (held_in row) ≡ true = ap (λ r. is_among m (held_in r)) (sym put.1) ∙ t in
          cc
      | inr old ↦ (a, old, t)
    ]) kept.acyclic

-- a new row may be put there
pub new_may : (schema : Schema) (s : State) (row : Row) → IsKept schema s → IsNew schema row → MayPut schema s (suc s.given) row (suc s.given) (counts_items row) 0
new_may schema s row kept new =
    let free = next_free schema s kept in
    record {
      stay = λ n a at. (a, stands_beside s.rows (suc s.given) row n a free at, refl);
      new = record { kind = new.kind; fits = ap (places_fit schema s.rows) (sym new.empty) ∙ emptied_fits schema s.rows row; differs = ap set_differs (sym new.empty) ∙ new_differs row };
      acyclic = new_acyclic schema s row kept new;
      more = omega arith;
      within = omega arith;
      counts = ap (λ o. counts_items row || option_map_or counts_items o false) free ∙ grind (arith, nat_tests);
      no_less = none_counted schema s kept;
      own = λ k h. let none : is_among k (item_numbers row) ≡ false = ap (λ r. is_among k (item_numbers r)) (sym new.empty) ∙ ap (is_among k) (new_numbers row) in cc;
    }
