-- What freeing keeps: row 0, rows that are held, and where there is no cycle exactly the rows that row 0 leads to.
use Rattle.std.proofs.Common.{◌≡◌, ℕ, zero, suc, ◌≤◌, Bool, true, false, cond, not, ◌&&◌, ◌||◌, ◌==◌, List, [], ◌∷◌, length, Option, Some, None, is_some, filter, refl, sym, ap, ◌∙◌, arith, ◌⊎◌, inl, inr}
use Rattle.std.proofs.lemmas.Bool.Decides.{nat_tests}
use Rattle.lists.specs.Rising.{RisesFrom}
use Rattle.lists.proofs.RisingLaws.{RisesFrom-filter}
use Rattle.lists.proofs.Passing.{filter_all_or_less}
use Rattle.state_model.specs.declared.row.Row.{Row}
use Rattle.state_model.specs.declared.row.RowEntry.{RowEntry}
use Rattle.state_model.specs.Rows.{number_of, row_at, is_live, held_in, rows_of}
use Rattle.state_model.specs.Reached.{times, is_among, all_held, reached, HasNoCycle, swept_once, freed}
use Rattle.state_laws.proofs.Joins.{Joined}
use Rattle.state_laws.proofs.Numbers.{live_row, live_chosen, row_chosen, held_by_row, holder_row}
use Rattle.state_laws.proofs.ReachedLaws.{reached_start, reached_closed, reached_least, reached_held, no_cycle_fewer}
use Rattle.state_laws.proofs.FreedLaw.{rounds_rise, freed_rises, swept_keeps, swept_from, freed_joined}

-- what each round keeps

rounds_within : (k : ℕ) (rows : List RowEntry) (n : ℕ) (r : Row) → RisesFrom number_of 0 rows → row_at (times k swept_once rows) n ≡ Some r → row_at rows n ≡ Some r
rounds_within zero rows n r rise s = s
rounds_within (suc k) rows n r rise s = (swept_from rows n r rise (rounds_within k (swept_once rows) n r (rounds_rise 1 rows rise) s)).0

-- a row that is left was there
pub freed_within : (rows : List RowEntry) (n : ℕ) (r : Row) → RisesFrom number_of 0 rows → row_at (freed rows) n ≡ Some r → row_at rows n ≡ Some r
freed_within rows n r rise s = rounds_within (length rows) rows n r rise s

rounds_root : (k : ℕ) (rows : List RowEntry) (r : Row) → row_at rows 0 ≡ Some r → row_at (times k swept_once rows) 0 ≡ Some r
rounds_root zero rows r s = s
rounds_root (suc k) rows r s = rounds_root k (swept_once rows) r (swept_keeps rows 0 r s refl)

-- row 0 is left as it was
pub freed_root : (rows : List RowEntry) → RisesFrom number_of 0 rows → row_at (freed rows) 0 ≡ row_at rows 0
freed_root rows rise =
    let go : (o : Option Row) → row_at rows 0 ≡ o → row_at (freed rows) 0 ≡ o = elim [
      | Some r ↦ λ s. rounds_root (length rows) rows r s
      | None ↦ λ s.
          let out : (p : Option Row) → row_at (freed rows) 0 ≡ p → row_at (freed rows) 0 ≡ None = elim [
            | Some r ↦ λ t. let was : row_at rows 0 ≡ Some r = freed_within rows 0 r rise t in cc
            | None ↦ λ t. t
          ] in
          out (row_at (freed rows) 0) refl
    ] in
    go (row_at rows 0) refl

rounds_link : (k : ℕ) (rows : List RowEntry) (n m : ℕ) (r q : Row) → RisesFrom number_of 0 rows → row_at (times k swept_once rows) n ≡ Some r → is_among m (held_in r) ≡ true → row_at rows m ≡ Some q → row_at (times k swept_once rows) m ≡ Some q
rounds_link zero rows n m r q rise s t u = u
rounds_link (suc k) rows n m r q rise s t u =
    let held = held_by_row rows n m r (rounds_within (suc k) rows n r rise s) t in
    rounds_link k (swept_once rows) n m r q (rounds_rise 1 rows rise) s t (swept_keeps rows m q u (grind (arith, nat_tests)))

-- what a row that is left holds is left
pub freed_link : (rows : List RowEntry) (n m : ℕ) (r q : Row) → RisesFrom number_of 0 rows → row_at (freed rows) n ≡ Some r → is_among m (held_in r) ≡ true → row_at rows m ≡ Some q → row_at (freed rows) m ≡ Some q
freed_link rows n m r q rise s t u = rounds_link (length rows) rows n m r q rise s t u

-- what row 0 leads to is held in rows that have it all
still_held : (rows now : List RowEntry) (n : ℕ) → RisesFrom number_of 0 rows → ((a : ℕ) (r : Row) → is_among a (reached rows 0) ≡ true → row_at rows a ≡ Some r → row_at now a ≡ Some r)
    → is_among n (reached rows 0) ≡ true → (n == 0 || is_among n (all_held now)) ≡ true
still_held rows now n rise kept h =
    elim (reached_held rows 0 n rise h) [
      | inl same ↦ grind (arith, nat_tests)
      | inr p ↦ grind (arith, nat_tests, held_by_row now p.0 n p.1 (kept p.0 p.1 p.2 p.3) p.4)
    ]

rounds_keep : (k : ℕ) (rows now : List RowEntry) → RisesFrom number_of 0 rows → ((a : ℕ) (r : Row) → is_among a (reached rows 0) ≡ true → row_at rows a ≡ Some r → row_at now a ≡ Some r)
    → (n : ℕ) (r : Row) → is_among n (reached rows 0) ≡ true → row_at rows n ≡ Some r → row_at (times k swept_once now) n ≡ Some r
rounds_keep zero rows now rise kept n r h s = kept n r h s
rounds_keep (suc k) rows now rise kept n r h s =
    rounds_keep k rows (swept_once now) rise (λ a q t u. swept_keeps now a q (kept a q t u) (still_held rows now a rise kept t)) n r h s

-- a row that row 0 leads to is left as it was
pub freed_keeps : (rows : List RowEntry) (n : ℕ) (r : Row) → RisesFrom number_of 0 rows → is_among n (reached rows 0) ≡ true → row_at rows n ≡ Some r → row_at (freed rows) n ≡ Some r
freed_keeps rows n r rise h s = rounds_keep (length rows) rows rows rise (λ a q t u. u) n r h s

-- what is left has no cycle where there was none
pub freed_no_cycle : (rows : List RowEntry) → RisesFrom number_of 0 rows → HasNoCycle rows → HasNoCycle (freed rows)
freed_no_cycle rows rise none = no_cycle_fewer (freed rows) rows (freed_rises rows rise) rise (λ n r. freed_within rows n r rise) none

-- after the last round

pub rounds_still : (k : ℕ) (rows : List RowEntry) → swept_once rows ≡ rows → times k swept_once rows ≡ rows
rounds_still zero rows h = refl
rounds_still (suc k) rows h = ap (times k swept_once) h ∙ rounds_still k rows h

rounds_end : (k : ℕ) (rows : List RowEntry) → length rows ≤ k → swept_once (times k swept_once rows) ≡ times k swept_once rows
rounds_end zero [] h = refl
rounds_end zero (e ∷ rows) h = absurd (omega arith)
rounds_end (suc k) rows h =
    elim (filter_all_or_less (λ (e : RowEntry). (e.who == 0) || is_among e.who (all_held rows)) rows) [
      | inl same ↦ let still = rounds_still (suc k) rows same in ap swept_once still ∙ same ∙ sym still
      | inr less ↦ rounds_end k (swept_once rows) (omega (arith, less))
    ]

-- a further round changes nothing
pub freed_swept : (rows : List RowEntry) → swept_once (freed rows) ≡ freed rows
freed_swept rows = rounds_end (length rows) rows (omega arith)

-- to free again changes nothing
pub freed_freed : (rows : List RowEntry) → freed (freed rows) ≡ freed rows
freed_freed rows = rounds_still (length (freed rows)) (freed rows) (freed_swept rows)

-- a row that is left has number 0, or a row that is left holds it
pub freed_held : (rows : List RowEntry) (n : ℕ) (r : Row) → RisesFrom number_of 0 rows → row_at (freed rows) n ≡ Some r → (n ≡ 0) ⊎ ((a : ℕ) × (q : Row) × (row_at (freed rows) a ≡ Some q) × (is_among n (held_in q) ≡ true))
freed_held rows n r rise s =
    let swept : row_at (swept_once (freed rows)) n ≡ Some r = ap (λ rs. row_at rs n) (freed_swept rows) ∙ s in
    let from = swept_from (freed rows) n r (freed_rises rows rise) swept in
    let go : (b : Bool) → n == 0 ≡ b → (n ≡ 0) ⊎ ((a : ℕ) × (q : Row) × (row_at (freed rows) a ≡ Some q) × (is_among n (held_in q) ≡ true)) = elim [
      | true ↦ λ t. inl (grind (arith, nat_tests))
      | false ↦ λ f. inr (holder_row (freed rows) n (freed_rises rows rise) (rw f at from.1))
    ] in
    go (n == 0) refl

-- what is reached

-- the rows that row 0 leads to
abbrev led : List RowEntry → List RowEntry
led rows = rows_of (reached rows 0) rows

-- the other rows
abbrev unled : List RowEntry → List RowEntry
unled rows = filter (λ (e : RowEntry). not (is_among e.who (reached rows 0))) rows

pub passed : (b : Bool) (o : Option Row) (r : Row) → cond b o None ≡ Some r → (b ≡ true) × (o ≡ Some r)
passed true o r h = (refl, h)
passed false o r h = cc

led_within : (rows : List RowEntry) (n : ℕ) (r : Row) → row_at (led rows) n ≡ Some r → (is_among n (reached rows 0) ≡ true) × (row_at rows n ≡ Some r)
led_within rows n r s = passed (is_among n (reached rows 0)) (row_at rows n) r (sym (row_chosen (λ k. is_among k (reached rows 0)) rows n) ∙ s)

unled_within : (rows : List RowEntry) (n : ℕ) (r : Row) → row_at (unled rows) n ≡ Some r → row_at rows n ≡ Some r
unled_within rows n r s = (passed (not (is_among n (reached rows 0))) (row_at rows n) r (sym (row_chosen (λ k. not (is_among k (reached rows 0))) rows n) ∙ s)).1

led_live : (rows : List RowEntry) (n : ℕ) → is_live (led rows) n ≡ (is_among n (reached rows 0) && is_live rows n)
led_live rows n = live_chosen (λ k. is_among k (reached rows 0)) rows n

one_of_both : (keep : Bool) (o : Option Row) → o ≡ cond (keep && is_some o) (cond keep o None) (cond (not keep) o None)
one_of_both true None = refl
one_of_both true (Some r) = refl
one_of_both false o = refl

led_or_unled : (rows : List RowEntry) (n : ℕ) → row_at rows n ≡ cond (is_live (led rows) n) (row_at (led rows) n) (row_at (unled rows) n)
led_or_unled rows n =
    let there_is : is_live (led rows) n ≡ (is_among n (reached rows 0) && is_some (row_at rows n)) = led_live rows n ∙ ap (λ b. is_among n (reached rows 0) && b) (live_row rows n) in
    let led_is : row_at (led rows) n ≡ cond (is_among n (reached rows 0)) (row_at rows n) None = row_chosen (λ k. is_among k (reached rows 0)) rows n in
    let unled_is : row_at (unled rows) n ≡ cond (not (is_among n (reached rows 0))) (row_at rows n) None = row_chosen (λ k. not (is_among k (reached rows 0))) rows n in
    rw (there_is, led_is, unled_is) (one_of_both (is_among n (reached rows 0)) (row_at rows n))

led_rises : (rows : List RowEntry) → RisesFrom number_of 0 rows → RisesFrom number_of 0 (led rows)
led_rises rows rise = RisesFrom-filter number_of 0 (λ (e : RowEntry). is_among e.who (reached rows 0)) rows rise

led_row : (rows : List RowEntry) (n : ℕ) (r : Row) → is_among n (reached rows 0) ≡ true → row_at rows n ≡ Some r → row_at (led rows) n ≡ Some r
led_row rows n r h s = row_chosen (λ k. is_among k (reached rows 0)) rows n ∙ ap (λ b. cond b (row_at rows n) None) h ∙ s

led_step : (rows : List RowEntry) (a b : ℕ) (r : Row) → RisesFrom number_of 0 rows → (is_among a (reached rows 0) && is_among a (reached (led rows) 0)) ≡ true → row_at rows a ≡ Some r
    → is_among b (held_in r) ≡ true → (is_among b (reached rows 0) && is_among b (reached (led rows) 0)) ≡ true
led_step rows a b r rise k s t =
    let from : is_among a (reached rows 0) ≡ true = grind (arith, nat_tests) in
    let from_led : is_among a (reached (led rows) 0) ≡ true = grind (arith, nat_tests) in
    let on : is_among b (reached rows 0) ≡ true = reached_closed rows 0 a b r rise from s t in
    let on_led : is_among b (reached (led rows) 0) ≡ true = reached_closed (led rows) 0 a b r (led_rises rows rise) from_led (led_row rows a r from s) t in
    grind (arith, nat_tests)

-- whatever row 0 leads to, it leads to through rows that it leads to
led_reached : (rows : List RowEntry) (n : ℕ) → RisesFrom number_of 0 rows → is_among n (reached rows 0) ≡ true → is_among n (reached (led rows) 0) ≡ true
led_reached rows n rise h =
    let both : (is_among n (reached rows 0) && is_among n (reached (led rows) 0)) ≡ true =
    reached_least rows 0 (λ k. is_among k (reached rows 0) && is_among k (reached (led rows) 0)) rise (grind (arith, nat_tests, reached_start rows 0, reached_start (led rows) 0)) (λ a b r k s t. led_step rows a b r rise k s t) n h in
    grind (arith, nat_tests)

led_there : (rows : List RowEntry) (n : ℕ) → is_among n (reached rows 0) ≡ true → is_live rows n ≡ true → is_live (led rows) n ≡ true
led_there rows n h t = grind (arith, nat_tests, led_live rows n)

led_number : (rows : List RowEntry) (n : ℕ) → is_live (led rows) n ≡ true → is_among n (reached rows 0) ≡ true
led_number rows n h = grind (arith, nat_tests, led_live rows n)

unled_apart : (rows : List RowEntry) (n : ℕ) → is_live (unled rows) n ≡ true → is_live (led rows) n ≡ false
unled_apart rows n h = grind (arith, nat_tests, led_live rows n, live_chosen (λ k. not (is_among k (reached rows 0))) rows n)

led_joined : (rows : List RowEntry) → RisesFrom number_of 0 rows → HasNoCycle rows → ((n m : ℕ) (r : Row) → row_at rows n ≡ Some r → is_among m (held_in r) ≡ true → is_live rows m ≡ true) → is_live rows 0 ≡ true → Joined (led rows) (unled rows) rows
led_joined rows rise none links root = record {
  stay_rise = led_rises rows rise;
  others_rise = RisesFrom-filter number_of 0 (λ (e : RowEntry). not (is_among e.who (reached rows 0))) rows rise;
  all_rise = rise;
  rows = λ n. led_or_unled rows n;
  root = led_there rows 0 (reached_start rows 0) root;
  links = λ n m r s t. let at = led_within rows n r s in led_there rows m (reached_closed rows 0 n m r rise at.0 at.1 t) (links n m r at.1 t);
  reach = λ n h. led_reached rows n rise (led_number rows n h);
  apart = λ n h. unled_apart rows n h;
  no_cycle = no_cycle_fewer (unled rows) rows (RisesFrom-filter number_of 0 (λ (e : RowEntry). not (is_among e.who (reached rows 0))) rows rise) rise (λ n r. unled_within rows n r) none;
}

-- where there is no cycle and each held row is there, the rows that row 0 leads to are left
pub freed_led : (rows : List RowEntry) → RisesFrom number_of 0 rows → HasNoCycle rows → ((n m : ℕ) (r : Row) → row_at rows n ≡ Some r → is_among m (held_in r) ≡ true → is_live rows m ≡ true)
    → is_live rows 0 ≡ true → freed rows ≡ rows_of (reached rows 0) rows
freed_led rows rise none links root = freed_joined (led rows) (unled rows) rows (led_joined rows rise none links root)

-- there a row is left exactly where it was there and is reached from 0
pub freed_live : (rows : List RowEntry) (n : ℕ) → RisesFrom number_of 0 rows → HasNoCycle rows → ((n m : ℕ) (r : Row) → row_at rows n ≡ Some r → is_among m (held_in r) ≡ true → is_live rows m ≡ true)
    → is_live rows 0 ≡ true → is_live (freed rows) n ≡ (is_live rows n && is_among n (reached rows 0))
freed_live rows n rise none links root =
    let chosen = live_chosen (λ k. is_among k (reached rows 0)) rows n in
    ap (λ rs. is_live rs n) (freed_led rows rise none links root) ∙ chosen ∙ grind (arith, nat_tests)
