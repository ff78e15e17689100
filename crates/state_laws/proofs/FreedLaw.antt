-- What freeing leaves of rows of which some stay: those, and nothing else.
use Rattle.std.proofs.Common.{◌≡◌, ℕ, zero, suc, ◌+◌, ◌<◌, ◌≤◌, Bool, true, false, cond, not, ◌&&◌, ◌||◌, ◌==◌, List, length, Option, Some, None, is_some, refl, sym, ap, subst, ◌∙◌, arith, inl, inr}
use Rattle.std.proofs.lemmas.Bool.Decides.{nat_tests}
use Rattle.lists.specs.Rising.{RisesFrom, find}
use Rattle.lists.proofs.RisingLaws.{find-filter_kept, find-filter_passes, RisesFrom-filter, same_rising}
use Rattle.lists.proofs.Passing.{length-filter_most, length-filter_less, list_any-found, length_within}
use Rattle.state_model.specs.declared.row.Row.{Row}
use Rattle.state_model.specs.declared.row.RowEntry.{RowEntry}
use Rattle.state_model.specs.Rows.{number_of, row_at, is_live, held_in, rows_of}
use Rattle.state_model.specs.Reached.{times, is_among, all_held, reached, HasNoCycle, swept_once, freed}
use Rattle.state_laws.proofs.Joins.{Joined}
use Rattle.state_laws.proofs.Numbers.{live_row, live_found, live_at, at_live, entry, row_found, found_row, found_same, held_by_row, holder_row}
use Rattle.state_laws.proofs.ReachedLaws.{reached_start, reached_closed, reached_further, reached_held, no_way_back}

-- freeing

swept_rises : (rows : List RowEntry) → RisesFrom number_of 0 rows → RisesFrom number_of 0 (swept_once rows)
swept_rises rows r = RisesFrom-filter number_of 0 (λ (e : RowEntry). (e.who == 0) || is_among e.who (all_held rows)) rows r

pub rounds_rise : (k : ℕ) (rows : List RowEntry) → RisesFrom number_of 0 rows → RisesFrom number_of 0 (times k swept_once rows)
rounds_rise zero rows r = r
rounds_rise (suc k) rows r = rounds_rise k (swept_once rows) (swept_rises rows r)

-- what is left of rows that rise does so
pub freed_rises : (rows : List RowEntry) → RisesFrom number_of 0 rows → RisesFrom number_of 0 (freed rows)
freed_rises rows r = rounds_rise (length rows) rows r

-- a round leaves a row of number 0 and one that is held
pub swept_keeps : (rows : List RowEntry) (n : ℕ) (r : Row) → row_at rows n ≡ Some r → (n == 0 || is_among n (all_held rows)) ≡ true → row_at (swept_once rows) n ≡ Some r
swept_keeps rows n r s t = found_row (swept_once rows) n (entry n r) (find-filter_kept number_of (λ (e : RowEntry). (e.who == 0) || is_among e.who (all_held rows)) rows n (entry n r) (row_found rows n r s) t)

-- a row that a round leaves was there, and is row 0 or held
pub swept_from : (rows : List RowEntry) (n : ℕ) (r : Row) → RisesFrom number_of 0 rows → row_at (swept_once rows) n ≡ Some r → (row_at rows n ≡ Some r) × ((n == 0 || is_among n (all_held rows)) ≡ true)
swept_from rows n r rise s =
    let p = find-filter_passes number_of 0 (λ (e : RowEntry). (e.who == 0) || is_among e.who (all_held rows)) rows n (entry n r) rise (row_found (swept_once rows) n r s) in
    (found_row rows n (entry n r) p.0, p.1)

-- ranks

-- from how many of the rows this one leads on
abbrev rank : List RowEntry → ℕ → ℕ
rank rows n = length (rows_of (reached rows n) rows)

rank_most : (rows : List RowEntry) (n : ℕ) → rank rows n ≤ length rows
rank_most rows n = length-filter_most (λ (e : RowEntry). is_among e.who (reached rows n)) rows

-- a row that another holds is of lower rank
rank_falls : (rows : List RowEntry) (a b : ℕ) (r : Row) → RisesFrom number_of 0 rows → HasNoCycle rows → row_at rows a ≡ Some r → is_among b (held_in r) ≡ true → rank rows b < rank rows a
rank_falls rows a b r rise none s t =
    let there : is_among b (reached rows a) ≡ true = reached_closed rows a a b r rise (reached_start rows a) s t in
    length-filter_less (λ (e : RowEntry). is_among e.who (reached rows b)) (λ (e : RowEntry). is_among e.who (reached rows a)) rows (λ e. reached_further rows a b e.who rise there)
    (list_any-found number_of (λ (e : RowEntry). is_among e.who (reached rows a) && not (is_among e.who (reached rows b))) rows a (entry a r) (row_found rows a r s)
    (grind (arith, nat_tests, reached_start rows a, no_way_back rows a b r none s t)))

-- a row that is there has a rank
rank_some : (rows : List RowEntry) (n : ℕ) (r : Row) → row_at rows n ≡ Some r → 0 < rank rows n
rank_some rows n r s =
    let less = length-filter_less (λ (e : RowEntry). false) (λ (e : RowEntry). is_among e.who (reached rows n)) rows (λ e h. cc)
    (list_any-found number_of (λ (e : RowEntry). is_among e.who (reached rows n) && true) rows n (entry n r) (row_found rows n r s) (grind (arith, nat_tests, reached_start rows n))) in
    omega (arith, less)

-- what is left after some rounds: all that stays, and others of low rank
record Left (stay others now : List RowEntry) (k : ℕ) : Type 0 where
  rise : RisesFrom number_of 0 now
  kept : (n : ℕ) (r : Row) → row_at stay n ≡ Some r → row_at now n ≡ Some r
  within : (n : ℕ) (r : Row) → row_at now n ≡ Some r → is_live stay n ≡ false → (row_at others n ≡ Some r) × (rank others n + k ≤ length others)

-- what stays isn't swept
stay_held : {stay others all : List RowEntry} → Joined stay others all → (now : List RowEntry) → ((n : ℕ) (r : Row) → row_at stay n ≡ Some r → row_at now n ≡ Some r) → (n : ℕ) (r : Row)
    → row_at stay n ≡ Some r → (n == 0 || is_among n (all_held now)) ≡ true
stay_held {stay} j now kept n r s =
    elim (reached_held stay 0 n j.stay_rise (j.reach n (live_at stay n r s))) [
      | inl same ↦ grind (arith, nat_tests)
      | inr h ↦ grind (arith, nat_tests, held_by_row now h.0 n h.1 (kept h.0 h.1 h.3) h.4)
    ]

held_alone : (n : ℕ) (b : Bool) → (n == 0 || b) ≡ true → (n ≡ 0 → ⊥) → b ≡ true
held_alone n b h f = grind (arith, nat_tests)

-- one of the others that is held after a round is held by one of the others that was there before it
holder_other : {stay others all : List RowEntry} → Joined stay others all → (now : List RowEntry) (k n a : ℕ) (r : Row) → Left stay others now k → row_at now a ≡ Some r → is_among n (held_in r) ≡ true → is_live stay n ≡ false → is_live stay a ≡ false
holder_other {stay} j now k n a r l s t f =
    let go : (b : Bool) → is_live stay a ≡ b → is_live stay a ≡ false = elim [
      | true ↦ λ h.
          let at = at_live stay a h in
          let same : Some at.0 ≡ Some r = sym (l.kept a at.0 at.1) ∙ s in
          let live : is_live stay n ≡ true = j.links a n r (at.1 ∙ same) t in
          cc
      | false ↦ λ h. h
    ] in
    go (is_live stay a) refl

rank_left : {stay others all : List RowEntry} → Joined stay others all → (now : List RowEntry) (k n : ℕ) (r : Row) → Left stay others now k → row_at (swept_once now) n ≡ Some r → is_live stay n ≡ false → rank others n + suc k ≤ length others
rank_left {stay} {others} j now k n r l s f =
    let from = swept_from now n r l.rise s in
    let held = held_alone n (is_among n (all_held now)) from.1 (λ (zero : n ≡ 0). let live : is_live stay n ≡ true = rw zero j.root in cc) in
    let holder = holder_row now n l.rise held in
    let other = holder_other j now k n holder.0 holder.1 l holder.2 holder.3 f in
    let before = l.within holder.0 holder.1 holder.2 other in
    omega (arith, before.1, rank_falls others holder.0 n holder.1 j.others_rise j.no_cycle before.0 holder.3)

-- one more round
left_on : {stay others all : List RowEntry} → Joined stay others all → (now : List RowEntry) (k : ℕ) → Left stay others now k → Left stay others (swept_once now) (suc k)
left_on j now k l = record {
  rise = swept_rises now l.rise;
  kept = λ n r s. swept_keeps now n r (l.kept n r s) (stay_held j now l.kept n r s);
  within = λ n r s f. ((l.within n r (swept_from now n r l.rise s).0 f).0, rank_left j now k n r l s f);
}

left_start : {stay others all : List RowEntry} → Joined stay others all → Left stay others all 0
left_start {stay} {others} {all} j = record {
  rise = j.all_rise;
  kept = λ n r s. j.rows n ∙ ap (λ b. cond b (row_at stay n) (row_at others n)) (live_at stay n r s) ∙ s;
  within = λ n r s f. (sym (ap (λ b. cond b (row_at stay n) (row_at others n)) f) ∙ sym (j.rows n) ∙ s, omega (arith, rank_most others n));
}

left_after : {stay others all : List RowEntry} → Joined stay others all → (rounds : ℕ) (now : List RowEntry) (k total : ℕ) → Left stay others now k → rounds + k ≡ total → Left stay others (times rounds swept_once now) total
left_after {stay} {others} j zero now k total l h = let same : k ≡ total = omega arith in subst (λ t. Left stay others now t) same l
left_after j (suc rounds) now k total l h = left_after j rounds (swept_once now) (suc k) total (left_on j now k l) (omega arith)

other_found : {stay others all : List RowEntry} → Joined stay others all → (k : ℕ) → is_some (find number_of k others) ≡ true → is_some (find number_of k all) ≡ true
other_found {stay} {others} {all} j k h =
    let live : is_live others k ≡ true = live_found others k ∙ h in
    let there : row_at all k ≡ row_at others k = j.rows k ∙ ap (λ b. cond b (row_at stay k) (row_at others k)) (j.apart k live) in
    sym (live_found all k) ∙ live_row all k ∙ ap is_some there ∙ sym (live_row others k) ∙ live

-- there are no more others than rows
others_within : {stay others all : List RowEntry} → Joined stay others all → length others ≤ length all
others_within {stay} {others} {all} j = length_within number_of 0 0 others all j.others_rise j.all_rise (λ k h. other_found j k h)

-- after enough rounds none of the others is left
left_none : {stay others now : List RowEntry} (k : ℕ) → Left stay others now k → length others ≤ k → (n : ℕ) → row_at now n ≡ row_at stay n
left_none {stay} {others} {now} k l h n =
    let go : (o : Option Row) → row_at stay n ≡ o → row_at now n ≡ o = elim [
      | Some r ↦ λ s. l.kept n r s
      | None ↦ λ s.
          let gone : is_live stay n ≡ false = live_row stay n ∙ ap is_some s in
          let out : (p : Option Row) → row_at now n ≡ p → row_at now n ≡ None = elim [
            | Some r ↦ λ t. let w = l.within n r t gone in absurd (omega (arith, w.1, rank_some others n r w.0))
            | None ↦ λ t. t
          ] in
          out (row_at now n) refl
    ] in
    go (row_at stay n) refl

-- freeing leaves the rows that stay
pub freed_joined : (stay others all : List RowEntry) → Joined stay others all → freed all ≡ stay
freed_joined stay others all j =
    let l = left_after j (length all) all 0 (length all) (left_start j) (omega arith) in
    same_rising number_of 0 0 (freed all) stay (freed_rises all j.all_rise) j.stay_rise (λ n. found_same (freed all) stay n (left_none (length all) l (others_within j) n))
