-- Which numbers are reached: the start, whatever a reached row holds, and nothing else.
use Rattle.std.proofs.Common.{◌≡◌, ℕ, zero, suc, ◌<◌, Bool, true, false, not, ◌&&◌, ◌||◌, ◌==◌, List, [], ◌∷◌, length, Some, is_some, filter, refl, sym, ap, ◌∙◌, arith, ◌⊎◌, inl, inr}
use Rattle.std.specs.List.{list_any}
use Rattle.std.proofs.lemmas.Bool.Decides.{nat_tests}
use Rattle.lists.specs.Rising.{RisesFrom}
use Rattle.lists.proofs.Passing.{length-filter_most, length-filter_less, list_any_narrower, list_any-found, found_passing}
use Rattle.state_model.specs.declared.row.Row.{Row}
use Rattle.state_model.specs.declared.row.RowEntry.{RowEntry}
use Rattle.state_model.specs.Rows.{number_of, row_at, is_live, held_in, rows_of}
use Rattle.state_model.specs.Reached.{times, is_among, all_held, grown, reached, is_in_cycle, HasNoCycle}
use Rattle.state_laws.proofs.Numbers.{among_passes, passing_among, rises_with, live_row, entry, row_found, found_row, is_held_in, held_in_row, row_holding, among_grown}

-- numbers that have what their rows hold
abbrev Closed : List RowEntry → List ℕ → Type 0
Closed rows ns = (a b : ℕ) (r : Row) → is_among a ns ≡ true → row_at rows a ≡ Some r → is_among b (held_in r) ≡ true → is_among b ns ≡ true

either_true : (a b : Bool) → (a || b) ≡ true → (a ≡ true) ⊎ (b ≡ true)
either_true true b h = inl refl
either_true false b h = inr h

-- a step keeps the numbers
grown_keeps : (rows : List RowEntry) (ns : List ℕ) (k : ℕ) → is_among k ns ≡ true → is_among k (grown rows ns) ≡ true
grown_keeps rows ns k h = among_grown rows ns k ∙ ap (λ b. b || is_held_in rows ns k) h

-- a step adds what a row of the numbers holds
grown_adds : (rows : List RowEntry) (ns : List ℕ) (a b : ℕ) (r : Row) → is_among a ns ≡ true → row_at rows a ≡ Some r → is_among b (held_in r) ≡ true → is_among b (grown rows ns) ≡ true
grown_adds rows ns a b r h s t = grind (arith, nat_tests, among_grown rows ns b, held_in_row rows ns a b r h s t)

-- a step adds nothing else
grown_from : (rows : List RowEntry) (ns : List ℕ) (b : ℕ) → RisesFrom number_of 0 rows → is_among b (grown rows ns) ≡ true
    → (is_among b ns ≡ true) ⊎ ((a : ℕ) × (r : Row) × (is_among a ns ≡ true) × (row_at rows a ≡ Some r) × (is_among b (held_in r) ≡ true))
grown_from rows ns b rise h =
    elim (either_true (is_among b ns) (is_held_in rows ns b) (sym (among_grown rows ns b) ∙ h)) [ inl t ↦ inl t | inr t ↦ inr (row_holding rows ns b rise t) ]

times_keep : (rows : List RowEntry) (k : ℕ) (ns : List ℕ) (n : ℕ) → is_among n ns ≡ true → is_among n (times k (grown rows) ns) ≡ true
times_keep rows zero ns n h = h
times_keep rows (suc k) ns n h = times_keep rows k (grown rows ns) n (grown_keeps rows ns n h)

times_rise : (rows : List RowEntry) (k : ℕ) (ns : List ℕ) → RisesFrom (λ m. m) 0 ns → RisesFrom (λ m. m) 0 (times k (grown rows) ns)
times_rise rows zero ns r = r
times_rise rows (suc k) ns r = times_rise rows k (grown rows ns) (rises_with ns (all_held (rows_of ns rows)) r)

-- the start is reached
pub reached_start : (rows : List RowEntry) (n : ℕ) → is_among n (reached rows n) ≡ true
reached_start rows n = times_keep rows (length rows) (n ∷ []) n (grind (arith, nat_tests))

-- the numbers that are reached rise
pub reached_rises : (rows : List RowEntry) (n : ℕ) → RisesFrom (λ m. m) 0 (reached rows n)
reached_rises rows n = times_rise rows (length rows) (n ∷ []) (omega arith, tt)

times_least : (rows : List RowEntry) (keep : ℕ → Bool) → RisesFrom number_of 0 rows → ((a b : ℕ) (r : Row) → keep a ≡ true → row_at rows a ≡ Some r → is_among b (held_in r) ≡ true → keep b ≡ true)
    → (k : ℕ) (ns : List ℕ) → ((m : ℕ) → is_among m ns ≡ true → keep m ≡ true) → (m : ℕ) → is_among m (times k (grown rows) ns) ≡ true → keep m ≡ true
times_least rows keep rise step zero ns all m h = all m h
times_least rows keep rise step (suc k) ns all m h =
    times_least rows keep rise step k (grown rows ns) (λ b t. elim (grown_from rows ns b rise t) [ inl old ↦ all b old | inr new ↦ step new.0 b new.1 (all new.0 new.2) new.3 new.4 ]) m h

only_start : (from n : ℕ) (keep : ℕ → Bool) → keep from ≡ true → is_among n (from ∷ []) ≡ true → keep n ≡ true
only_start from n keep h t =
    let same : from ≡ n = grind (arith, nat_tests) in
    ap keep (sym same) ∙ h

-- what the start has and rows hand on has all that is reached
pub reached_least : (rows : List RowEntry) (from : ℕ) (keep : ℕ → Bool) → RisesFrom number_of 0 rows → keep from ≡ true
    → ((a b : ℕ) (r : Row) → keep a ≡ true → row_at rows a ≡ Some r → is_among b (held_in r) ≡ true → keep b ≡ true) → (m : ℕ) → is_among m (reached rows from) ≡ true → keep m ≡ true
reached_least rows from keep rise start step m h =
    times_least rows keep rise step (length rows) (from ∷ []) (λ n t. only_start from n keep start t) m h

-- numbers that have what their rows hold do so after a step
grown_closed : (rows : List RowEntry) (ns : List ℕ) → RisesFrom number_of 0 rows → Closed rows ns → Closed rows (grown rows ns)
grown_closed rows ns rise c a b r h s t =
    let old : is_among a ns ≡ true = elim (grown_from rows ns a rise h) [ inl old ↦ old | inr new ↦ c new.0 a new.1 new.2 new.3 new.4 ] in
    grown_keeps rows ns b (c a b r old s t)

times_closed : (rows : List RowEntry) (k : ℕ) (ns : List ℕ) → RisesFrom number_of 0 rows → Closed rows ns → Closed rows (times k (grown rows) ns)
times_closed rows zero ns rise c = c
times_closed rows (suc k) ns rise c = times_closed rows k (grown rows ns) rise (grown_closed rows ns rise c)

-- how many rows aren't of these numbers
abbrev missing : List RowEntry → List ℕ → ℕ
missing rows ns = length (filter (λ (e : RowEntry). not (is_among e.who ns)) rows)

-- a step adds the number of a row that wasn't there
abbrev adds_row : List RowEntry → List ℕ → Bool
adds_row rows ns = list_any (λ (e : RowEntry). not (is_among e.who ns) && not (not (is_among e.who (grown rows ns)))) rows

missing_falls : (rows : List RowEntry) (ns : List ℕ) → adds_row rows ns ≡ true → missing rows (grown rows ns) < missing rows ns
missing_falls rows ns h = length-filter_less (λ (e : RowEntry). not (is_among e.who (grown rows ns))) (λ (e : RowEntry). not (is_among e.who ns)) rows (λ e. grind (arith, nat_tests, grown_keeps rows ns e.who)) h

new_number : (old new : Bool) → old ≡ false → new ≡ true → (not old && not (not new)) ≡ true
new_number old new h t = grind (arith, nat_tests)

-- where a step adds no row's number, what the rows of the numbers hold is there after it
settled : (rows : List RowEntry) (ns : List ℕ) → adds_row rows ns ≡ false → Closed rows (grown rows ns)
settled rows ns f a b r h s t =
    let go : (x : Bool) → is_among a ns ≡ x → is_among b (grown rows ns) ≡ true = elim [
      | true ↦ λ old. grown_adds rows ns a b r old s t
      | false ↦ λ new.
          let adds : adds_row rows ns ≡ true = list_any-found number_of (λ (e : RowEntry). not (is_among e.who ns) && not (not (is_among e.who (grown rows ns)))) rows a (entry a r)
          (row_found rows a r s) (new_number (is_among a ns) (is_among a (grown rows ns)) new h) in
          cc
    ] in
    go (is_among a ns) refl

times_settle : (rows : List RowEntry) (k : ℕ) (ns : List ℕ) → RisesFrom number_of 0 rows → missing rows ns < k → Closed rows (times k (grown rows) ns)
times_settle rows zero ns rise h = absurd (omega arith)
times_settle rows (suc k) ns rise h =
    let go : (b : Bool) → adds_row rows ns ≡ b → Closed rows (times k (grown rows) (grown rows ns)) = elim [
      | true ↦ λ t. times_settle rows k (grown rows ns) rise (omega (arith, missing_falls rows ns t))
      | false ↦ λ f. times_closed rows k (grown rows ns) rise (settled rows ns f)
    ] in
    go (adds_row rows ns) refl

-- where the start has a row, fewer rows than all are missing
start_there : (rows : List RowEntry) (from : ℕ) → is_live rows from ≡ true → missing rows (from ∷ []) < length rows
start_there rows from h =
    let there : list_any (λ (e : RowEntry). true && not (not (is_among e.who (from ∷ [])))) rows ≡ true =
    list_any_narrower (λ (e : RowEntry). e.who == from) (λ (e : RowEntry). true && not (not (is_among e.who (from ∷ [])))) rows (λ e. grind (arith, nat_tests)) h in
    let less = length-filter_less (λ (e : RowEntry). not (is_among e.who (from ∷ []))) (λ (e : RowEntry). true) rows (λ e t. refl) there in
    omega (arith, less, length-filter_most (λ (e : RowEntry). true) rows)

-- where the start has no row, nothing is held
start_missing : (rows : List RowEntry) (from : ℕ) → is_live rows from ≡ false → Closed rows (from ∷ [])
start_missing rows from f a b r h s t =
    let same : from ≡ a = grind (arith, nat_tests) in
    let live : is_live rows a ≡ true = live_row rows a ∙ ap is_some s in
    let gone : is_live rows a ≡ false = rw (← same) f in
    cc

-- all rounds together have what their rows hold
rounds_closed : (rows : List RowEntry) (from : ℕ) → RisesFrom number_of 0 rows → Closed rows (reached rows from)
rounds_closed rows from rise =
    let go : (b : Bool) → is_live rows from ≡ b → Closed rows (reached rows from) = elim [
      | true ↦ λ t. times_settle rows (length rows) (from ∷ []) rise (start_there rows from t)
      | false ↦ λ f. times_closed rows (length rows) (from ∷ []) rise (start_missing rows from f)
    ] in
    go (is_live rows from) refl

-- what a reached row holds is reached
pub reached_closed : (rows : List RowEntry) (from a b : ℕ) (r : Row) → RisesFrom number_of 0 rows → is_among a (reached rows from) ≡ true → row_at rows a ≡ Some r → is_among b (held_in r) ≡ true → is_among b (reached rows from) ≡ true
reached_closed rows from a b r rise h s t = rounds_closed rows from rise a b r h s t

-- what is reached from a reached number is reached
pub reached_further : (rows : List RowEntry) (a b m : ℕ) → RisesFrom number_of 0 rows → is_among b (reached rows a) ≡ true → is_among m (reached rows b) ≡ true → is_among m (reached rows a) ≡ true
reached_further rows a b m rise h t = reached_least rows b (λ n. is_among n (reached rows a)) rise h (λ x y r. reached_closed rows a x y r rise) m t

held_reached : (rows : List RowEntry) (from a : ℕ) → RisesFrom number_of 0 rows → (a == from || is_held_in rows (reached rows from) a) ≡ true → is_among a (reached rows from) ≡ true
held_reached rows from a rise h =
    elim (either_true (a == from) (is_held_in rows (reached rows from) a) h) [
      | inl t ↦ let same : from ≡ a = grind (arith, nat_tests) in ap (λ n. is_among n (reached rows from)) (sym same) ∙ reached_start rows from
      | inr t ↦ let p = row_holding rows (reached rows from) a rise t in reached_closed rows from p.0 a p.1 rise p.2 p.3 p.4
    ]

start_or_held : (rows : List RowEntry) (from m : ℕ) → RisesFrom number_of 0 rows → is_among m (reached rows from) ≡ true → (m == from || is_held_in rows (reached rows from) m) ≡ true
start_or_held rows from m rise h =
    reached_least rows from (λ n. n == from || is_held_in rows (reached rows from) n) rise (grind (arith, nat_tests)) (λ a b r k s t. grind (arith, nat_tests, held_in_row rows (reached rows from) a b r (held_reached rows from a rise k) s t)) m h

-- what is reached is the start, or a reached row holds it
pub reached_held : (rows : List RowEntry) (from m : ℕ) → RisesFrom number_of 0 rows → is_among m (reached rows from) ≡ true
    → (m ≡ from) ⊎ ((a : ℕ) × (r : Row) × (is_among a (reached rows from) ≡ true) × (row_at rows a ≡ Some r) × (is_among m (held_in r) ≡ true))
reached_held rows from m rise h =
    elim (either_true (m == from) (is_held_in rows (reached rows from) m) (start_or_held rows from m rise h)) [
      | inl t ↦ inl (grind (arith, nat_tests))
      | inr t ↦ inr (row_holding rows (reached rows from) m rise t)
    ]

-- a row isn't reached from one that it holds
pub no_way_back : (rows : List RowEntry) (a b : ℕ) (r : Row) → HasNoCycle rows → row_at rows a ≡ Some r → is_among b (held_in r) ≡ true → is_among a (reached rows b) ≡ false
no_way_back rows a b r none s t =
    let go : (x : Bool) → is_among a (reached rows b) ≡ x → is_among a (reached rows b) ≡ false = elim [
      | true ↦ λ back.
          let cycle : is_in_cycle rows (entry a r) ≡ true = among_passes (λ n. is_among a (reached rows n)) (held_in r) b t back in
          let some : list_any (is_in_cycle rows) rows ≡ true = list_any-found number_of (is_in_cycle rows) rows a (entry a r) (row_found rows a r s) cycle in
          cc
      | false ↦ λ f. f
    ] in
    go (is_among a (reached rows b)) refl

-- where no row is reached from one that it holds, there is no cycle
pub no_cycle_from : (rows : List RowEntry) → RisesFrom number_of 0 rows → ((a b : ℕ) (r : Row) → row_at rows a ≡ Some r → is_among b (held_in r) ≡ true → is_among a (reached rows b) ≡ false) → HasNoCycle rows
no_cycle_from rows rise apart =
    let go : (x : Bool) → list_any (is_in_cycle rows) rows ≡ x → list_any (is_in_cycle rows) rows ≡ false = elim [
      | true ↦ λ t.
          let p = found_passing number_of (is_in_cycle rows) 0 rows rise t in
          let q = passing_among (λ n. is_among p.0.who (reached rows n)) (held_in p.0.row) p.2 in
          let no : is_among p.0.who (reached rows q.0) ≡ false = apart p.0.who q.0 p.0.row (found_row rows p.0.who p.0 p.1) q.1 in
          let yes : is_among p.0.who (reached rows q.0) ≡ true = q.2 in
          cc
      | false ↦ λ f. f
    ] in
    go (list_any (is_in_cycle rows) rows) refl

-- what is reached in some of the rows is reached in all of them
pub reached_fewer : (some rows : List RowEntry) → RisesFrom number_of 0 some → RisesFrom number_of 0 rows → ((n : ℕ) (r : Row) → row_at some n ≡ Some r → row_at rows n ≡ Some r)
    → (from m : ℕ) → is_among m (reached some from) ≡ true → is_among m (reached rows from) ≡ true
reached_fewer some rows rise_some rise within from m h = reached_least some from (λ n. is_among n (reached rows from)) rise_some (reached_start rows from) (λ a b r k s t. reached_closed rows from a b r rise k (within a r s) t) m h

-- some of the rows have no cycle where all have none
pub no_cycle_fewer : (some rows : List RowEntry) → RisesFrom number_of 0 some → RisesFrom number_of 0 rows → ((n : ℕ) (r : Row) → row_at some n ≡ Some r → row_at rows n ≡ Some r) → HasNoCycle rows → HasNoCycle some
no_cycle_fewer some rows rise_some rise within none =
    no_cycle_from some rise_some (λ a b r s t. grind (arith, nat_tests, reached_fewer some rows rise_some rise within b a, no_way_back rows a b r none (within a r s) t))
