-- Numbers among lists of numbers, rows by their numbers, and which rows hold a number.
use Rattle.std.proofs.Common.{◌≡◌, ℕ, Bool, true, false, cond, ◌&&◌, ◌||◌, ◌==◌, List, [], ◌∷◌, ◌++◌, Option, Some, None, is_some, filter, refl, sym, ap, ◌∙◌, arith}
use Rattle.std.specs.List.{list_any}
use Rattle.std.specs.Option.{option_map}
use Rattle.std.proofs.lemmas.Bool.Decides.{nat_tests}
use Rattle.lists.specs.Rising.{RisesFrom, find}
use Rattle.lists.proofs.RisingLaws.{find_key, RisesFrom-put}
use Rattle.state_model.specs.declared.row.Row.{Row}
use Rattle.state_model.specs.declared.row.RowEntry.{RowEntry}
use Rattle.state_model.specs.Rows.{number_of, row_at, is_live, held_in, put_row, rows_of}
use Rattle.state_model.specs.Reached.{is_among, with_number, with_numbers, all_held, grown}
use Rattle.std.proofs.lemmas.Bool.{and_parts}
use Rattle.std.proofs.lemmas.List.Folds.{list_any-append}
use Rattle.lists.proofs.Options.{mapped_some, mapped_none}
use Rattle.lists.proofs.Passing.{list_any-found, found_passing, list_any-filter, list_any-flat_map}

-- a number that is there and passes is one that passes
pub among_passes : (p : ℕ → Bool) (ns : List ℕ) (n : ℕ) → is_among n ns ≡ true → p n ≡ true → list_any p ns ≡ true
among_passes p [] n h t = h
among_passes p (m ∷ ns) n h t = grind (arith, nat_tests, among_passes p ns n)

-- where a number passes, one that is there does
pub passing_among : (p : ℕ → Bool) (ns : List ℕ) → list_any p ns ≡ true → (n : ℕ) × (is_among n ns ≡ true) × (p n ≡ true)
passing_among p [] h = cc
passing_among p (m ∷ ns) h =
    let go : (b : Bool) → p m ≡ b → (n : ℕ) × (is_among n (m ∷ ns) ≡ true) × (p n ≡ true) = elim [
      | true ↦ λ t. (m, grind (arith, nat_tests), t)
      | false ↦ λ f. let rest = passing_among p ns (rw f at h) in (rest.0, grind (arith, nat_tests), rest.2)
    ] in
    go (p m) refl

-- a number is in two lists, one behind the other, where it is in either
pub among_both : (ns ms : List ℕ) (k : ℕ) → is_among k (ns ++ ms) ≡ (is_among k ns || is_among k ms)
among_both ns ms k = list_any-append (λ m. m == k) ns ms

-- the numbers with one more have that one and no other new one
pub among_with_number : (ns : List ℕ) (n k : ℕ) → is_among k (with_number ns n) ≡ (n == k || is_among k ns)
among_with_number [] n k = refl
among_with_number (m ∷ ns) n k = grind (arith, nat_tests, among_with_number ns n k)

-- the numbers with these have those of both lists
pub among_with : (ns ms : List ℕ) (k : ℕ) → is_among k (with_numbers ns ms) ≡ (is_among k ns || is_among k ms)
among_with ns [] k = grind (arith, nat_tests)
among_with ns (m ∷ ms) k = grind (arith, nat_tests, among_with (with_number ns m) ms k, among_with_number ns m k)

-- numbers that rise do so with more of them
pub rises_with : (ns ms : List ℕ) → RisesFrom (λ m. m) 0 ns → RisesFrom (λ m. m) 0 (with_numbers ns ms)
rises_with ns [] r = r
rises_with ns (m ∷ ms) r = rises_with (with_number ns m) ms (RisesFrom-put (λ m. m) 0 m ns r (omega arith))

-- a row is there exactly where its number finds one
pub live_found : (rows : List RowEntry) (n : ℕ) → is_live rows n ≡ is_some (find number_of n rows)
live_found [] n = refl
live_found (e ∷ rows) n = grind (arith, nat_tests, live_found rows n)

-- a row is there exactly where a row stands at its number
pub live_row : (rows : List RowEntry) (n : ℕ) → is_live rows n ≡ is_some (row_at rows n)
live_row [] n = refl
live_row (e ∷ rows) n = grind (arith, nat_tests, live_row rows n)

-- a row with its number
abbrev pub entry : ℕ → Row → RowEntry
entry n r = record { who = n; row = r }

same_entry : (e : RowEntry) (n : ℕ) (r : Row) → e.who ≡ n → e.row ≡ r → e ≡ entry n r
same_entry e n r s t = ap (λ k. entry k e.row) s ∙ ap (λ q. entry n q) t

-- the row that stands at a number is found with that number
pub row_found : (rows : List RowEntry) (n : ℕ) (r : Row) → row_at rows n ≡ Some r → find number_of n rows ≡ Some (entry n r)
row_found rows n r h =
    let found = mapped_some (λ (e : RowEntry). e.row) (find number_of n rows) r h in
    let same : found.0.who ≡ n = find_key number_of n rows found.0 found.1 in
    found.1 ∙ ap Some (same_entry found.0 n r same found.2)

-- what is found with its number stands at it
pub found_row : (rows : List RowEntry) (n : ℕ) (e : RowEntry) → find number_of n rows ≡ Some e → row_at rows n ≡ Some e.row
found_row rows n e h = ap (option_map (λ (e : RowEntry). e.row)) h

-- rows that have the same row at a number find the same there
pub found_same : (xs ys : List RowEntry) (n : ℕ) → row_at xs n ≡ row_at ys n → find number_of n xs ≡ find number_of n ys
found_same xs ys n h =
    let go : (o : Option Row) → row_at ys n ≡ o → find number_of n xs ≡ find number_of n ys = elim [
      | Some r ↦ λ s. row_found xs n r (h ∙ s) ∙ sym (row_found ys n r s)
      | None ↦ λ s. mapped_none (λ (e : RowEntry). e.row) (find number_of n xs) (h ∙ s) ∙ sym (mapped_none (λ (e : RowEntry). e.row) (find number_of n ys) s)
    ] in
    go (row_at ys n) refl

-- a row that stands at a number is there
pub live_at : (rows : List RowEntry) (n : ℕ) (r : Row) → row_at rows n ≡ Some r → is_live rows n ≡ true
live_at rows n r h = live_row rows n ∙ ap is_some h

-- a row that is there stands at its number
pub at_live : (rows : List RowEntry) (n : ℕ) → is_live rows n ≡ true → (r : Row) × (row_at rows n ≡ Some r)
at_live rows n h =
    let go : (o : Option Row) → row_at rows n ≡ o → (r : Row) × (row_at rows n ≡ Some r) = elim [
      | Some r ↦ λ s. (r, s)
      | None ↦ λ s. let none : is_live rows n ≡ false = live_row rows n ∙ ap is_some s in cc
    ] in
    go (row_at rows n) refl

-- a test answers alike for equal numbers
pub keep_same : (keep : ℕ → Bool) (a b : ℕ) → a ≡ b → keep a ≡ keep b
keep_same keep a b h = ap keep h

-- rows that are chosen by their numbers are there where they were and are chosen
pub live_chosen : (keep : ℕ → Bool) (rows : List RowEntry) (n : ℕ) → is_live (filter (λ (e : RowEntry). keep e.who) rows) n ≡ (keep n && is_live rows n)
live_chosen keep [] n = grind (arith, nat_tests)
live_chosen keep (e ∷ rows) n = grind (arith, nat_tests, live_chosen keep rows n, keep_same keep e.who n)

-- rows that are chosen by their numbers stand where they stood
pub row_chosen : (keep : ℕ → Bool) (rows : List RowEntry) (n : ℕ) → row_at (filter (λ (e : RowEntry). keep e.who) rows) n ≡ cond (keep n) (row_at rows n) None
row_chosen keep [] n = grind (arith, nat_tests)
row_chosen keep (e ∷ rows) n = grind (arith, nat_tests, row_chosen keep rows n, keep_same keep e.who n)

-- a number is held exactly where a row holds it
pub among_held : (rows : List RowEntry) (k : ℕ) → is_among k (all_held rows) ≡ list_any (λ (e : RowEntry). is_among k (held_in e.row)) rows
among_held rows k = list_any-flat_map (λ m. m == k) (λ (e : RowEntry). held_in e.row) rows

-- a row that is one of these numbers holds this one
abbrev pub is_held_in : List RowEntry → List ℕ → ℕ → Bool
is_held_in rows ns k = list_any (λ (e : RowEntry). is_among e.who ns && is_among k (held_in e.row)) rows

-- a number is held by the rows of these numbers exactly where a row that is one of them holds it
pub among_held_of : (ns : List ℕ) (rows : List RowEntry) (k : ℕ) → is_among k (all_held (rows_of ns rows)) ≡ is_held_in rows ns k
among_held_of ns rows k = among_held (rows_of ns rows) k ∙ list_any-filter (λ (e : RowEntry). is_among k (held_in e.row)) (λ (e : RowEntry). is_among e.who ns) rows

-- a row that stands at one of these numbers and holds another makes it held
pub held_in_row : (rows : List RowEntry) (ns : List ℕ) (a b : ℕ) (r : Row) → is_among a ns ≡ true → row_at rows a ≡ Some r → is_among b (held_in r) ≡ true → is_held_in rows ns b ≡ true
held_in_row rows ns a b r h s t = list_any-found number_of (λ (e : RowEntry). is_among e.who ns && is_among b (held_in e.row)) rows a (entry a r) (row_found rows a r s) (ap (λ x. x && is_among b (held_in r)) h ∙ t)

-- what rows of these numbers hold, where rows rise, is held by one that stands at such a number
pub row_holding : (rows : List RowEntry) (ns : List ℕ) (b : ℕ) → RisesFrom number_of 0 rows → is_held_in rows ns b ≡ true → (a : ℕ) × (r : Row) × (is_among a ns ≡ true) × (row_at rows a ≡ Some r) × (is_among b (held_in r) ≡ true)
row_holding rows ns b rise h =
    let p = found_passing number_of (λ (e : RowEntry). is_among e.who ns && is_among b (held_in e.row)) 0 rows rise h in
    let both = and_parts (is_among p.0.who ns) (is_among b (held_in p.0.row)) p.2 in
    (p.0.who, p.0.row, both.0, found_row rows p.0.who p.0 p.1, both.1)

-- a row that stands at a number and holds another makes it held
pub held_by_row : (rows : List RowEntry) (a b : ℕ) (r : Row) → row_at rows a ≡ Some r → is_among b (held_in r) ≡ true → is_among b (all_held rows) ≡ true
held_by_row rows a b r h t = among_held rows b ∙ list_any-found number_of (λ (e : RowEntry). is_among b (held_in e.row)) rows a (entry a r) (row_found rows a r h) t

-- what is held in rows that rise is held by a row that stands at a number
pub holder_row : (rows : List RowEntry) (b : ℕ) → RisesFrom number_of 0 rows → is_among b (all_held rows) ≡ true → (a : ℕ) × (r : Row) × (row_at rows a ≡ Some r) × (is_among b (held_in r) ≡ true)
holder_row rows b rise h =
    let p = found_passing number_of (λ (e : RowEntry). is_among b (held_in e.row)) 0 rows rise (sym (among_held rows b) ∙ h) in
    (p.0.who, p.0.row, found_row rows p.0.who p.0 p.1, p.2)

-- a step adds what the rows of the numbers hold
pub among_grown : (rows : List RowEntry) (ns : List ℕ) (k : ℕ) → is_among k (grown rows ns) ≡ (is_among k ns || is_held_in rows ns k)
among_grown rows ns k = among_with ns (all_held (rows_of ns rows)) k ∙ ap (λ b. is_among k ns || b) (among_held_of ns rows k)

-- rows rise where one is put
pub put_rises : (rows : List RowEntry) (who : ℕ) (row : Row) → RisesFrom number_of 0 rows → RisesFrom number_of 0 (put_row who row rows)
put_rises rows who row rise = RisesFrom-put number_of 0 (entry who row) rows rise (omega arith)
