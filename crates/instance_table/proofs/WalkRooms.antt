-- How much room a walk through the places that lead on may take, and numbers in a room.
use Rattle.std.proofs.Common.{◌≡◌, ℕ, zero, suc, ◌+◌, ◌<◌, ◌≤◌, true, ◌||◌, ◌==◌, List, [], ◌∷◌, ◌++◌, length, get_or, filter, map, take, drop, Some, None, is_some, Err, HoldsAt, nat_cmp, Equal, ℤ, sym, ap, ◌∙◌, arith}
use Rattle.std.specs.List.{flat_map, list_any}
use Rattle.std.specs.List.Sorted.{IsBinarySearchResult, IsSearchInRange}
use Rattle.std.proofs.lemmas.Bool.Decides.{nat_tests}
use Rattle.std.proofs.lemmas.List.{length-append, length-map}
use Rattle.std.proofs.lemmas.List.Sums.{sum_by-cons}
use Rattle.lists.specs.Rising.{RisesFrom, find}
use Rattle.lists.proofs.Options.{mapped_some}
use Rattle.lists.proofs.Passing.{any_found, length-filter_most, length_within, list_any-made, list_any-map, list_any_filtered}
use Rattle.lists.proofs.Places.{compares_in_order, find_here, find_missing, is_equal, put_missing, IsAbove-before, RisesFrom-after}
use Rattle.schema_model.specs.Classes.{Schema}
use Rattle.state_model.specs.declared.row.Row.{Row}
use Rattle.state_model.specs.declared.row.Row.TheVariants.{Struct}
use Rattle.state_model.specs.declared.row.RowEntry.{RowEntry}
use Rattle.state_model.specs.declared.row.FieldValue.{FieldValue}
use Rattle.state_model.specs.Members.{leads_on, row_through, rows_through}
use Rattle.state_model.specs.Places.{tag_of}
use Rattle.state_model.specs.Reached.{is_among, reached, with_number}
use Rattle.state_model.specs.Rows.{number_of, row_at, is_live, held_in, values_in, place_count}
use Rattle.state_model.specs.Sound.{are_sound}
use Rattle.state_model.specs.Values.{held_by}
use Rattle.state_laws.proofs.ReachedLaws.{reached_least, reached_rises}
use Rattle.command_laws.proofs.SoundRows.{sound_links, sound_rises}
use Rattle.plain_rows.specs.Links.{links_where}
use Rattle.plain_rows.proofs.Walks.{Walked}
use Rattle.instance_table.proofs.BehindLaws.{row_at_through, through_rise}
use Rattle.instance_table.proofs.HolderLists.{held_few}

-- ---- where a view edit goes

-- what a row holds in the places that lead on, it holds
held_through_held : (schema : Schema) (tag : ℤ) (r : Row) (n : ℕ) → is_among n (held_in (row_through schema tag r)) ≡ true → is_among n (held_in r) ≡ true
held_through_held schema tag (Struct class fields) n h =
    let holds = λ (f : FieldValue). list_any (λ m. m == n) (held_by f.value) in
    let leads = λ (f : FieldValue). leads_on tag (tag_of schema class f.field) in
    let by = λ (fs : List FieldValue). list_any-made (λ m. m == n) held_by (λ (f : FieldValue). f.value) fs in
    by fields ∙ list_any_filtered holds leads fields (sym (by (filter leads fields)) ∙ h)
held_through_held schema tag r n h = h

-- from a row that is there it goes to rows that are there
pub reached_there : (schema : Schema) (rows : List RowEntry) (tag : ℤ) (who n : ℕ) → are_sound schema rows ≡ true → is_live rows who ≡ true
    → is_among n (reached (rows_through schema tag rows) who) ≡ true → is_live rows n ≡ true
reached_there schema rows tag who n sound live h =
    let step : (a b : ℕ) (r : Row) → is_live rows a ≡ true → row_at (rows_through schema tag rows) a ≡ Some r → is_among b (held_in r) ≡ true → is_live rows b ≡ true = λ a b r k s t.
    let own = mapped_some (row_through schema tag) (row_at rows a) r (sym (row_at_through schema tag rows a) ∙ s) in
    sound_links schema rows sound a b own.0 own.1 (held_through_held schema tag own.0 b (ap (λ q. is_among b (held_in q)) own.2 ∙ t)) in
    reached_least (rows_through schema tag rows) who (is_live rows) (through_rise schema tag 0 rows (sound_rises schema rows sound)) live step n h

numbers_rise : (low : ℕ) (rows : List RowEntry) → RisesFrom number_of low rows → RisesFrom (λ m. m) low (map number_of rows)
numbers_rise low [] r = tt
numbers_rise low (e ∷ rows) r = (r.0, numbers_rise (suc e.who) rows r.1)

-- it goes to no more rows than there are
pub reached_few : (schema : Schema) (rows : List RowEntry) (tag : ℤ) (who : ℕ) → are_sound schema rows ≡ true → is_live rows who ≡ true
    → length (reached (rows_through schema tag rows) who) ≤ length rows
reached_few schema rows tag who sound live =
    let thru = rows_through schema tag rows in
    let here : (k : ℕ) → is_some (find (λ m. m) k (reached thru who)) ≡ true → is_some (find (λ m. m) k (map number_of rows)) ≡ true = λ k h.
    sym (any_found (λ m. m) k (map number_of rows)) ∙ (list_any-map (λ m. m == k) number_of rows ∙ reached_there schema rows tag who k sound live (any_found (λ m. m) k (reached thru who) ∙ h)) in
    omega (arith, length_within (λ m. m) 0 0 (reached thru who) (map number_of rows) (reached_rises thru who) (numbers_rise 0 rows (sound_rises schema rows sound)) here, length-map rows number_of)

-- ---- how many links there are

-- what the first items hold, and the next one, is no more than what all hold
pub part_held : {A : Type 0} (h : A → List ℕ) (xs : List A) (k : ℕ) (x : A) → k < length xs → x ≡ get_or xs k x → length (flat_map h (take k xs)) + length (h x) ≤ length (flat_map h xs)
part_held h [] k x l e = absurd (omega arith)
part_held h (y ∷ ys) zero x l e = omega (arith, ap (λ z. length (h z)) e, length-append (h y) (flat_map h ys))
part_held h (y ∷ ys) (suc k) x l e = omega (arith, part_held h ys k x (omega arith) e, length-append (h y) (flat_map h (take k ys)), length-append (h y) (flat_map h ys))

-- a row holds no more in the places that lead on than it has places
through_few : (schema : Schema) (tag : ℤ) (r : Row) → length (held_in (row_through schema tag r)) ≤ length (values_in r)
through_few schema tag (Struct class fields) =
    let leads = λ (f : FieldValue). leads_on tag (tag_of schema class f.field) in
    let value = λ (f : FieldValue). f.value in
    omega (arith, held_few (map value (filter leads fields)), length-map (filter leads fields) value, length-filter_most leads fields, length-map fields value)
through_few schema tag r = held_few (values_in r)

-- there are no more of them than places
pub links_few : (schema : Schema) (tag : ℤ) (rows : List RowEntry) → links_where (λ k. true) (rows_through schema tag rows) ≤ place_count rows
links_few schema tag [] = omega arith
links_few schema tag (e ∷ rows) =
    let thru : RowEntry = record { who = e.who; row = row_through schema tag e.row } in
    omega (arith, links_few schema tag rows, through_few schema tag e.row, sum_by-cons (λ (x : RowEntry). length (values_in x.row)) e rows, sum_by-cons (λ (x : RowEntry). length (held_in x.row)) thru (rows_through schema tag rows))

-- ---- a walk

-- it saw no more numbers than it gets to
pub walked_few : (rows : List RowEntry) (from : ℕ) (seen waiting : List ℕ) → Walked rows from seen waiting → length seen ≤ length (reached rows from)
walked_few rows from seen waiting w =
    let here : (k : ℕ) → is_some (find (λ m. m) k seen) ≡ true → is_some (find (λ m. m) k (reached rows from)) ≡ true = λ k h.
    sym (any_found (λ m. m) k (reached rows from)) ∙ w.within k (ap (λ b. b || is_among k waiting) (any_found (λ m. m) k seen ∙ h)) in
    length_within (λ m. m) 0 0 seen (reached rows from) w.rises (reached_rises rows from) here

-- ---- numbers in a room

-- with a number there is one
pub some_put : (n : ℕ) (ns : List ℕ) → 0 < length (with_number ns n)
some_put n [] = omega arith
some_put n (m ∷ ns) = grind (arith, nat_tests)

-- what a search finds is among them
pub among_at : (k : ℕ) (ns : List ℕ) (at : ℕ) → RisesFrom (λ m. m) 0 ns → at < length ns → HoldsAt (λ y. nat_cmp y k ≡ Equal) ns at → is_among k ns ≡ true
among_at k ns at r l h = any_found (λ m. m) k ns ∙ ap is_some (find_here (λ m. m) 0 k ns at 0 r l (is_equal (get_or ns at 0) k (h 0)))

-- what it doesn't find isn't, and its place is where the search ends
pub record IsMissing (k : ℕ) (ns : List ℕ) (at : ℕ) : Type 0 where
  pub bound : at ≤ length ns
  pub none : find (λ m. m) k ns ≡ None
  pub put : take at ns ++ k ∷ drop at ns ≡ with_number ns k

pub missing_at : (k : ℕ) (ns : List ℕ) (at : ℕ) → RisesFrom (λ m. m) 0 ns → IsSearchInRange (Err at) (length ns) → IsBinarySearchResult (λ y. nat_cmp y k) ns (Err at) → IsMissing k ns at
missing_at k ns at rises bound found =
    let parts = found (compares_in_order (λ m. m) 0 k ns rises) in
    let before = IsAbove-before (λ m. m) k ns at bound parts.0 in
    let after = RisesFrom-after (λ m. m) 0 k ns at rises parts.1 in
    record { bound = bound; none = find_missing (λ m. m) k ns at before after; put = sym (put_missing (λ m. m) k ns at before after) }
