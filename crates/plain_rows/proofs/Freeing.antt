-- Freeing number by number: what is left, how often it is held, and which numbers wait to be looked at.
use Rattle.std.proofs.Common.{◌≡◌, ℕ, zero, suc, ◌+◌, ◌-◌, ◌<◌, Bool, true, false, cond, not, ◌&&◌, ◌||◌, ◌==◌, List, [], ◌∷◌, ◌++◌, length, Option, Some, None, is_some, get_or, take, refl, sym, ap, ◌∙◌, arith, inl, inr}
use Rattle.std.specs.Option.{option_map_or}
use Rattle.std.proofs.lemmas.Bool.Decides.{nat_tests}
use Rattle.std.proofs.lemmas.List.{length-append}
use Rattle.std.proofs.lemmas.List.Folds.{list_any_more}
use Rattle.lists.specs.Rising.{RisesFrom, remove}
use Rattle.lists.proofs.RisingLaws.{find_below, RisesFrom-filter, same_rising}
use Rattle.state_model.specs.declared.row.Row.{Row}
use Rattle.state_model.specs.declared.row.RowEntry.{RowEntry}
use Rattle.state_model.specs.Rows.{number_of, row_at, is_live, held_in, rows_of}
use Rattle.state_model.specs.Reached.{times, is_among, with_number, all_held, swept_once, freed}
use Rattle.state_laws.proofs.Numbers.{among_with_number, live_found, live_row, live_at, found_same, row_chosen, held_by_row, holder_row, among_both}
use Rattle.state_laws.proofs.Counts.{count_both, count_among}
use Rattle.state_laws.proofs.FreedLaw.{freed_rises, swept_keeps}
use Rattle.state_laws.proofs.FreedParts.{freed_within, freed_held, passed}
use Rattle.state_laws.specs.Counts.{count_of}
use Rattle.plain_rows.specs.Counts.{counted}
use Rattle.plain_rows.specs.Links.{held_at, links_where}
use Rattle.plain_rows.proofs.Walks.{links_fewer, row_held}

-- the greatest rows of which each but 0 is held

still_held : (some now : List RowEntry) (n : ℕ) → RisesFrom number_of 0 some → ((a : ℕ) (r : Row) → row_at some a ≡ Some r → row_at now a ≡ Some r) → (n == 0 || is_among n (all_held some)) ≡ true → (n == 0 || is_among n (all_held now)) ≡ true
still_held some now n rise within h =
    let go : (b : Bool) → n == 0 ≡ b → (n == 0 || is_among n (all_held now)) ≡ true = elim [
      | true ↦ λ t. grind (arith, nat_tests)
      | false ↦ λ f. let p = holder_row some n rise (rw f at h) in let there : is_among n (all_held now) ≡ true = held_by_row now p.0 n p.1 (within p.0 p.1 p.2) p.3 in grind (arith, nat_tests)
    ] in
    go (n == 0) refl

rounds_greatest : (k : ℕ) (some now : List RowEntry) → RisesFrom number_of 0 some → ((n : ℕ) (r : Row) → row_at some n ≡ Some r → (n == 0 || is_among n (all_held some)) ≡ true)
    → ((n : ℕ) (r : Row) → row_at some n ≡ Some r → row_at now n ≡ Some r) → (n : ℕ) (r : Row) → row_at some n ≡ Some r → row_at (times k swept_once now) n ≡ Some r
rounds_greatest zero some now rise held within n r s = within n r s
rounds_greatest (suc k) some now rise held within n r s =
    rounds_greatest k some (swept_once now) rise held (λ m q t. swept_keeps now m q (within m q t) (still_held some now m rise within (held m q t))) n r s

-- rows of which each but 0 is held by one of them are left
pub freed_greatest : (some rows : List RowEntry) → RisesFrom number_of 0 some → ((n : ℕ) (r : Row) → row_at some n ≡ Some r → (n == 0 || is_among n (all_held some)) ≡ true)
    → ((n : ℕ) (r : Row) → row_at some n ≡ Some r → row_at rows n ≡ Some r) → (n : ℕ) (r : Row) → row_at some n ≡ Some r → row_at (freed rows) n ≡ Some r
freed_greatest some rows rise held within n r s = rounds_greatest (length rows) some rows rise held within n r s

-- counts

among_removed : (ns : List ℕ) (n k : ℕ) → is_among k (remove (λ m. m) n ns) ≡ (not (n == k) && is_among k ns)
among_removed [] n k = grind (arith, nat_tests)
among_removed (m ∷ ns) n k = grind (arith, nat_tests, among_removed ns n k)

-- without a number that has no row, the rows are the same
rows_without : (rows : List RowEntry) (left : List ℕ) (n : ℕ) → is_live rows n ≡ false → rows_of (remove (λ m. m) n left) rows ≡ rows_of left rows
rows_without [] left n h = refl
rows_without (e ∷ rows) left n h = grind (arith, nat_tests, among_removed left n e.who, rows_without rows left n)

all_held_more : (k : ℕ) (e : RowEntry) (rows : List RowEntry) → count_of k (all_held (e ∷ rows)) ≡ count_of k (held_in e.row) + count_of k (all_held rows)
all_held_more k e rows = count_both k (held_in e.row) (all_held rows)

kept_count : (k : ℕ) (left : List ℕ) (e : RowEntry) (rows : List RowEntry) → count_of k (all_held (rows_of left (e ∷ rows))) ≡ cond (is_among e.who left) (count_of k (held_in e.row)) 0 + count_of k (all_held (rows_of left rows))
kept_count k left e rows =
    elim (is_among e.who left) as (λ b. count_of k (all_held (cond b (e ∷ rows_of left rows) (rows_of left rows))) ≡ cond b (count_of k (held_in e.row)) 0 + count_of k (all_held (rows_of left rows))) [
      | true ↦ all_held_more k e (rows_of left rows)
      | false ↦ omega arith
    ]

same_among : (ns : List ℕ) (a b : ℕ) → a ≡ b → is_among a ns ≡ is_among b ns
same_among ns a b h = ap (λ k. is_among k ns) h

held_first : (e : RowEntry) (rows : List RowEntry) (n : ℕ) → e.who ≡ n → held_at (e ∷ rows) n ≡ held_in e.row
held_first e rows n h = row_held (e ∷ rows) n e.row (grind (arith, nat_tests))

row_behind : (e : RowEntry) (rows : List RowEntry) (n : ℕ) → (e.who == n) ≡ false → row_at (e ∷ rows) n ≡ row_at rows n
row_behind e rows n h = grind (arith, nat_tests)

none_behind : (e : RowEntry) (rows : List RowEntry) (n : ℕ) → RisesFrom number_of (suc e.who) rows → e.who ≡ n → is_live rows n ≡ false
none_behind e rows n r h = live_found rows n ∙ ap is_some (find_below number_of (suc e.who) rows n r (omega arith))

-- without a number that was left, what its row holds is held so much less
counts_without : (low : ℕ) (rows : List RowEntry) (left : List ℕ) (n k : ℕ) → RisesFrom number_of low rows → is_among n left ≡ true
    → count_of k (all_held (rows_of left rows)) ≡ count_of k (held_at rows n) + count_of k (all_held (rows_of (remove (λ m. m) n left) rows))
counts_without low [] left n k r h = refl
counts_without low (e ∷ rows) left n k r h =
    let before = kept_count k left e rows in
    let after = kept_count k (remove (λ m. m) n left) e rows in
    let there = among_removed left n e.who in
    let go : (b : Bool) → e.who == n ≡ b → count_of k (all_held (rows_of left (e ∷ rows))) ≡ count_of k (held_at (e ∷ rows) n) + count_of k (all_held (rows_of (remove (λ m. m) n left) (e ∷ rows))) = elim [
      | true ↦ λ t.
          let same : e.who ≡ n = grind (arith, nat_tests) in
          let inside : is_among e.who left ≡ true = same_among left e.who n same ∙ h in
          let outside : is_among e.who (remove (λ m. m) n left) ≡ false = grind (arith, nat_tests) in
          let held : count_of k (held_at (e ∷ rows) n) ≡ count_of k (held_in e.row) = ap (count_of k) (held_first e rows n same) in
          let rest : count_of k (all_held (rows_of (remove (λ m. m) n left) rows)) ≡ count_of k (all_held (rows_of left rows)) = ap (λ rs. count_of k (all_held rs)) (rows_without rows left n (none_behind e rows n r.1 same)) in
          let was : count_of k (all_held (rows_of left (e ∷ rows))) ≡ count_of k (held_in e.row) + count_of k (all_held (rows_of left rows)) = before
          ∙ ap (λ b. cond b (count_of k (held_in e.row)) 0 + count_of k (all_held (rows_of left rows))) inside in
          let is : count_of k (all_held (rows_of (remove (λ m. m) n left) (e ∷ rows))) ≡ 0 + count_of k (all_held (rows_of (remove (λ m. m) n left) rows)) = after
          ∙ ap (λ b. cond b (count_of k (held_in e.row)) 0 + count_of k (all_held (rows_of (remove (λ m. m) n left) rows))) outside in
          omega (arith, was, is, held, rest)
      | false ↦ λ f.
          let as_before : is_among e.who (remove (λ m. m) n left) ≡ is_among e.who left = grind (arith, nat_tests) in
          let held : count_of k (held_at (e ∷ rows) n) ≡ count_of k (held_at rows n) = ap (λ o. count_of k (option_map_or held_in o [])) (row_behind e rows n f) in
          let kept : count_of k (all_held (rows_of (remove (λ m. m) n left) (e ∷ rows))) ≡ cond (is_among e.who left) (count_of k (held_in e.row)) 0 + count_of k (all_held (rows_of (remove (λ m. m) n left) rows)) =
          after ∙ ap (λ b. cond b (count_of k (held_in e.row)) 0 + count_of k (all_held (rows_of (remove (λ m. m) n left) rows))) as_before in
          omega (arith, before, kept, held, counts_without (suc e.who) rows left n k r.1 h)
    ] in
    go (e.who == n) refl

-- what is left on the way: how often it is held is counted, all that nothing holds waits, and nothing is taken that stays
pub record Freeing (rows : List RowEntry) (left waiting : List ℕ) (counts : List (ℕ × ℕ)) : Type 0 where
  pub count : (k : ℕ) → counted counts k ≡ count_of k (all_held (rows_of left rows))
  pub cover : (k : ℕ) (r : Row) → row_at (rows_of left rows) k ≡ Some r → (k == 0) ≡ false → counted counts k ≡ 0 → is_among k waiting ≡ true
  pub keeps : (k : ℕ) (r : Row) → row_at (freed rows) k ≡ Some r → is_among k left ≡ true

there_or_none : (o : Option Row) → cond (is_some o) o None ≡ o
there_or_none None = refl
there_or_none (Some r) = refl

row_left : (rows : List RowEntry) (left : List ℕ) (k : ℕ) → row_at (rows_of left rows) k ≡ cond (is_among k left) (row_at rows k) None
row_left rows left k = row_chosen (λ m. is_among m left) rows k

left_row : (rows : List RowEntry) (left : List ℕ) (k : ℕ) (r : Row) → row_at (rows_of left rows) k ≡ Some r → (is_among k left ≡ true) × (row_at rows k ≡ Some r)
left_row rows left k r h = passed (is_among k left) (row_at rows k) r (sym (row_left rows left k) ∙ h)

row_kept : (rows : List RowEntry) (left : List ℕ) (k : ℕ) (r : Row) → is_among k left ≡ true → row_at rows k ≡ Some r → row_at (rows_of left rows) k ≡ Some r
row_kept rows left k r h s = row_left rows left k ∙ ap (λ b. cond b (row_at rows k) None) h ∙ s

left_rises : (rows : List RowEntry) (left : List ℕ) → RisesFrom number_of 0 rows → RisesFrom number_of 0 (rows_of left rows)
left_rises rows left r = RisesFrom-filter number_of 0 (λ (e : RowEntry). is_among e.who left) rows r

-- with the numbers of all rows, all rows are left
all_left : (rows : List RowEntry) (left : List ℕ) → RisesFrom number_of 0 rows → ((k : ℕ) → is_among k left ≡ is_live rows k) → rows_of left rows ≡ rows
all_left rows left r h =
    same_rising number_of 0 0 (rows_of left rows) rows (left_rises rows left r) r
    (λ k. found_same (rows_of left rows) rows k (row_left rows left k ∙ ap (λ b. cond b (row_at rows k) None) (h k ∙ live_row rows k) ∙ there_or_none (row_at rows k)))

pub freeing_start : (rows : List RowEntry) (left : List ℕ) (counts : List (ℕ × ℕ)) → RisesFrom number_of 0 rows → ((k : ℕ) → is_among k left ≡ is_live rows k) → ((k : ℕ) → counted counts k ≡ count_of k (all_held rows)) → Freeing rows left left counts
freeing_start rows left counts rise h c = record {
  count = λ k. c k ∙ ap (λ rs. count_of k (all_held rs)) (sym (all_left rows left rise h));
  cover = λ k r s f z. (left_row rows left k r s).0;
  keeps = λ k r s. h k ∙ live_at rows k r (freed_within rows k r rise s);
}

-- a number is taken: it isn't 0, nothing that is left holds it, and it was left
abbrev pub is_taken : List (ℕ × ℕ) → List ℕ → ℕ → Bool
is_taken counts left n = not (n == 0) && (counted counts n == 0) && is_among n left

held_by_left : (rows : List RowEntry) (left : List ℕ) (a n : ℕ) (q : Row) → is_among a left ≡ true → row_at rows a ≡ Some q → is_among n (held_in q) ≡ true → count_of n (all_held (rows_of left rows)) ≡ 0 → ⊥
held_by_left rows left a n q h s t z =
    let there : is_among n (all_held (rows_of left rows)) ≡ true = held_by_row (rows_of left rows) a n q (row_kept rows left a q h s) t in
    let not_there : is_among n (all_held (rows_of left rows)) ≡ false = count_among n (all_held (rows_of left rows)) ∙ ap (λ c. not (c == 0)) z in
    grind (arith, nat_tests)

-- what is taken isn't among the rows that stay
taken_goes : (rows : List RowEntry) (left waiting : List ℕ) (counts : List (ℕ × ℕ)) (n : ℕ) (r : Row) → RisesFrom number_of 0 rows → Freeing rows left waiting counts → is_taken counts left n ≡ true → row_at (freed rows) n ≡ Some r → ⊥
taken_goes rows left waiting counts n r rise f t s =
    elim (freed_held rows n r rise s) [
      | inl zero_is ↦ grind (arith, nat_tests)
      | inr p ↦ let none : counted counts n ≡ 0 = grind (arith, nat_tests) in held_by_left rows left p.0 n p.1 (f.keeps p.0 p.1 p.2) (freed_within rows p.0 p.1 rise p.2) p.3 (sym (f.count n) ∙ none)
    ]

keeps_on : (rows : List RowEntry) (left waiting : List ℕ) (counts : List (ℕ × ℕ)) (n k : ℕ) (r : Row) → RisesFrom number_of 0 rows → Freeing rows left waiting counts
    → is_taken counts left n ≡ true → row_at (freed rows) k ≡ Some r → is_among k (remove (λ m. m) n left) ≡ true
keeps_on rows left waiting counts n k r rise f t s =
    let kept : is_among k left ≡ true = f.keeps k r s in
    let go : (b : Bool) → n == k ≡ b → is_among k (remove (λ m. m) n left) ≡ true = elim [
      | true ↦ λ e. let same : n ≡ k = grind (arith, nat_tests) in absurd (taken_goes rows left waiting counts n r rise f t (ap (λ m. row_at (freed rows) m) same ∙ s))
      | false ↦ λ e. grind (arith, nat_tests, among_removed left n k)
    ] in
    go (n == k) refl

waits_still : (old now more : List ℕ) (n k : ℕ) → old ≡ now ++ n ∷ [] → (n == k) ≡ false → is_among k old ≡ true → is_among k (now ++ more) ≡ true
waits_still old now more n k e f h =
    let split : is_among k old ≡ (is_among k now || is_among k (n ∷ [])) = ap (λ ns. is_among k ns) e ∙ among_both now (n ∷ []) k in
    grind (arith, nat_tests, among_both now more k)

count_on : (rows : List RowEntry) (left waiting : List ℕ) (counts lowered : List (ℕ × ℕ)) (n k : ℕ) → RisesFrom number_of 0 rows → Freeing rows left waiting counts → is_among n left ≡ true
    → counted lowered k ≡ counted counts k - count_of k (held_at rows n) → counted lowered k ≡ count_of k (all_held (rows_of (remove (λ m. m) n left) rows))
count_on rows left waiting counts lowered n k rise f h c = omega (arith, c, f.count k, counts_without 0 rows left n k rise h)

cover_on : (rows : List RowEntry) (left old now : List ℕ) (counts lowered : List (ℕ × ℕ)) (n k : ℕ) (r : Row) → Freeing rows left old counts → old ≡ now ++ n ∷ []
    → counted lowered k ≡ counted counts k - count_of k (held_at rows n) → row_at (rows_of (remove (λ m. m) n left) rows) k ≡ Some r → (k == 0) ≡ false → counted lowered k ≡ 0 → is_among k (now ++ held_at rows n) ≡ true
cover_on rows left old now counts lowered n k r f e c s g z =
    let at = left_row rows (remove (λ m. m) n left) k r s in
    let apart : (n == k) ≡ false = grind (arith, nat_tests, among_removed left n k) in
    let inside : is_among k left ≡ true = grind (arith, nat_tests, among_removed left n k) in
    let go : (b : Bool) → counted counts k == 0 ≡ b → is_among k (now ++ held_at rows n) ≡ true = elim [
      | true ↦ λ t. waits_still old now (held_at rows n) n k e apart (f.cover k r (row_kept rows left k r inside at.1) g (grind (arith, nat_tests)))
      | false ↦ λ t. let held : is_among k (held_at rows n) ≡ true = grind (arith, nat_tests, count_among k (held_at rows n)) in grind (arith, nat_tests, among_both now (held_at rows n) k)
    ] in
    go (counted counts k == 0) refl

pub freeing_on : (rows : List RowEntry) (left old now : List ℕ) (counts lowered : List (ℕ × ℕ)) (n : ℕ) → RisesFrom number_of 0 rows → Freeing rows left old counts → old ≡ now ++ n ∷ []
    → is_taken counts left n ≡ true → ((k : ℕ) → counted lowered k ≡ counted counts k - count_of k (held_at rows n)) → Freeing rows (remove (λ m. m) n left) (now ++ held_at rows n) lowered
freeing_on rows left old now counts lowered n rise f e t c =
    let inside : is_among n left ≡ true = grind (arith, nat_tests) in
    record {
      count = λ k. count_on rows left old counts lowered n k rise f inside (c k);
      cover = λ k r s g z. cover_on rows left old now counts lowered n k r f e (c k) s g z;
      keeps = λ k r s. keeps_on rows left old counts n k r rise f t s;
    }

cover_past : (rows : List RowEntry) (left old now : List ℕ) (counts : List (ℕ × ℕ)) (n k : ℕ) (r : Row) → Freeing rows left old counts → old ≡ now ++ n ∷ [] → is_taken counts left n ≡ false
    → row_at (rows_of left rows) k ≡ Some r → (k == 0) ≡ false → counted counts k ≡ 0 → is_among k now ≡ true
cover_past rows left old now counts n k r f e t s g z =
    let at = left_row rows left k r s in
    let waits : is_among k old ≡ true = f.cover k r s g z in
    let split : is_among k old ≡ (is_among k now || is_among k (n ∷ [])) = ap (λ ns. is_among k ns) e ∙ among_both now (n ∷ []) k in
    let taken : is_taken counts left k ≡ true = grind (arith, nat_tests) in
    let go : (b : Bool) → n == k ≡ b → is_among k now ≡ true = elim [
      | true ↦ λ u. let same : n ≡ k = grind (arith, nat_tests) in let now_taken : is_taken counts left n ≡ true = ap (is_taken counts left) same ∙ taken in cc
      | false ↦ λ u. grind (arith, nat_tests)
    ] in
    go (n == k) refl

pub freeing_past : (rows : List RowEntry) (left old now : List ℕ) (counts : List (ℕ × ℕ)) (n : ℕ) → Freeing rows left old counts → old ≡ now ++ n ∷ [] → is_taken counts left n ≡ false → Freeing rows left now counts
freeing_past rows left old now counts n f e t = record {
  count = f.count;
  cover = λ k r s g z. cover_past rows left old now counts n k r f e t s g z;
  keeps = f.keeps;
}

held_at_end : (rows : List RowEntry) (left : List ℕ) (counts : List (ℕ × ℕ)) (k : ℕ) (r : Row) → Freeing rows left [] counts → row_at (rows_of left rows) k ≡ Some r → (k == 0 || is_among k (all_held (rows_of left rows))) ≡ true
held_at_end rows left counts k r f s =
    let go : (b : Bool) → is_among k (all_held (rows_of left rows)) ≡ b → (k == 0 || is_among k (all_held (rows_of left rows))) ≡ true = elim [
      | true ↦ λ t. grind (arith, nat_tests)
      | false ↦ λ t.
          let none : counted counts k ≡ 0 = grind (arith, nat_tests, f.count k, count_among k (all_held (rows_of left rows))) in
          let root : (k == 0) ≡ true = grind (arith, nat_tests, f.cover k r s) in
          grind (arith, nat_tests)
    ] in
    go (is_among k (all_held (rows_of left rows))) refl

left_is_freed : (rows : List RowEntry) (left : List ℕ) (counts : List (ℕ × ℕ)) (k : ℕ) → RisesFrom number_of 0 rows → Freeing rows left [] counts → row_at (rows_of left rows) k ≡ row_at (freed rows) k
left_is_freed rows left counts k rise f =
    let stays : (r : Row) → row_at (rows_of left rows) k ≡ Some r → row_at (freed rows) k ≡ Some r =
    λ r s. freed_greatest (rows_of left rows) rows (left_rises rows left rise) (λ m q t. held_at_end rows left counts m q f t) (λ m q t. (left_row rows left m q t).1) k r s in
    let go : (o : Option Row) → row_at (freed rows) k ≡ o → row_at (rows_of left rows) k ≡ o = elim [
      | Some r ↦ λ s. row_kept rows left k r (f.keeps k r s) (freed_within rows k r rise s)
      | None ↦ λ s.
          let out : (p : Option Row) → row_at (rows_of left rows) k ≡ p → row_at (rows_of left rows) k ≡ None = elim [
            | Some r ↦ λ t. let there = stays r t in cc
            | None ↦ λ t. t
          ] in
          out (row_at (rows_of left rows) k) refl
    ] in
    go (row_at (freed rows) k) refl

-- at the end what is left is what freeing leaves
pub freeing_end : (rows : List RowEntry) (left waiting : List ℕ) (counts : List (ℕ × ℕ)) → RisesFrom number_of 0 rows → Freeing rows left waiting counts → waiting ≡ [] → rows_of left rows ≡ freed rows
freeing_end rows left waiting counts rise f e =
    let last : Freeing rows left [] counts = rw e at f in
    same_rising number_of 0 0 (rows_of left rows) (freed rows) (left_rises rows left rise) (freed_rises rows rise) (λ k. found_same (rows_of left rows) (freed rows) k (left_is_freed rows left counts k rise last))

-- a turn at a number that is taken leaves less to do
pub less_taken : (rows : List RowEntry) (left old now : List ℕ) (n : ℕ) → old ≡ now ++ n ∷ [] → is_among n left ≡ true
    → length (now ++ held_at rows n) + links_where (λ k. is_among k (remove (λ m. m) n left)) rows < length old + links_where (λ k. is_among k left) rows
less_taken rows left old now n e h =
    let less = links_fewer (λ k. is_among k (remove (λ m. m) n left)) (λ k. is_among k left) rows n (λ k t. grind (arith, nat_tests, among_removed left n k)) h (grind (arith, nat_tests, among_removed left n n)) in
    omega (arith, less, length-append now (held_at rows n), length-append now (n ∷ []), ap length e)

-- the number of one more row
pub next_live : (rows : List RowEntry) (old now : List ℕ) (i : ℕ) (e : RowEntry) (k : ℕ) → i < length rows → e ≡ get_or rows i e → now ≡ with_number old e.who → is_among k old ≡ is_live (take i rows) k → is_among k now ≡ is_live (take (i + 1) rows) k
next_live rows old now i e k l at put h =
    let more : is_live (take (i + 1) rows) k ≡ (is_live (take i rows) k || e.who == k) = rw (← at) at (list_any_more (λ (x : RowEntry). x.who == k) rows i e l) in
    let added : is_among k now ≡ (e.who == k || is_among k old) = ap (λ ns. is_among k ns) put ∙ among_with_number old e.who k in
    grind (arith, nat_tests)

-- a number that is taken was left
pub taken_was_left : (counts : List (ℕ × ℕ)) (left : List ℕ) (n : ℕ) → is_taken counts left n ≡ true → is_among n left ≡ true
taken_was_left counts left n h = grind (arith, nat_tests)

-- a turn at a number that isn't taken leaves less to do
pub less_past : (rows : List RowEntry) (left old now : List ℕ) (n : ℕ) → old ≡ now ++ n ∷ [] → length now + links_where (λ k. is_among k left) rows < length old + links_where (λ k. is_among k left) rows
less_past rows left old now n e = omega (arith, length-append now (n ∷ []), ap length e)
