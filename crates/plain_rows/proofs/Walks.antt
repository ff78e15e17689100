-- A walk along links: the numbers seen and those that wait, from the start to the end.
use Rattle.std.proofs.Common.{◌≡◌, ℕ, ◌+◌, ◌≤◌, ◌<◌, Bool, true, false, cond, not, ◌||◌, ◌==◌, List, [], ◌∷◌, ◌++◌, length, length-append, Option, Some, None, sum_by, refl, sym, ap, ◌∙◌, arith}
use Rattle.std.specs.Option.{option_map, option_map_or}
use Rattle.std.proofs.lemmas.Bool.Decides.{nat_tests}
use Rattle.std.proofs.lemmas.List.Sums.{sum_by-cons}
use Rattle.lists.specs.Rising.{RisesFrom, find}
use Rattle.lists.proofs.RisingLaws.{RisesFrom-put, put_found, same_rising}
use Rattle.lists.proofs.Tests.{both_ways, either_case}
use Rattle.state_model.specs.declared.row.Row.{Row}
use Rattle.state_model.specs.declared.row.RowEntry.{RowEntry}
use Rattle.state_model.specs.Rows.{number_of, row_at, held_in}
use Rattle.state_model.specs.Reached.{is_among, with_number, reached}
use Rattle.state_laws.proofs.Numbers.{among_with_number, among_both, keep_same}
use Rattle.state_laws.proofs.ReachedLaws.{reached_start, reached_closed, reached_least, reached_rises}
use Rattle.plain_rows.specs.Links.{held_at, links_where}

-- the sizes of the items whose keys pass
abbrev sizes_where : {E : Type 0} → (E → ℕ) → (E → ℕ) → (ℕ → Bool) → List E → ℕ
sizes_where key size passes es = sum_by (λ e. cond (passes (key e)) (size e) 0) es

one_more : {E : Type 0} (key size : E → ℕ) (p : ℕ → Bool) (e : E) (es : List E) → sizes_where key size p (e ∷ es) ≡ cond (p (key e)) (size e) 0 + sizes_where key size p es
one_more key size p e es = sum_by-cons (λ e. cond (p (key e)) (size e) 0) e es

-- where fewer keys pass, the sizes are less
sizes_narrower : {E : Type 0} (key size : E → ℕ) (p q : ℕ → Bool) (es : List E) → ((k : ℕ) → p k ≡ true → q k ≡ true) → sizes_where key size p es ≤ sizes_where key size q es
sizes_narrower key size p q [] h = omega arith
sizes_narrower key size p q (e ∷ es) h = grind (arith, nat_tests, one_more key size p e es, one_more key size q e es, h (key e), sizes_narrower key size p q es h)

-- without a key that passed, they are less by the size of its item
sizes_fewer : {E : Type 0} (key size : E → ℕ) (p q : ℕ → Bool) (es : List E) (n : ℕ) → ((k : ℕ) → p k ≡ true → q k ≡ true) → q n ≡ true → p n ≡ false → sizes_where key size p es + option_map_or size (find key n es) 0 ≤ sizes_where key size q es
sizes_fewer key size p q [] n h t f = omega arith
sizes_fewer key size p q (e ∷ es) n h t f =
    grind (arith, nat_tests, one_more key size p e es, one_more key size q e es, h (key e), keep_same p (key e) n, keep_same q (key e) n, sizes_narrower key size p q es h, sizes_fewer key size p q es n h t f)

held_size : (o : Option RowEntry) → length (option_map_or held_in (option_map (λ (e : RowEntry). e.row) o) []) ≡ option_map_or (λ (e : RowEntry). length (held_in e.row)) o 0
held_size None = refl
held_size (Some e) = refl

-- without a number that passed, the links of its row are left out
pub links_fewer : (p q : ℕ → Bool) (rows : List RowEntry) (n : ℕ) → ((k : ℕ) → p k ≡ true → q k ≡ true) → q n ≡ true → p n ≡ false → links_where p rows + length (held_at rows n) ≤ links_where q rows
links_fewer p q rows n h t f =
    let less = sizes_fewer number_of (λ (e : RowEntry). length (held_in e.row)) p q rows n h t f in
    rw (held_size (find number_of n rows)) less

-- what is seen and what waits, on the way from a number
pub record Walked (rows : List RowEntry) (from : ℕ) (seen waiting : List ℕ) : Type 0 where
  pub rises : RisesFrom (λ n. n) 0 seen
  pub start : (is_among from seen || is_among from waiting) ≡ true
  pub within : (k : ℕ) → (is_among k seen || is_among k waiting) ≡ true → is_among k (reached rows from) ≡ true
  pub closed : (a b : ℕ) (r : Row) → is_among a seen ≡ true → row_at rows a ≡ Some r → is_among b (held_in r) ≡ true → (is_among b seen || is_among b waiting) ≡ true

from_start : (rows : List RowEntry) (from k : ℕ) → is_among k (from ∷ []) ≡ true → is_among k (reached rows from) ≡ true
from_start rows from k h =
    let same : from ≡ k = grind (arith, nat_tests) in
    ap (λ n. is_among n (reached rows from)) (sym same) ∙ reached_start rows from

pub walk_start : (rows : List RowEntry) (from : ℕ) → Walked rows from [] (from ∷ [])
walk_start rows from = record {
  rises = tt;
  start = grind (arith, nat_tests);
  within = λ k h. from_start rows from k h;
  closed = λ a b r h s t. cc;
}

-- a number that was seen before
among_again : (seen old now : List ℕ) (n k : ℕ) → old ≡ now ++ n ∷ [] → is_among n seen ≡ true → (is_among k seen || is_among k old) ≡ (is_among k seen || is_among k now)
among_again seen old now n k e h =
    let split : is_among k old ≡ (is_among k now || is_among k (n ∷ [])) = ap (λ ns. is_among k ns) e ∙ among_both now (n ∷ []) k in
    grind (arith, nat_tests, keep_same (λ m. is_among m seen) n k)

pub walk_past : (rows : List RowEntry) (from : ℕ) (seen old now : List ℕ) (n : ℕ) → Walked rows from seen old → old ≡ now ++ n ∷ [] → is_among n seen ≡ true → Walked rows from seen now
walk_past rows from seen old now n w e h = record {
  rises = w.rises;
  start = sym (among_again seen old now n from e h) ∙ w.start;
  within = λ k t. w.within k (among_again seen old now n k e h ∙ t);
  closed = λ a b r k s t. sym (among_again seen old now n b e h) ∙ w.closed a b r k s t;
}

-- a new number, whose links wait from now on
among_more : (seen old now more : List ℕ) (n k : ℕ) → old ≡ now ++ n ∷ [] → (is_among k (with_number seen n) || is_among k (now ++ more)) ≡ ((is_among k seen || is_among k old) || is_among k more)
among_more seen old now more n k e =
    let split : is_among k old ≡ (is_among k now || is_among k (n ∷ [])) = ap (λ ns. is_among k ns) e ∙ among_both now (n ∷ []) k in
    grind (arith, nat_tests, among_both now more k, among_with_number seen n k)

-- what the row of a number holds
pub held_row : (rows : List RowEntry) (n b : ℕ) → is_among b (held_at rows n) ≡ true → (r : Row) × (row_at rows n ≡ Some r) × (is_among b (held_in r) ≡ true)
held_row rows n b h =
    let go : (o : Option Row) → row_at rows n ≡ o → (r : Row) × (row_at rows n ≡ Some r) × (is_among b (held_in r) ≡ true) = elim [
      | Some r ↦ λ s. (r, s, sym (ap (λ o. is_among b (option_map_or held_in o [])) s) ∙ h)
      | None ↦ λ s. let none : is_among b (held_at rows n) ≡ false = ap (λ o. is_among b (option_map_or held_in o [])) s in cc
    ] in
    go (row_at rows n) refl

pub row_held : (rows : List RowEntry) (n : ℕ) (r : Row) → row_at rows n ≡ Some r → held_at rows n ≡ held_in r
row_held rows n r s = ap (λ o. option_map_or held_in o []) s

last_waits : (seen old now : List ℕ) (n : ℕ) → old ≡ now ++ n ∷ [] → (is_among n seen || is_among n old) ≡ true
last_waits seen old now n e =
    let split : is_among n old ≡ (is_among n now || is_among n (n ∷ [])) = ap (λ ns. is_among n ns) e ∙ among_both now (n ∷ []) n in
    grind (arith, nat_tests)

walk_within : (rows : List RowEntry) (from : ℕ) (seen old now : List ℕ) (n k : ℕ) → RisesFrom number_of 0 rows → Walked rows from seen old → old ≡ now ++ n ∷ []
    → (is_among k (with_number seen n) || is_among k (now ++ held_at rows n)) ≡ true → is_among k (reached rows from) ≡ true
walk_within rows from seen old now n k rise w e h =
    either_case (is_among k seen || is_among k old) (is_among k (held_at rows n)) (sym (among_more seen old now (held_at rows n) n k e) ∙ h) (λ t. w.within k t)
    (λ t. let p = held_row rows n k t in reached_closed rows from n k p.0 rise (w.within n (last_waits seen old now n e)) p.1 p.2)

walk_closed : (rows : List RowEntry) (from : ℕ) (seen old now : List ℕ) (n a b : ℕ) (r : Row) → Walked rows from seen old → old ≡ now ++ n ∷ [] → is_among a (with_number seen n) ≡ true
    → row_at rows a ≡ Some r → is_among b (held_in r) ≡ true → ((is_among b seen || is_among b old) || is_among b (held_at rows n)) ≡ true
walk_closed rows from seen old now n a b r w e h s t =
    either_case (n == a) (is_among a seen) (sym (among_with_number seen n a) ∙ h)
    (λ same. let is : n ≡ a = grind (arith, nat_tests) in let there : is_among b (held_at rows n) ≡ true = ap (λ k. is_among b (held_at rows k)) is ∙ ap (λ ns. is_among b ns) (row_held rows a r s) ∙ t in grind (arith, nat_tests))
    (λ old_one. let before : (is_among b seen || is_among b old) ≡ true = w.closed a b r old_one s t in grind (arith, nat_tests))

pub walk_on : (rows : List RowEntry) (from : ℕ) (seen old now : List ℕ) (n : ℕ) → RisesFrom number_of 0 rows → Walked rows from seen old → old ≡ now ++ n ∷ [] → Walked rows from (with_number seen n) (now ++ held_at rows n)
walk_on rows from seen old now n rise w e = record {
  rises = RisesFrom-put (λ m. m) 0 n seen w.rises (omega arith);
  start = among_more seen old now (held_at rows n) n from e ∙ ap (λ b. b || is_among from (held_at rows n)) w.start;
  within = λ k h. walk_within rows from seen old now n k rise w e h;
  closed = λ a b r h s t. among_more seen old now (held_at rows n) n b e ∙ walk_closed rows from seen old now n a b r w e h s t;
}

-- numbers that rise are the same where each is among both
found_number : (ns : List ℕ) (k : ℕ) → find (λ m. m) k ns ≡ cond (is_among k ns) (Some k) None
found_number [] k = refl
found_number (m ∷ ns) k = grind (arith, nat_tests, found_number ns k)

pub same_numbers : (xs ys : List ℕ) → RisesFrom (λ m. m) 0 xs → RisesFrom (λ m. m) 0 ys → ((k : ℕ) → is_among k xs ≡ is_among k ys) → xs ≡ ys
same_numbers xs ys r s h = same_rising (λ m. m) 0 0 xs ys r s (λ k. found_number xs k ∙ ap (λ b. cond b (Some k) None) (h k) ∙ sym (found_number ys k))

nothing_waits : (seen : List ℕ) (k : ℕ) → (is_among k seen || is_among k []) ≡ true → is_among k seen ≡ true
nothing_waits seen k h = grind (arith, nat_tests)

-- at the end all that is reached is seen
pub walk_end : (rows : List RowEntry) (from : ℕ) (seen waiting : List ℕ) → RisesFrom number_of 0 rows → Walked rows from seen waiting → waiting ≡ [] → seen ≡ reached rows from
walk_end rows from seen waiting rise w e =
    same_numbers seen (reached rows from) w.rises (reached_rises rows from)
    (λ k. both_ways (is_among k seen) (is_among k (reached rows from)) (λ h. w.within k (ap (λ b. b || is_among k waiting) h))
    (λ h. reached_least rows from (λ m. is_among m seen) rise (nothing_waits seen from (rw e at w.start)) (λ a b r h s t. nothing_waits seen b (rw e at (w.closed a b r h s t))) k h))

-- a number that is there needs no place
pub with_same : (ns : List ℕ) (n : ℕ) → RisesFrom (λ m. m) 0 ns → is_among n ns ≡ true → with_number ns n ≡ ns
with_same ns n r h = put_found (λ m. m) 0 n ns r (found_number ns n ∙ ap (λ b. cond b (Some n) None) h)

-- a turn at a new number leaves less to do
pub less_on : (rows : List RowEntry) (seen old now : List ℕ) (n : ℕ) → old ≡ now ++ n ∷ [] → is_among n seen ≡ false
    → length (now ++ held_at rows n) + links_where (λ k. not (is_among k (with_number seen n))) rows < length old + links_where (λ k. not (is_among k seen)) rows
less_on rows seen old now n e h =
    let less = links_fewer (λ k. not (is_among k (with_number seen n))) (λ k. not (is_among k seen)) rows n (λ k t. grind (arith, nat_tests, among_with_number seen n k))
    (grind (arith, nat_tests)) (grind (arith, nat_tests, among_with_number seen n n)) in
    omega (arith, less, length-append now (held_at rows n), length-append now (n ∷ []), ap length e)

-- and so does one at a number that was seen
pub less_again : (rows : List RowEntry) (seen old now : List ℕ) (n : ℕ) → RisesFrom (λ m. m) 0 seen → old ≡ now ++ n ∷ [] → is_among n seen ≡ true
    → length now + links_where (λ k. not (is_among k (with_number seen n))) rows < length old + links_where (λ k. not (is_among k seen)) rows
less_again rows seen old now n r e h = rw (with_same seen n r h) (omega (arith, length-append now (n ∷ []), ap length e))

pub walk_again : (rows : List RowEntry) (from : ℕ) (seen old now : List ℕ) (n : ℕ) → Walked rows from seen old → old ≡ now ++ n ∷ [] → is_among n seen ≡ true → Walked rows from (with_number seen n) now
walk_again rows from seen old now n w e h = rw (with_same seen n w.rises h) (walk_past rows from seen old now n w e h)
