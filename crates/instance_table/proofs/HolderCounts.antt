-- Lists of holders by how often each stands in them.
use Rattle.std.proofs.Common.{◌≡◌, ℕ, suc, ◌+◌, ◌<◌, Bool, true, false, cond, not, ◌&&◌, ◌==◌, List, [], ◌∷◌, ◌++◌, filter, map, Some, refl, sym, ap, ap₂, ◌∙◌, arith, leb}
use Rattle.std.specs.Option.{option_map, option_map_or}
use Rattle.std.proofs.lemmas.Bool.Decides.{nat_tests}
use Rattle.lists.specs.Rising.{RisesFrom, find}
use Rattle.state_model.specs.declared.row.RowEntry.{RowEntry}
use Rattle.state_model.specs.Reached.{is_among}
use Rattle.state_model.specs.Rows.{held_in, number_of, row_at}
use Rattle.state_laws.proofs.Counts as counts
use Rattle.state_laws.proofs.Counts.{count_among, count_both}
use Rattle.command_laws.specs.Accounts.{count_of, one_if}
use Rattle.instance_table.proofs.HolderLaws.{AscendsFrom-lower, ascends_with, ascends_without}
use Rattle.instance_table.specs.Holders.{AscendsFrom, holders_in, holders_of, with_holder, without_one}

-- one where a test holds, as a choice
one_is : (b : Bool) → one_if b ≡ cond b 1 0
one_is true = refl
one_is false = refl

-- with one more before it
pub count_first : (k n : ℕ) (ns : List ℕ) → count_of k (n ∷ ns) ≡ one_if (n == k) + count_of k ns
count_first k n ns = counts.count_first k n ns ∙ ap (λ x. x + count_of k ns) (sym (one_is (n == k)))

-- ---- after an edit

pub count_with : (k h : ℕ) (ns : List ℕ) → count_of k (with_holder h ns) ≡ count_of k ns + one_if (h == k)
count_with k h [] = omega (arith, count_first k h [])
count_with k h (n ∷ ns) =
    let go : (b : Bool) → count_of k (cond b (n ∷ with_holder h ns) (h ∷ n ∷ ns)) ≡ count_of k (n ∷ ns) + one_if (h == k)
    = elim [
      | true ↦ omega (arith, count_first k n (with_holder h ns), count_first k n ns, count_with k h ns)
      | false ↦ omega (arith, count_first k h (n ∷ ns))
    ] in
    go (leb n h)

pub count_without : (k h : ℕ) (ns : List ℕ) → count_of k (without_one h ns) + one_if (is_among h ns && (h == k)) ≡ count_of k ns
count_without k h [] = refl
count_without k h (n ∷ ns) = grind (arith, nat_tests, count_first k n (without_one h ns), count_first k n ns, count_without k h ns)

pub count_left : (k h : ℕ) (ns : List ℕ) → count_of k (filter (λ n. not (n == h)) ns) ≡ cond (h == k) 0 (count_of k ns)
count_left k h [] = grind (arith, nat_tests)
count_left k h (n ∷ ns) = grind (arith, nat_tests, count_first k n (filter (λ n. not (n == h)) ns), count_first k n ns, count_left k h ns)

-- ---- rising lists with the same counts are the same

pub count_below : (k low : ℕ) (ns : List ℕ) → AscendsFrom low ns → k < low → count_of k ns ≡ 0
count_below k low [] a l = refl
count_below k low (n ∷ ns) a l = grind (arith, nat_tests, a.0, count_first k n ns, count_below k n ns a.1)

pub same_counts : (low high : ℕ) (xs ys : List ℕ) → AscendsFrom low xs → AscendsFrom high ys → ((k : ℕ) → count_of k xs ≡ count_of k ys) → xs ≡ ys
same_counts low high [] [] a b h = refl
same_counts low high [] (y ∷ ys) a b h = absurd (let e = h y in let f = count_first y y ys in grind (arith, nat_tests))
same_counts low high (x ∷ xs) [] a b h = absurd (let e = h x in let f = count_first x x xs in grind (arith, nat_tests))
same_counts low high (x ∷ xs) (y ∷ ys) a b h =
    let at_x = h x in
    let at_y = h y in
    let first : x ≡ y = grind (arith, nat_tests, count_first x x xs, count_first x y ys, count_first y x xs, count_first y y ys, count_below x y ys b.1, count_below y x xs a.1) in
    let rest : (k : ℕ) → count_of k xs ≡ count_of k ys = λ k. let e = h k in let f = ap (λ n. one_if (n == k)) first in omega (arith, count_first k x xs, count_first k y ys) in
    ap₂ (λ n ns. n ∷ ns) first (same_counts x y xs ys a.1 b.1 rest)

-- one more, and one less again
pub more_and_less : (h : ℕ) (ns : List ℕ) → AscendsFrom 0 ns → without_one h (with_holder h ns) ≡ ns
more_and_less h ns a =
    let more = with_holder h ns in
    let counts : (k : ℕ) → count_of k (without_one h more) ≡ count_of k ns =
    λ k. let there = count_among h more in let n = count_with h h ns in
    grind (arith, nat_tests, count_without k h more, count_with k h ns) in
    same_counts 0 0 (without_one h more) ns (ascends_without h 0 more (ascends_with h 0 ns (omega arith) a)) a counts

-- ---- the holders of a row

count_row : (who r : ℕ) (e : RowEntry) (ns : List ℕ) → count_of r (map (λ m. e.who) (filter (λ m. m == who) ns)) ≡ cond (e.who == r) (count_of who ns) 0
count_row who r e [] = grind (arith, nat_tests)
count_row who r e (n ∷ ns) =
    let go : (b : Bool) → (n == who) ≡ b → count_of r (map (λ m. e.who) (cond b (n ∷ filter (λ m. m == who) ns) (filter (λ m. m == who) ns))) ≡ cond (e.who == r) (count_of who (n ∷ ns)) 0
    = elim [
      | true ↦ λ b. let f = count_first r e.who (map (λ m. e.who) (filter (λ m. m == who) ns)) in grind (arith, nat_tests, count_first who n ns, count_row who r e ns)
      | false ↦ λ b. grind (arith, nat_tests, count_first who n ns, count_row who r e ns)
    ] in
    go (n == who) refl

none_at : (who r low : ℕ) (rows : List RowEntry) → RisesFrom number_of low rows → r < low → count_of r (holders_of rows who) ≡ 0
none_at who r low [] k l = refl
none_at who r low (e ∷ rows) k l =
    grind (arith, nat_tests, k.0, count_both r (holders_in who e) (holders_of rows who), count_row who r e (held_in e.row), none_at who r (suc e.who) rows k.1)

-- each holder stands as often as its places hold the row
pub count_holders : (who r low : ℕ) (rows : List RowEntry) → RisesFrom number_of low rows
    → count_of r (holders_of rows who) ≡ count_of who (option_map_or held_in (row_at rows r) [])
count_holders who r low [] k = refl
count_holders who r low (e ∷ rows) k =
    let both = count_both r (holders_in who e) (holders_of rows who) in
    let here = count_row who r e (held_in e.row) in
    let later = none_at who r (suc e.who) rows k.1 in
    let rest = count_holders who r (suc e.who) rows k.1 in
    let go : (b : Bool) → (e.who == r) ≡ b
    → count_of r (holders_of (e ∷ rows) who) ≡ count_of who (option_map_or held_in (option_map (λ (x : RowEntry). x.row) (cond b (Some e) (find number_of r rows))) [])
    = elim [ true ↦ λ b. grind (arith, nat_tests) | false ↦ λ b. grind (arith, nat_tests) ] in
    go (e.who == r) refl

ascends_row : (low : ℕ) (who : ℕ) (ns : List ℕ) (rest : List ℕ) → AscendsFrom low rest → AscendsFrom low (map (λ m. low) (filter (λ m. m == who) ns) ++ rest)
ascends_row low who [] rest a = a
ascends_row low who (n ∷ ns) rest a =
    let go : (b : Bool) → AscendsFrom low (map (λ m. low) (cond b (n ∷ filter (λ m. m == who) ns) (filter (λ m. m == who) ns)) ++ rest)
    = elim [ true ↦ (omega arith, ascends_row low who ns rest a) | false ↦ ascends_row low who ns rest a ] in
    go (n == who)

pub ascends_holders : (who low : ℕ) (rows : List RowEntry) → RisesFrom number_of low rows → AscendsFrom low (holders_of rows who)
ascends_holders who low [] k = tt
ascends_holders who low (e ∷ rows) k =
    let rest = AscendsFrom-lower e.who (suc e.who) (holders_of rows who) (omega arith) (ascends_holders who (suc e.who) rows k.1) in
    AscendsFrom-lower low e.who (holders_in who e ++ holders_of rows who) k.0 (ascends_row e.who who (held_in e.row) (holders_of rows who) rest)
