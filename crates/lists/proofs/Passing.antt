-- Which items of a list pass a test: whether any or all do, how many do, what a filter leaves, and where they stand in a rising list.
use Rattle.std.proofs.Common.{◌≡◌, ℕ, suc, ◌<◌, ◌≤◌, Bool, true, false, cond, not, ◌&&◌, ◌||◌, ◌==◌, List, [], ◌∷◌, ◌++◌, length, Some, is_some, map, filter, refl, sym, ap, ◌∙◌, arith, ◌⊎◌, inl, inr}
use Rattle.std.specs.List.{find as find_passing, flat_map, list_all, list_any}
use Rattle.std.proofs.lemmas.Bool.{and_from, and_parts}
use Rattle.std.proofs.lemmas.Bool.Decides.{nat_tests}
use Rattle.std.proofs.lemmas.List.Folds.{list_all-append, list_any-append}
use Rattle.lists.specs.Rising.{RisesFrom, find, put, remove}
use Rattle.lists.proofs.RisingLaws.{find_first, find_below, find-remove, RisesFrom-remove, length-remove}

-- ---- tests of any and of all

-- a test of lists that are joined is a test of the items that they are made of
pub list_any-flat_map : {X Y : Type 0} (p : Y → Bool) (f : X → List Y) (xs : List X) → list_any p (flat_map f xs) ≡ list_any (λ x. list_any p (f x)) xs
list_any-flat_map p f [] = refl
list_any-flat_map p f (x ∷ xs) = list_any-append p (f x) (flat_map f xs) ∙ ap (λ b. list_any p (f x) || b) (list_any-flat_map p f xs)

-- a test of what items are made into is a test of the items
pub list_any-map : {X Y : Type 0} (p : Y → Bool) (f : X → Y) (xs : List X) → list_any p (map f xs) ≡ list_any (λ x. p (f x)) xs
list_any-map p f [] = refl
list_any-map p f (x ∷ xs) = ap (λ b. p (f x) || b) (list_any-map p f xs)

-- a test of what items are made into, list by list
pub list_any-made : {X Y Z : Type 0} (p : Z → Bool) (g : Y → List Z) (f : X → Y) (xs : List X) → list_any p (flat_map g (map f xs)) ≡ list_any (λ x. list_any p (g (f x))) xs
list_any-made p g f xs = list_any-flat_map p g (map f xs) ∙ list_any-map (λ y. list_any p (g y)) f xs

-- where none passes a test, none passes a narrower one
pub list_any_narrower : {X : Type 0} (p q : X → Bool) (xs : List X) → ((x : X) → p x ≡ true → q x ≡ true) → list_any p xs ≡ true → list_any q xs ≡ true
list_any_narrower p q [] n h = h
list_any_narrower p q (x ∷ xs) n h = grind (arith, nat_tests, n x, list_any_narrower p q xs n)

-- where all of two lists pass, all of both pass
pub all_append : {X : Type 0} (p : X → Bool) (xs ys : List X) → list_all p xs ≡ true → list_all p ys ≡ true → list_all p (xs ++ ys) ≡ true
all_append p xs ys h k = list_all-append p xs ys ∙ and_from (list_all p xs) (list_all p ys) h k

-- an item stands in a list: each test that it passes, an item of the list passes
abbrev pub StandsIn : {X : Type 0} → X → List X → Type 0
StandsIn {X} x xs = (t : X → Bool) → t x ≡ true → list_any t xs ≡ true

-- the first item stands in its list
pub stands_first : {X : Type 0} (x : X) (xs : List X) → StandsIn x (x ∷ xs)
stands_first x xs t h = ap (λ b. b || list_any t xs) h

-- what stands behind an item stands in the whole list
pub stands_behind : {X : Type 0} (x y : X) (xs : List X) → StandsIn x xs → StandsIn x (y ∷ xs)
stands_behind x y xs s t h = grind (arith, nat_tests, s t h)

-- where all pass a test, all pass another that each item of the list passes with it
pub list_all_wider : {X : Type 0} (p q : X → Bool) (xs : List X) → ((x : X) → StandsIn x xs → p x ≡ true → q x ≡ true) → list_all p xs ≡ true → list_all q xs ≡ true
list_all_wider p q [] n h = h
list_all_wider p q (x ∷ xs) n h =
    let here = and_parts (p x) (list_all p xs) h in
    and_from (q x) (list_all q xs) (n x (stands_first x xs) here.0) (list_all_wider p q xs (λ y s. n y (stands_behind y x xs s)) here.1)

-- where all pass one test and one passes another, one passes both
pub all_and_any : {X : Type 0} (p q : X → Bool) (xs : List X) (b : Bool) → ((x : X) → p x ≡ true → q x ≡ true → b ≡ true) → list_all p xs ≡ true → list_any q xs ≡ true → b ≡ true
all_and_any p q [] b n h t = cc
all_and_any p q (x ∷ xs) b n h t = grind (arith, nat_tests, n x, all_and_any p q xs b n)

-- ---- filters

-- a test after a filter is both tests at once
pub list_any-filter : {X : Type 0} (p q : X → Bool) (xs : List X) → list_any p (filter q xs) ≡ list_any (λ x. q x && p x) xs
list_any-filter p q [] = refl
list_any-filter p q (x ∷ xs) = grind (arith, nat_tests, list_any-filter p q xs)

-- what passes in a filtered list passes in the list
pub list_any_filtered : {X : Type 0} (p q : X → Bool) (xs : List X) → list_any p (filter q xs) ≡ true → list_any p xs ≡ true
list_any_filtered p q [] h = h
list_any_filtered p q (x ∷ xs) h = grind (arith, nat_tests, list_any_filtered p q xs)

-- where all pass, all of a filtered list do
pub list_all_filtered : {X : Type 0} (p q : X → Bool) (xs : List X) → list_all p xs ≡ true → list_all p (filter q xs) ≡ true
list_all_filtered p q [] h = h
list_all_filtered p q (x ∷ xs) h = grind (arith, nat_tests, list_all_filtered p q xs)

-- all that a filter leaves passes its test
pub list_all-filter : {X : Type 0} (p : X → Bool) (xs : List X) → list_all p (filter p xs) ≡ true
list_all-filter p [] = refl
list_all-filter p (x ∷ xs) = grind (arith, nat_tests, list_all-filter p xs)

-- a filter of what a filter leaves
pub filter-filter : {X : Type 0} (p q r : X → Bool) → ((x : X) → r x ≡ (q x && p x)) → (xs : List X) → filter p (filter q xs) ≡ filter r xs
filter-filter p q r h [] = refl
filter-filter p q r h (x ∷ xs) = grind (arith, nat_tests, h x, filter-filter p q r h xs)

-- where none passes a test, a filter by its opposite leaves all
pub filter_keeps : {X : Type 0} (p : X → Bool) (xs : List X) → list_any p xs ≡ false → filter (λ x. not (p x)) xs ≡ xs
filter_keeps p [] h = refl
filter_keeps p (x ∷ xs) h = grind (arith, nat_tests, filter_keeps p xs)

-- a filter that all passes leaves all
pub filter_all : {X : Type 0} (xs : List X) → filter (λ x. true) xs ≡ xs
filter_all [] = refl
filter_all (x ∷ xs) = ap (λ ys. x ∷ ys) (filter_all xs)

-- a filter makes no list longer
pub length-filter_most : {X : Type 0} (p : X → Bool) (xs : List X) → length (filter p xs) ≤ length xs
length-filter_most p [] = omega arith
length-filter_most p (x ∷ xs) = grind (arith, nat_tests, length-filter_most p xs)

-- a filter leaves a list as it is, or makes it shorter
pub filter_all_or_less : {X : Type 0} (p : X → Bool) (xs : List X) → (filter p xs ≡ xs) ⊎ (length (filter p xs) < length xs)
filter_all_or_less p [] = inl refl
filter_all_or_less p (x ∷ xs) =
    let go : (b : Bool) → p x ≡ b → (filter p (x ∷ xs) ≡ x ∷ xs) ⊎ (length (filter p (x ∷ xs)) < length (x ∷ xs)) = elim [
      | true ↦ λ t. elim (filter_all_or_less p xs) [ inl same ↦ inl (rw t (ap (λ ys. x ∷ ys) same)) | inr less ↦ inr (rw t (omega (arith, less))) ]
      | false ↦ λ f. inr (rw f (omega (arith, length-filter_most p xs)))
    ] in
    go (p x) refl

-- what passes the narrower of two tests is no more
pub length-filter_narrower : {X : Type 0} (p q : X → Bool) (xs : List X) → ((x : X) → p x ≡ true → q x ≡ true) → length (filter p xs) ≤ length (filter q xs)
length-filter_narrower p q [] n = omega arith
length-filter_narrower p q (x ∷ xs) n = grind (arith, nat_tests, n x, length-filter_narrower p q xs n)

-- what passes the narrower of two tests is less, where an item passes the wider one alone
pub length-filter_less : {X : Type 0} (p q : X → Bool) (xs : List X) → ((x : X) → p x ≡ true → q x ≡ true) → list_any (λ x. q x && not (p x)) xs ≡ true → length (filter p xs) < length (filter q xs)
length-filter_less p q [] n h = cc
length-filter_less p q (x ∷ xs) n h = grind (arith, nat_tests, n x, length-filter_narrower p q xs n, length-filter_less p q xs n)

-- ---- what is found

-- what is found passes
pub found_passes : {X : Type 0} (p : X → Bool) (xs : List X) (x : X) → find_passing p xs ≡ Some x → p x ≡ true
found_passes p [] x h = cc
found_passes p (y ∷ ys) x h = by_test (p y) refl h (found_passes p ys x)
  where
    by_test : (b : Bool) → p y ≡ b → cond b (Some y) (find_passing p ys) ≡ Some x → (find_passing p ys ≡ Some x → p x ≡ true) → p x ≡ true
    by_test true e h rest = let same : y ≡ x = cc in ap p (sym same) ∙ e
    by_test false e h rest = rest h

-- something is found where something passes
pub found_any : {X : Type 0} (p : X → Bool) (xs : List X) → is_some (find_passing p xs) ≡ list_any p xs
found_any p [] = refl
found_any p (x ∷ xs) = grind (arith, nat_tests, found_any p xs)

-- ---- with an item put by its key

-- what passes after it is that item, or passed before
pub list_any_put : {E : Type 0} (key : E → ℕ) (p : E → Bool) (x : E) (es : List E) → list_any p (put key x es) ≡ true → (p x || list_any p es) ≡ true
list_any_put key p x [] h = h
list_any_put key p x (e ∷ es) h = grind (arith, nat_tests, list_any_put key p x es)

-- where all pass, so do all after it
pub list_all_put : {E : Type 0} (key : E → ℕ) (p : E → Bool) (x : E) (es : List E) → p x ≡ true → list_all p es ≡ true → list_all p (put key x es) ≡ true
list_all_put key p x [] t h = grind (arith, nat_tests)
list_all_put key p x (e ∷ es) t h = grind (arith, nat_tests, list_all_put key p x es)

-- ---- items with keys

module _ {E : Type 0} (key : E → ℕ) where
  -- an item that is found and passes is one that passes
  pub list_any-found : (p : E → Bool) (es : List E) (k : ℕ) (e : E) → find key k es ≡ Some e → p e ≡ true → list_any p es ≡ true
  list_any-found p [] k e h t = cc
  list_any-found p (x ∷ es) k e h t = grind (arith, nat_tests, list_any-found p es k e)

  -- what is found behind the first item of a rising list is found with it before it
  pub found_behind : (x : E) (xs : List E) (k : ℕ) (e : E) → RisesFrom key (suc (key x)) xs → find key k xs ≡ Some e → find key k (x ∷ xs) ≡ Some e
  found_behind x xs k e r h = grind (arith, nat_tests, find_below key (suc (key x)) xs k r)

  -- where an item of a rising list passes, one that passes is found by its key
  pub found_passing : (p : E → Bool) (low : ℕ) (es : List E) → RisesFrom key low es → list_any p es ≡ true → (e : E) × (find key (key e) es ≡ Some e) × (p e ≡ true)
  found_passing p low [] r h = cc
  found_passing p low (x ∷ es) r h =
      let go : (b : Bool) → p x ≡ b → (e : E) × (find key (key e) (x ∷ es) ≡ Some e) × (p e ≡ true) =
      elim [ true ↦ λ t. (x, find_first key x es, t) | false ↦ λ f. let rest = found_passing p (suc (key x)) es r.1 (rw f at h) in (rest.0, found_behind x es (key rest.0) rest.0 r.1 rest.1, rest.2) ] in
      go (p x) refl

  is_found : (k : ℕ) (es : List E) (e : E) → find key k es ≡ Some e → is_some (find key k es) ≡ true
  is_found k es e h = ap is_some h

  -- what is found behind the first item is found in another list without the first one's key
  found_without : (low : ℕ) (x : E) (xs ys : List E) → RisesFrom key low (x ∷ xs) → ((k : ℕ) → is_some (find key k (x ∷ xs)) ≡ true → is_some (find key k ys) ≡ true) → (k : ℕ)
      → is_some (find key k xs) ≡ true → is_some (find key k (remove key (key x) ys)) ≡ true
  found_without low x xs ys r h k t = grind (arith, nat_tests, find_below key (suc (key x)) xs k r.1, h k, find-remove key (key x) ys k)

  -- a rising list of which each key is found in another is no longer than that
  pub length_within : (low high : ℕ) (xs ys : List E) → RisesFrom key low xs → RisesFrom key high ys → ((k : ℕ) → is_some (find key k xs) ≡ true → is_some (find key k ys) ≡ true) → length xs ≤ length ys
  length_within low high [] ys r s h = omega arith
  length_within low high (x ∷ xs) ys r s h =
      let first : is_some (find key (key x) ys) ≡ true = h (key x) (is_found (key x) (x ∷ xs) x (find_first key x xs)) in
      let rest = length_within (suc (key x)) high xs (remove key (key x) ys) r.1 (RisesFrom-remove key high (key x) ys s) (found_without low x xs ys r h) in
      let long = length-remove key high (key x) ys s in
      omega (arith, rest, rw first at long)

  -- where all pass, what is found does
  pub all-found : (p : E → Bool) (es : List E) (k : ℕ) (e : E) → list_all p es ≡ true → find key k es ≡ Some e → p e ≡ true
  all-found p [] k e h t = cc
  all-found p (x ∷ es) k e h t = grind (arith, nat_tests, all-found p es k e)

  -- where what is found by its key passes, all of a rising list do
  pub found-all : (p : E → Bool) (low : ℕ) (es : List E) → RisesFrom key low es → ((e : E) → find key (key e) es ≡ Some e → p e ≡ true) → list_all p es ≡ true
  found-all p low [] r h = refl
  found-all p low (x ∷ es) r h =
      and_from (p x) (list_all p es) (h x (find_first key x es)) (found-all p (suc (key x)) es r.1 (λ e s. h e (found_behind x es (key e) e r.1 s)))

  -- an item has a number where one is found under it
  pub any_found : (k : ℕ) (es : List E) → list_any (λ e. key e == k) es ≡ is_some (find key k es)
  any_found k [] = refl
  any_found k (e ∷ es) = grind (arith, nat_tests, any_found k es)
