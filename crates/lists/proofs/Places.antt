-- A rising list at the place that a search by key answers: what stands there, and what edits at that place leave.
use Rattle.std.proofs.Common.{◌≡◌, ℕ, Bool, true, false, cond, nat_lt, Option, zero, suc, ◌+◌, ◌-◌, ◌<◌, ◌≤◌, List, [], ◌∷◌, ◌++◌, length, get_or, set, take, drop, HoldsAt, Some, None, nat_cmp, Less, Equal, Greater, append_assoc, refl, sym, ap, subst, ◌∙◌, arith}
use Rattle.std.specs.List.{slice_get}
use Rattle.std.specs.Ordering.{ordering_index}
use Rattle.std.proofs.lemmas.Bool.Decides.{nat_tests}
use Rattle.std.proofs.lemmas.Option.{same_Some}
use Rattle.lists.specs.Rising.{RisesFrom, IsAbove, find, after_key, put, remove}
use Rattle.lists.proofs.ListFacts.{drop_first, drop_none, drop_rest, drop_still}
use Rattle.lists.proofs.RisingLaws.{key_at, find_at, find_below, remove_missing, IsAbove-take}

-- a later key is no smaller
key_after : {E : Type 0} (key : E → ℕ) (low : ℕ) (es : List E) (i j : ℕ) (d : E) → RisesFrom key low es → i ≤ j → j < length es → key (get_or es i d) ≤ key (get_or es j d)
key_after key low [] i j d r o h = absurd (omega arith)
key_after key low (e ∷ es) zero zero d r o h = omega arith
key_after key low (e ∷ es) zero (suc j) d r o h = omega (arith, key_at key (suc (key e)) es j d r.1 (omega arith))
key_after key low (e ∷ es) (suc i) zero d r o h = absurd (omega arith)
key_after key low (e ∷ es) (suc i) (suc j) d r o h = key_after key (suc (key e)) es i j d r.1 (omega arith) (omega arith)

-- a binary search may compare a key with the items of a rising list
pub compares_in_order : {E : Type 0} (key : E → ℕ) (low k : ℕ) (es : List E) → RisesFrom key low es → (i j : ℕ) (d : E) → i ≤ j → j < length es → ordering_index (nat_cmp (key (get_or es i d)) k) ≤ ordering_index (nat_cmp (key (get_or es j d)) k)
compares_in_order key low k es r i j d o h = let le = key_after key low es i j d r o h in grind (arith, nat_tests)

pub is_equal : (n k : ℕ) → nat_cmp n k ≡ Equal → n ≡ k
is_equal n k h = grind (arith, nat_tests)

is_less : (n k : ℕ) → nat_cmp n k ≡ Less → n < k
is_less n k h = grind (arith, nat_tests)

is_greater : (n k : ℕ) → nat_cmp n k ≡ Greater → k < n
is_greater n k h = grind (arith, nat_tests)

-- what a search that finds nothing says of the items before its place, and of those from there on
pub IsAbove-before : {E : Type 0} (key : E → ℕ) (k : ℕ) (es : List E) (at : ℕ) → at ≤ length es → ((i : ℕ) (d : E) → 0 ≤ i → i < at → nat_cmp (key (get_or es i d)) k ≡ Less) → IsAbove key k (take at es)
IsAbove-before key k es zero l h = tt
IsAbove-before key k [] (suc at) l h = tt
IsAbove-before key k (e ∷ es) (suc at) l h = (is_less (key e) k (h 0 e (omega arith) (omega arith)), IsAbove-before key k es at (omega arith) (λ i d z b. h (suc i) d (omega arith) (omega arith)))

pub RisesFrom-after : {E : Type 0} (key : E → ℕ) (low k : ℕ) (es : List E) (at : ℕ) → RisesFrom key low es → ((i : ℕ) (d : E) → at ≤ i → i < length es → nat_cmp (key (get_or es i d)) k ≡ Greater) → RisesFrom key (suc k) (drop at es)
RisesFrom-after key low k [] zero r h = tt
RisesFrom-after key low k [] (suc at) r h = tt
RisesFrom-after key low k (e ∷ es) zero r h = (is_greater (key e) k (h 0 e (omega arith) (omega arith)), r.1)
RisesFrom-after key low k (e ∷ es) (suc at) r h = RisesFrom-after key (suc (key e)) k es at r.1 (λ i d l b. h (suc i) d (omega arith) (omega arith))

-- where the key stands
pub find_here : {E : Type 0} (key : E → ℕ) (low k : ℕ) (es : List E) (at : ℕ) (d : E) → RisesFrom key low es → at < length es → key (get_or es at d) ≡ k → find key k es ≡ Some (get_or es at d)
find_here key low k es at d r l h = rw h at (find_at key low es at d r l)

pub put_here : {E : Type 0} (key : E → ℕ) (low : ℕ) (x : E) (es : List E) (at : ℕ) (d : E) → RisesFrom key low es → at < length es → key (get_or es at d) ≡ key x → put key x es ≡ set es at x
put_here key low x [] at d r l h = absurd (omega arith)
put_here key low x (e ∷ es) zero d r l h = grind (arith, nat_tests)
put_here key low x (e ∷ es) (suc at) d r l h = grind (arith, nat_tests, key_at key (suc (key e)) es at d r.1 (omega arith), put_here key (suc (key e)) x es at d r.1 (omega arith) h)

pub remove_here : {E : Type 0} (key : E → ℕ) (low k : ℕ) (es : List E) (at : ℕ) (d : E) → RisesFrom key low es → at < length es → key (get_or es at d) ≡ k → remove key k es ≡ take at es ++ drop (suc at) es
remove_here key low k [] at d r l h = absurd (omega arith)
remove_here key low k (e ∷ es) zero d r l h = grind (arith, nat_tests, remove_missing key k es, find_below key (suc (key e)) es k r.1)
remove_here key low k (e ∷ es) (suc at) d r l h = grind (arith, nat_tests, key_at key (suc (key e)) es at d r.1 (omega arith), remove_here key (suc (key e)) k es at d r.1 (omega arith) h)

-- where the key would stand
pub find_missing : {E : Type 0} (key : E → ℕ) (k : ℕ) (es : List E) (at : ℕ) → IsAbove key k (take at es) → RisesFrom key (suc k) (drop at es) → find key k es ≡ None
find_missing key k es zero a r = find_below key (suc k) es k r (omega arith)
find_missing key k [] (suc at) a r = refl
find_missing key k (e ∷ es) (suc at) a r = grind (arith, nat_tests, find_missing key k es at a.1 r)

pub put_missing : {E : Type 0} (key : E → ℕ) (x : E) (es : List E) (at : ℕ) → IsAbove key (key x) (take at es) → RisesFrom key (suc (key x)) (drop at es) → put key x es ≡ take at es ++ x ∷ drop at es
put_missing key x [] zero a r = refl
put_missing key x (e ∷ es) zero a r = grind (arith, nat_tests)
put_missing key x [] (suc at) a r = refl
put_missing key x (e ∷ es) (suc at) a r = grind (arith, nat_tests, put_missing key x es at a.1 r)

-- where something stands at the last place
pub last_place : {E : Type 0} (es : List E) (x : E) → slice_get es (length es - 1) ≡ Some x → suc (length es - 1) ≡ length es
last_place [] x h = cc
last_place (e ∷ es) x h = omega arith

-- where the last key is below a number all are
pub above_last : {E : Type 0} (key : E → ℕ) (low k : ℕ) (es : List E) (at : ℕ) (x : E) → RisesFrom key low es → suc at ≡ length es → slice_get es at ≡ Some x → key x < k → IsAbove key k es
above_last key low k [] at x r n h l = tt
above_last key low k (e ∷ []) zero x r n h l = (grind (arith, nat_tests), tt)
above_last key low k (e ∷ []) (suc at) x r n h l = absurd (omega (arith, n))
above_last key low k (e ∷ f ∷ es) zero x r n h l = absurd (omega (arith, n))
above_last key low k (e ∷ f ∷ es) (suc at) x r n h l =
    let rest = above_last key (suc (key e)) k (f ∷ es) at x r.1 (omega (arith, n)) h l in
    (omega (arith, rest.0, r.1.0), rest)

-- up to the place of a key none is above it, and behind it all are
pub above_here : {E : Type 0} (key : E → ℕ) (low k : ℕ) (es : List E) (at : ℕ) → RisesFrom key low es → at < length es → HoldsAt (λ e. key e ≡ k) es at → IsAbove key (suc k) (take (suc at) es)
above_here key low k [] at r l h = absurd (omega arith)
above_here key low k (e ∷ es) zero r l h = (omega (arith, h e), tt)
above_here key low k (e ∷ es) (suc at) r l h = (omega (arith, h e, key_at key (suc (key e)) es at e r.1 (omega arith)), above_here key (suc (key e)) k es at r.1 (omega arith) h)

pub rises_behind : {E : Type 0} (key : E → ℕ) (low k : ℕ) (es : List E) (at : ℕ) → RisesFrom key low es → at < length es → HoldsAt (λ e. key e ≡ k) es at → RisesFrom key (suc k) (drop (suc at) es)
rises_behind key low k [] at r l h = absurd (omega arith)
rises_behind key low k (e ∷ es) zero r l h = rw (← h e) r.1
rises_behind key low k (e ∷ es) (suc at) r l h = rises_behind key (suc (key e)) k es at r.1 (omega arith) h

-- ---- item by item

-- all rise above a key, so all are behind it
after_all : {E : Type 0} (key : E → ℕ) (k low : ℕ) (es : List E) → RisesFrom key low es → suc k ≤ low → after_key key (Some k) es ≡ es
after_all key k low [] r l = refl
after_all key k low (e ∷ es) r l = grind (arith, nat_tests, r.0, l, after_all key k (suc (key e)) es r.1)

-- where those above a key begin
pub drop_behind : {E : Type 0} (key : E → ℕ) (low k : ℕ) (es : List E) (at : ℕ) → RisesFrom key low es → IsAbove key (suc k) (take at es) → RisesFrom key (suc k) (drop at es) → drop at es ≡ after_key key (Some k) es
drop_behind key low k es zero r above below = sym (after_all key k (suc k) es below (omega arith))
drop_behind key low k [] (suc at) r above below = refl
drop_behind key low k (e ∷ es) (suc at) r above below = grind (arith, nat_tests, above.0, drop_behind key (suc (key e)) k es at r.1 above.1 below)

-- the next one is no lower than the first
after_low : {E : Type 0} (key : E → ℕ) (low k : ℕ) (es : List E) (x : E) → RisesFrom key low es → slice_get (after_key key (Some k) es) 0 ≡ Some x → low ≤ key x
after_low key low k [] x r h = cc
after_low key low k (e ∷ es) x r h = by_test (nat_lt k (key e)) h (λ g. after_low key (suc (key e)) k es x r.1 g)
  where
    by_test : (b : Bool) → slice_get (cond b (e ∷ after_key key (Some k) es) (after_key key (Some k) es)) 0 ≡ Some x → (slice_get (after_key key (Some k) es) 0 ≡ Some x → suc (key e) ≤ key x) → low ≤ key x
    by_test true h rest = let same : e ≡ x = same_Some e x h in grind (arith, nat_tests, same, r.0)
    by_test false h rest = omega (arith, r.0, rest h)

-- the items behind a key are the next one and those behind it
pub after_next : {E : Type 0} (key : E → ℕ) (low : ℕ) (from : Option ℕ) (es : List E) (x : E) → RisesFrom key low es → slice_get (after_key key from es) 0 ≡ Some x →
    after_key key from es ≡ x ∷ after_key key (Some (key x)) es
after_next key low None [] x r h = cc
after_next key low None (e ∷ es) x r h =
    let same : e ≡ x = same_Some e x h in
    let rest : after_key key (Some (key e)) es ≡ es = after_all key (key e) (suc (key e)) es r.1 (omega arith) in
    grind (arith, nat_tests, same, rest)
after_next key low (Some k) [] x r h = cc
after_next key low (Some k) (e ∷ es) x r h = by_test (nat_lt k (key e)) refl h (after_next key (suc (key e)) (Some k) es x r.1)
  where
    by_test : (b : Bool) → nat_lt k (key e) ≡ b → slice_get (cond b (e ∷ after_key key (Some k) es) (after_key key (Some k) es)) 0 ≡ Some x →
        (slice_get (after_key key (Some k) es) 0 ≡ Some x → after_key key (Some k) es ≡ x ∷ after_key key (Some (key x)) es) →
        cond b (e ∷ after_key key (Some k) es) (after_key key (Some k) es) ≡ x ∷ after_key key (Some (key x)) (e ∷ es)
    by_test true is h rest =
        let same : e ≡ x = same_Some e x h in
        let behind : after_key key (Some (key e)) es ≡ es = after_all key (key e) (suc (key e)) es r.1 (omega arith) in
        let all : after_key key (Some k) es ≡ es = after_all key k (suc (key e)) es r.1 (grind (arith, nat_tests, is)) in
        grind (arith, nat_tests, same, behind, all)
    by_test false is h rest = let more = after_low key (suc (key e)) k es x r.1 h in let rest_is = rest h in grind (arith, nat_tests, more, rest_is)

-- nothing is left where there is no next one
pub after_none : {E : Type 0} (es : List E) → slice_get es 0 ≡ None → es ≡ []
after_none [] h = refl
after_none (e ∷ es) h = cc

-- an item behind others is no lower than the first
pub at_least : {E : Type 0} (key : E → ℕ) (low : ℕ) (xs : List E) (x : E) (ys : List E) → RisesFrom key low (xs ++ x ∷ ys) → low ≤ key x
at_least key low [] x ys r = r.0
at_least key low (z ∷ xs) x ys r = omega (arith, r.0, at_least key (suc (key z)) xs x ys r.1)

-- the items before one are below it
pub above_prefix : {E : Type 0} (key : E → ℕ) (low : ℕ) (xs : List E) (x : E) (ys : List E) → RisesFrom key low (xs ++ x ∷ ys) → IsAbove key (key x) xs
above_prefix key low [] x ys r = tt
above_prefix key low (z ∷ xs) x ys r = (at_least key (suc (key z)) xs x ys r.1, above_prefix key (suc (key z)) xs x ys r.1)

module _ {E : Type 0} (key : E → ℕ) (es out : List E) (from : Option ℕ) (x : E) (rises : RisesFrom key 0 es) (next : slice_get (after_key key from es) 0 ≡ Some x) where
  -- what was passed, and the next item
  pub passed_next : out ++ after_key key from es ≡ es → (out ++ x ∷ []) ++ after_key key (Some (key x)) es ≡ es
  passed_next so_far = append_assoc out (x ∷ []) (after_key key (Some (key x)) es) ∙ (ap (λ l. out ++ l) (sym (after_next key 0 from es x rises next)) ∙ so_far)

  -- fewer are left
  pub fewer_after : length (after_key key (Some (key x)) es) < length (after_key key from es)
  fewer_after = rw (after_next key 0 from es x rises next) (omega arith)

  -- the next item is above those that were passed
  pub above_passed : out ++ after_key key from es ≡ es → IsAbove key (key x) out
  above_passed so_far = above_prefix key 0 out x (after_key key (Some (key x)) es) (subst (RisesFrom key 0) (sym passed_whole) rises)
    where
      passed_whole : out ++ x ∷ after_key key (Some (key x)) es ≡ es
      passed_whole = ap (λ l. out ++ l) (sym (after_next key 0 from es x rises next)) ∙ so_far

-- ---- place by place

module _ {E : Type 0} (key : E → ℕ) (es : List E) (n : ℕ) (from : Option ℕ) (stands : after_key key from es ≡ drop n es) where
  -- where the next item behind a key is the n-th one, that behind it is the next
  pub nth_next : (x : E) → RisesFrom key 0 es → slice_get (after_key key from es) 0 ≡ Some x → (slice_get es n ≡ Some x) × (after_key key (Some (key x)) es ≡ drop (n + 1) es)
  nth_next x rises next =
      let left : drop n es ≡ x ∷ after_key key (Some (key x)) es = sym stands ∙ after_next key 0 from es x rises next in
      let rest = after_key key (Some (key x)) es in
      (drop_first es n x rest left, rw plus_one (sym (drop_rest es n x rest left)))
    where
      plus_one : n + 1 ≡ suc n
      plus_one = omega arith

  -- where there is none behind it, there is no n-th one
  pub nth_none : slice_get (after_key key from es) 0 ≡ None → (slice_get es n ≡ None) × (after_key key from es ≡ drop (n + 1) es)
  nth_none none =
      let nothing = after_none (after_key key from es) none in
      let left : drop n es ≡ [] = sym stands ∙ nothing in
      (drop_none es n left, nothing ∙ sym (rw plus_one (drop_still es n left)))
    where
      plus_one : n + 1 ≡ suc n
      plus_one = omega arith

-- ---- copies

-- of a copy, the next item is above those made so far
pub next_is_above : {E : Type 0} (key : E → ℕ) (all items out : List E) (i : ℕ) (item copy : E) →
    RisesFrom key 0 all → items ≡ all → out ≡ take i items → i < length items → item ≡ get_or items i item → copy ≡ item → IsAbove key (key copy) out
next_is_above key all items out i item copy rises same so_far within at copied =
    let rising : RisesFrom key 0 items = rw same rises in
    let number : key copy ≡ key (get_or items i item) = ap key (copied ∙ at) in
    rw (so_far, number) (IsAbove-take key 0 items i item rising within)
