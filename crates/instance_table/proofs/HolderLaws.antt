-- Lists of holders by the place that a search finds.
use Rattle.std.proofs.Common.{◌≡◌, ℕ, zero, suc, ◌+◌, ◌<◌, ◌≤◌, Bool, true, false, cond, not, ◌||◌, ◌==◌, List, [], ◌∷◌, ◌++◌, length, filter, take, drop, get_or, refl, sym, ap, ◌∙◌, arith, leb, leb-true, leb-false, ltb, ltb-true}
use Rattle.std.specs.Prelude.{slice_get}
use Rattle.std.specs.List.{insert, remove, remove_range, prefix_len}
use Rattle.std.specs.List.Sorted.{IsNonDecreasingBy, IsPartitionPoint}
use Rattle.std.proofs.lemmas.Bool.{ltb-false}
use Rattle.std.proofs.lemmas.Bool.Decides.{nat_tests}
use Rattle.std.proofs.lemmas.List.Sums.{prefix_len_is}
use Rattle.lists.proofs.Numbers.{one_up}
use Rattle.state_model.specs.Reached.{is_among}
use Rattle.instance_table.specs.Holders.{AscendsFrom, is_holder, with_holder, without_one}

-- how many are below a number, and how many aren't above it
abbrev pub low_end : ℕ → List ℕ → ℕ
low_end h ns = prefix_len (λ n. ltb n h) ns

abbrev pub high_end : ℕ → List ℕ → ℕ
high_end h ns = prefix_len (λ n. leb n h) ns

-- a lower bound
pub AscendsFrom-lower : (low high : ℕ) (ns : List ℕ) → low ≤ high → AscendsFrom high ns → AscendsFrom low ns
AscendsFrom-lower low high [] h k = tt
AscendsFrom-lower low high (n ∷ ns) h k = (omega (arith, k.0), k.1)

get_above : (low : ℕ) (ns : List ℕ) (j d : ℕ) → AscendsFrom low ns → j < length ns → low ≤ get_or ns j d
get_above low [] j d k l = absurd (omega arith)
get_above low (n ∷ ns) zero d k l = k.0
get_above low (n ∷ ns) (suc j) d k l = omega (arith, k.0, get_above n ns j d k.1 (omega arith))

-- the numbers don't fall
pub ascends_up : (low : ℕ) (ns : List ℕ) → AscendsFrom low ns → IsNonDecreasingBy (λ n. n) ns
ascends_up low [] k i j d o l = absurd (omega arith)
ascends_up low (n ∷ ns) k zero zero d o l = omega arith
ascends_up low (n ∷ ns) k zero (suc j) d o l = get_above n ns j d k.1 (omega arith)
ascends_up low (n ∷ ns) k (suc i) zero d o l = absurd (omega arith)
ascends_up low (n ∷ ns) k (suc i) (suc j) d o l = ascends_up n ns k.1 i j d (omega arith) (omega arith)

-- numbers that don't fall rise with repeats
pub ascends_from : (low : ℕ) (ns : List ℕ) → ((j d : ℕ) → j < length ns → low ≤ get_or ns j d) → IsNonDecreasingBy (λ n. n) ns → AscendsFrom low ns
ascends_from low [] above up = tt
ascends_from low (n ∷ ns) above up =
    (above zero n (omega arith), ascends_from n ns (λ j d l. up zero (suc j) d (omega arith) (omega arith)) (λ i j d o l. up (suc i) (suc j) d (omega arith) (omega arith)))

-- a point that parts them is how long the first part is
pub point_is : (p : ℕ → Bool) (ns : List ℕ) (r : ℕ) → r ≤ length ns → IsPartitionPoint (λ n. p n ≡ true) (λ n. p n ≡ false) ns r → r ≡ prefix_len p ns
point_is p ns r bound point = sym (prefix_len_is p ns r 0 bound (λ k l. point.0 k 0 (omega arith) l) (λ l. point.1 r 0 (omega arith) l))

-- a number below all isn't among them
none_below : (h low : ℕ) (ns : List ℕ) → AscendsFrom low ns → h < low → is_among h ns ≡ false
none_below h low [] k l = refl
none_below h low (n ∷ ns) k l = grind (arith, nat_tests, k.0, none_below h n ns k.1 (omega (arith, k.0)))

none_passes : (h : ℕ) (ns : List ℕ) → is_among h ns ≡ false → filter (λ n. not (n == h)) ns ≡ ns
none_passes h [] k = refl
none_passes h (n ∷ ns) k = grind (arith, nat_tests, none_passes h ns)

pub none_taken : (h : ℕ) (ns : List ℕ) → is_among h ns ≡ false → without_one h ns ≡ ns
none_taken h [] k = refl
none_taken h (n ∷ ns) k = grind (arith, nat_tests, none_taken h ns)

pub ends_rise : (h : ℕ) (ns : List ℕ) → low_end h ns ≤ high_end h ns
ends_rise h [] = omega arith
ends_rise h (n ∷ ns) = grind (arith, nat_tests, ends_rise h ns)

pub high_within : (h : ℕ) (ns : List ℕ) → high_end h ns ≤ length ns
high_within h [] = omega arith
high_within h (n ∷ ns) = grind (arith, nat_tests, high_within h ns)

-- one more
pub inserted : (h : ℕ) (ns : List ℕ) → insert ns (high_end h ns) h ≡ with_holder h ns
inserted h [] = refl
inserted h (n ∷ ns) =
    let k = high_end h ns in
    let go : (b : Bool) → take (cond b (1 + k) 0) (n ∷ ns) ++ h ∷ drop (cond b (1 + k) 0) (n ∷ ns) ≡ cond b (n ∷ with_holder h ns) (h ∷ n ∷ ns)
    = elim [ true ↦ ap (λ m. take m (n ∷ ns) ++ h ∷ drop m (n ∷ ns)) (one_up k) ∙ ap (λ l. n ∷ l) (inserted h ns) | false ↦ refl ] in
    go (leb n h)

pub ascends_with : (h low : ℕ) (ns : List ℕ) → low ≤ h → AscendsFrom low ns → AscendsFrom low (with_holder h ns)
ascends_with h low [] l k = (l, tt)
ascends_with h low (n ∷ ns) l k =
    let go : (b : Bool) → leb n h ≡ b → AscendsFrom low (cond b (n ∷ with_holder h ns) (h ∷ n ∷ ns))
    = elim [ true ↦ λ e. (k.0, ascends_with h n ns (leb-true n h e) k.1) | false ↦ λ e. (l, (omega (arith, leb-false n h e), k.1)) ] in
    go (leb n h) refl

-- a holder stands where it would be found
pub found_among : (h low : ℕ) (ns : List ℕ) → AscendsFrom low ns → is_holder h (slice_get ns (low_end h ns)) ≡ is_among h ns
found_among h low [] k = refl
found_among h low (n ∷ ns) k =
    let rest = low_end h ns in
    let go : (b : Bool) → ltb n h ≡ b → is_holder h (slice_get (n ∷ ns) (cond b (1 + rest) 0)) ≡ ((n == h) || is_among h ns)
    = elim [
      | true ↦ λ e. let found = found_among h n ns k.1 in grind (arith, nat_tests, ltb-true n h e)
      | false ↦ λ e. let low = none_below h n ns k.1 in grind (arith, nat_tests, ltb-false n h e)
    ] in
    go (ltb n h) refl

-- one less
pub taken : (h : ℕ) (ns : List ℕ) → is_holder h (slice_get ns (low_end h ns)) ≡ true → remove ns (low_end h ns) ≡ without_one h ns
taken h [] k = cc
taken h (n ∷ ns) k =
    let rest = low_end h ns in
    let go : (b : Bool) → ltb n h ≡ b → is_holder h (slice_get (n ∷ ns) (cond b (1 + rest) 0)) ≡ true
    → take (cond b (1 + rest) 0) (n ∷ ns) ++ drop (suc (cond b (1 + rest) 0)) (n ∷ ns) ≡ cond (n == h) ns (n ∷ without_one h ns)
    = elim [
      | true ↦ λ e f.
          let more = taken h ns (sym (ap (λ m. is_holder h (slice_get (n ∷ ns) m)) (one_up rest)) ∙ f) in
          let other : (n == h) ≡ false = grind (arith, nat_tests, ltb-true n h e) in
          ap (λ m. take m (n ∷ ns) ++ drop (suc m) (n ∷ ns)) (one_up rest) ∙ (ap (λ l. n ∷ l) more ∙ sym (ap (λ b. cond b ns (n ∷ without_one h ns)) other))
      | false ↦ λ e f. ap (λ b. cond b ns (n ∷ without_one h ns)) (sym f)
    ] in
    go (ltb n h) refl k

pub ascends_without : (h low : ℕ) (ns : List ℕ) → AscendsFrom low ns → AscendsFrom low (without_one h ns)
ascends_without h low [] k = tt
ascends_without h low (n ∷ ns) k =
    let go : (b : Bool) → AscendsFrom low (cond b ns (n ∷ without_one h ns))
    = elim [ true ↦ AscendsFrom-lower low n ns k.0 k.1 | false ↦ (k.0, ascends_without h n ns k.1) ] in
    go (n == h)

-- none of a holder
low_zero : (h low : ℕ) (ns : List ℕ) → AscendsFrom low ns → h ≤ low → low_end h ns ≡ 0
low_zero h low [] k l = refl
low_zero h low (n ∷ ns) k l = grind (arith, nat_tests, k.0)

high_zero : (h low : ℕ) (ns : List ℕ) → AscendsFrom low ns → h < low → high_end h ns ≡ 0
high_zero h low [] k l = refl
high_zero h low (n ∷ ns) k l = grind (arith, nat_tests, k.0)

pub dropped : (h low : ℕ) (ns : List ℕ) → AscendsFrom low ns → remove_range ns (low_end h ns) (high_end h ns) ≡ filter (λ n. not (n == h)) ns
dropped h low [] k = refl
dropped h low (n ∷ ns) k =
    let from = low_end h ns in
    let to = high_end h ns in
    let more = dropped h n ns k.1 in
    let others = filter (λ m. not (m == h)) ns in
    let go : (a b : Bool) → ltb n h ≡ a → leb n h ≡ b
    → take (cond a (1 + from) 0) (n ∷ ns) ++ drop (cond b (1 + to) 0) (n ∷ ns) ≡ cond (not (n == h)) (n ∷ others) others
    = elim [
      | true ↦ elim [
        | true ↦ λ e f. grind (arith, nat_tests, ltb-true n h e)
        | false ↦ λ e f. absurd (omega (arith, ltb-true n h e, leb-false n h f))
      ]
      | false ↦ elim [
        | true ↦ λ e f. let start = low_zero h n ns k.1 in grind (arith, nat_tests, ltb-false n h e, leb-true n h f)
        | false ↦ λ e f. let none = none_below h n ns k.1 in let all = none_passes h ns in grind (arith, nat_tests, leb-false n h f)
      ]
    ] in
    go (ltb n h) (leb n h) refl refl

pub ascends_filter : (p : ℕ → Bool) (low : ℕ) (ns : List ℕ) → AscendsFrom low ns → AscendsFrom low (filter p ns)
ascends_filter p low [] k = tt
ascends_filter p low (n ∷ ns) k =
    let go : (b : Bool) → AscendsFrom low (cond b (n ∷ filter p ns) (filter p ns))
    = elim [ true ↦ (k.0, ascends_filter p n ns k.1) | false ↦ AscendsFrom-lower low n (filter p ns) k.0 (ascends_filter p n ns k.1) ] in
    go (p n)
