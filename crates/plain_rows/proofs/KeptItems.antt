-- Rising lists that are made of some items of others.
use Rattle.std.proofs.Common.{◌≡◌, ℕ, suc, ◌-◌, ◌<◌, Bool, List, [], ◌∷◌, length, get_or, take, filter, map, Some, slice_get, sym, ap, ◌∙◌, arith}
use Rattle.lists.specs.Rising.{RisesFrom, IsAbove}
use Rattle.lists.proofs.RisingLaws.{IsAbove-take, IsAbove-filter}

-- of the items that pass, the next is above those so far
pub kept_is_above : {E : Type 0} (key : E → ℕ) (p : E → Bool) (all items out : List E) (i : ℕ) (item copy : E) →
    RisesFrom key 0 all → items ≡ all → out ≡ filter p (take i items) → i < length items → item ≡ get_or items i item → copy ≡ item → IsAbove key (key copy) out
kept_is_above key p all items out i item copy rises same so_far within at copied =
    let rising : RisesFrom key 0 items = rw same rises in
    let number : key copy ≡ key (get_or items i item) = ap key (copied ∙ at) in
    rw (so_far, number) (IsAbove-filter key (key (get_or items i item)) p (take i items) (IsAbove-take key 0 items i item rising within))

IsAbove-map : {E : Type 0} (key : E → ℕ) (f : E → E) (high : ℕ) (es : List E) → ((e : E) → key (f e) ≡ key e) → IsAbove key high es → IsAbove key high (map f es)
IsAbove-map key f high [] h a = tt
IsAbove-map key f high (e ∷ es) h a = (rw (h e) a.0, IsAbove-map key f high es h a.1)

-- of items with the same keys, the next is above those so far
pub made_is_above : {E : Type 0} (key : E → ℕ) (f : E → E) (items out : List E) (i : ℕ) (item made : E) →
    ((e : E) → key (f e) ≡ key e) → RisesFrom key 0 items → out ≡ map f (take i items) → i < length items → item ≡ get_or items i item → key made ≡ key item → IsAbove key (key made) out
made_is_above key f items out i item made h rises so_far within at number =
    rw (so_far, number ∙ ap key at) (IsAbove-map key f (key (get_or items i item)) (take i items) h (IsAbove-take key 0 items i item rises within))

-- behind the last item stands what is above it
pub above_last : {E : Type 0} (key : E → ℕ) (low k : ℕ) (es : List E) (e : E) → RisesFrom key low es → slice_get es (length es - 1) ≡ Some e → key e < k → IsAbove key k es
above_last key low k [] e r s l = tt
above_last key low k (x ∷ []) e r s l = let same : x ≡ e = cc in (rw same l, tt)
above_last key low k (x ∷ (y ∷ es)) e r s l =
    let at : length (x ∷ (y ∷ es)) - 1 ≡ suc (length (y ∷ es) - 1) = omega arith in
    let rest : IsAbove key k (y ∷ es) = above_last key (suc (key x)) k (y ∷ es) e r.1 (sym (ap (slice_get (x ∷ (y ∷ es))) at) ∙ s) l in
    (omega (arith, rest.0, r.1.0), rest)
