-- Sums over a list's items after an edit of the list: what is put in is added, what stood in its place is taken off.
use Rattle.std.proofs.Common.{◌≡◌, ℕ, suc, ◌+◌, ◌<◌, Bool, true, false, not, List, [], ◌∷◌, length, map, filter, set, Option, Some, None, refl, sym, ap, ◌∙◌, arith}
use Rattle.std.specs.List.{sum_by, flat_map, list_any, find, slice_get, remove}
use Rattle.std.specs.Option.{option_map, option_map_or}
use Rattle.std.proofs.lemmas.Bool.Decides.{nat_tests}
use Rattle.std.proofs.lemmas.List.Sums.{sum_by-cons, sum_by-append, sum_by-set, sum_by-remove}
use Rattle.std.proofs.lemmas.Option.{slice_get-get_or}
use Rattle.lists.specs.Rising as rising
use Rattle.lists.proofs.RisingLaws.{find_below}
use Rattle.lists.proofs.Passing.{filter_keeps}

-- a sum over what a function makes of the items
pub sum_by-map : {X Y : Type 0} (w : Y → ℕ) (g : X → Y) (xs : List X) → sum_by w (map g xs) ≡ sum_by (λ x. w (g x)) xs
sum_by-map w g [] = refl
sum_by-map w g (x ∷ xs) = sum_by-cons w (g x) (map g xs) ∙ ap (λ n. w (g x) + n) (sum_by-map w g xs) ∙ sym (sum_by-cons (λ y. w (g y)) x xs)

-- a sum over the lists that a function makes of the items
pub sum_by-flat_map : {X Y : Type 0} (w : Y → ℕ) (g : X → List Y) (xs : List X) → sum_by w (flat_map g xs) ≡ sum_by (λ x. sum_by w (g x)) xs
sum_by-flat_map w g [] = refl
sum_by-flat_map w g (x ∷ xs) = sum_by-append w (g x) (flat_map g xs) ∙ ap (λ n. sum_by w (g x) + n) (sum_by-flat_map w g xs) ∙ sym (sum_by-cons (λ y. sum_by w (g y)) x xs)

-- a sum of ones
pub sum_by-ones : {X : Type 0} (xs : List X) → sum_by (λ x. 1) xs ≡ length xs
sum_by-ones [] = refl
sum_by-ones (x ∷ xs) = omega (arith, sum_by-cons (λ y. 1) x xs, sum_by-ones xs)

-- the weight of what a function makes of an item, where there is one
pub weight-map : {X Y : Type 0} (w : Y → ℕ) (g : X → Y) (o : Option X) → option_map_or w (option_map g o) 0 ≡ option_map_or (λ x. w (g x)) o 0
weight-map w g None = refl
weight-map w g (Some x) = refl

-- an item put by its key
pub sum_by-put : {E : Type 0} (key w : E → ℕ) (low : ℕ) (x : E) (es : List E) → rising.RisesFrom key low es → sum_by w (rising.put key x es) + option_map_or w (rising.find key (key x) es) 0 ≡ sum_by w es + w x
sum_by-put key w low x [] r = omega (arith, sum_by-cons w x [])
sum_by-put key w low x (e ∷ es) r = grind (
  arith,
  nat_tests,
  find_below key (suc (key e)) es (key x) r.1,
  sum_by-cons w e es,
  sum_by-cons w x es,
  sum_by-cons w x (e ∷ es),
  sum_by-cons w e
      (rising.put key x es),
  sum_by-put key w (suc (key e)) x es r.1,
)

-- at most one item passes a test
abbrev pub IsSingle : {X : Type 0} → (X → Bool) → List X → Type 0
IsSingle p [] = Unit {0}
IsSingle p (x ∷ xs) = (p x ≡ true → list_any p xs ≡ false) × IsSingle p xs

-- the one item that passes a test taken out
pub sum_by-single : {X : Type 0} (p : X → Bool) (w : X → ℕ) (xs : List X) → IsSingle p xs → sum_by w (filter (λ x. not (p x)) xs) + option_map_or w (find p xs) 0 ≡ sum_by w xs
sum_by-single p w [] s = refl
sum_by-single p w (x ∷ xs) s = grind (arith, nat_tests, s.0, filter_keeps p xs, sum_by-cons w x xs, sum_by-cons w x (filter (λ x. not (p x)) xs), sum_by-single p w xs s.1)

-- the item of a key taken out
pub sum_by-remove_key : {E : Type 0} (key w : E → ℕ) (low k : ℕ) (es : List E) → rising.RisesFrom key low es → sum_by w (rising.remove key k es) + option_map_or w (rising.find key k es) 0 ≡ sum_by w es
sum_by-remove_key key w low k [] r = refl
sum_by-remove_key key w low k (e ∷ es) r = grind (arith, nat_tests, find_below key (suc (key e)) es k r.1, sum_by-cons w e es, sum_by-cons w e (rising.remove key k es), sum_by-remove_key key w (suc (key e)) k es r.1)

-- an item set at a place
pub sum_by-set_at : {X : Type 0} (w : X → ℕ) (xs : List X) (at : ℕ) (x : X) → at < length xs → sum_by w (set xs at x) + option_map_or w (slice_get xs at) 0 ≡ sum_by w xs + w x
sum_by-set_at w xs at x h = ap (λ o. sum_by w (set xs at x) + option_map_or w o 0) (slice_get-get_or xs at x h) ∙ sum_by-set w xs at x x h

-- an item taken out at a place
pub sum_by-remove_at : {X : Type 0} (w : X → ℕ) (xs : List X) (at : ℕ) (d : X) → at < length xs → sum_by w (remove xs at) + option_map_or w (slice_get xs at) 0 ≡ sum_by w xs
sum_by-remove_at w xs at d h = ap (λ o. sum_by w (remove xs at) + option_map_or w o 0) (slice_get-get_or xs at d h) ∙ sum_by-remove w xs at d h
