-- What stands at the places of a list, and what is made of its items.
use Rattle.std.proofs.Common.{◌≡◌, ℕ, zero, suc, ◌+◌, ◌<◌, ◌≤◌, Bool, true, false, List, [], ◌∷◌, length, get_or, set, drop, map, Some, None, refl, sym, ap, ap₂, ◌∙◌, arith, drop-cons, add-one}
use Rattle.std.specs.List.{flat_map, list_all, slice_get, prefix_len}
use Rattle.std.specs.List.Sorted.{IsPartitionPoint}
use Rattle.std.proofs.lemmas.Bool.{and_parts}
use Rattle.std.proofs.lemmas.List.{set-get_or}
use Rattle.std.proofs.lemmas.List.Sums.{prefix_len_is}
use Rattle.std.proofs.lemmas.Option.{get_or_from_slice_get}

-- nothing stands past the end only
pub past_end : {X : Type 0} (xs : List X) (i : ℕ) → slice_get xs i ≡ None → length xs ≤ i
past_end [] i h = omega arith
past_end (x ∷ xs) zero h = cc
past_end (x ∷ xs) (suc i) h = omega (arith, past_end xs i h)

-- an item put where it stands changes nothing
pub set_same : {X : Type 0} (xs : List X) (i : ℕ) (x : X) → slice_get xs i ≡ Some x → set xs i x ≡ xs
set_same xs i x h = ap (set xs i) (sym (get_or_from_slice_get xs i x x h)) ∙ set-get_or xs i x

-- an item of a list whose items all pass a test
pub all-slice_get : {X : Type 0} (p : X → Bool) (xs : List X) (i : ℕ) (x : X) → list_all p xs ≡ true → slice_get xs i ≡ Some x → p x ≡ true
all-slice_get p [] i x h e = cc
all-slice_get p (y ∷ ys) zero x h e = let same : y ≡ x = cc in ap p (sym same) ∙ (and_parts (p y) (list_all p ys) h).0
all-slice_get p (y ∷ ys) (suc i) x h e = all-slice_get p ys i x (and_parts (p y) (list_all p ys) h).1 e

-- what is left from a place on begins with the item that was read there
pub drop_read : {X : Type 0} (xs : List X) (i : ℕ) (x : X) → i < length xs → x ≡ get_or xs i x → drop i xs ≡ x ∷ drop (i + 1) xs
drop_read {X = X} xs i x within read = drop-cons xs i x within ∙ ap₂ (λ (y : X) (n : ℕ). y ∷ drop n xs) (sym read) (sym (add-one i))

-- the first item of what is left from a place on stands at that place
pub drop_first : {X : Type 0} (xs : List X) (i : ℕ) (y : X) (ys : List X) → drop i xs ≡ y ∷ ys → slice_get xs i ≡ Some y
drop_first [] zero y ys h = cc
drop_first [] (suc i) y ys h = cc
drop_first (x ∷ xs) zero y ys h = cc
drop_first (x ∷ xs) (suc i) y ys h = drop_first xs i y ys h

-- behind it stands what is left from the next place on
pub drop_rest : {X : Type 0} (xs : List X) (i : ℕ) (y : X) (ys : List X) → drop i xs ≡ y ∷ ys → drop (suc i) xs ≡ ys
drop_rest [] zero y ys h = cc
drop_rest [] (suc i) y ys h = cc
drop_rest (x ∷ xs) zero y ys h = cc
drop_rest (x ∷ xs) (suc i) y ys h = drop_rest xs i y ys h

-- where nothing is left, nothing stands at the place
pub drop_none : {X : Type 0} (xs : List X) (i : ℕ) → drop i xs ≡ [] → slice_get xs i ≡ None
drop_none [] i h = refl
drop_none (x ∷ xs) zero h = cc
drop_none (x ∷ xs) (suc i) h = drop_none xs i h

-- and nothing is left from the next place on
pub drop_still : {X : Type 0} (xs : List X) (i : ℕ) → drop i xs ≡ [] → drop (suc i) xs ≡ []
drop_still [] zero h = refl
drop_still [] (suc i) h = refl
drop_still (x ∷ xs) zero h = cc
drop_still (x ∷ xs) (suc i) h = drop_still xs i h

-- a point that parts the items that pass from those that fail is how many pass
pub point_is : {X : Type 0} (p : X → Bool) (xs : List X) (at : ℕ) → at ≤ length xs → IsPartitionPoint (λ x. p x ≡ true) (λ x. p x ≡ false) xs at → at ≡ prefix_len p xs
point_is p [] at bound point = omega (arith, bound)
point_is p (x ∷ xs) at bound point = sym (prefix_len_is p (x ∷ xs) at x bound (λ k l. point.0 k x (omega arith) l) (λ l. point.1 at x (omega arith) l))

-- two functions that make the same of each item make the same list
pub map_same : {X Y : Type 0} (f g : X → Y) → ((x : X) → f x ≡ g x) → (xs : List X) → map f xs ≡ map g xs
map_same f g h [] = refl
map_same f g h (x ∷ xs) = ap₂ (λ y ys. y ∷ ys) (h x) (map_same f g h xs)

-- and so do two that make lists
pub flat_map_same : {X Y : Type 0} (f g : X → List Y) → ((x : X) → f x ≡ g x) → (xs : List X) → flat_map f xs ≡ flat_map g xs
flat_map_same f g h [] = refl
flat_map_same f g h (x ∷ xs) = rw (h x, flat_map_same f g h xs) refl
