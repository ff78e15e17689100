-- What tests of all or of any of a list's items, and values that differ, say after an edit of the list.
use Rattle.std.proofs.Common.{◌≡◌, ℕ, zero, suc, Bool, true, false, not, ◌||◌, List, [], ◌∷◌, ◌++◌, map, filter, set, refl, ap, ◌∙◌, arith}
use Rattle.std.specs.List.{list_any, list_all, remove}
use Rattle.std.proofs.lemmas.Bool.{and_parts, and_from, or_parts, not-true}
use Rattle.std.proofs.lemmas.Bool.Decides.{nat_tests}
use Rattle.std.proofs.lemmas.List.Folds.{list_any-append}
use Rattle.lists.proofs.Passing.{list_any_filtered, list_any-map}
use Rattle.schema_model.specs.declared.value.Value.{Value}
use Rattle.schema_model.specs.Values.{same_value}
use Rattle.state_model.specs.Sound.{differ}
use Rattle.state_laws.proofs.SameValues.{same_value_sym}

-- an item put by its key

-- an item set at a place

-- what passes after it is that item, or passed before
pub list_any_set : {E : Type 0} (p : E → Bool) (x : E) (es : List E) (at : ℕ) → list_any p (set es at x) ≡ true → (p x || list_any p es) ≡ true
list_any_set p x [] at h = grind (arith, nat_tests)
list_any_set p x (e ∷ es) zero h = grind (arith, nat_tests)
list_any_set p x (e ∷ es) (suc at) h = grind (arith, nat_tests, list_any_set p x es at)

-- where none passes, none does after it
list_none_set : {E : Type 0} (p : E → Bool) (x : E) (es : List E) (at : ℕ) → p x ≡ false → list_any p es ≡ false → list_any p (set es at x) ≡ false
list_none_set p x es at f h = grind (arith, nat_tests, list_any_set p x es at)

-- where all pass, so do all after it
pub list_all_set : {E : Type 0} (p : E → Bool) (x : E) (es : List E) (at : ℕ) → p x ≡ true → list_all p es ≡ true → list_all p (set es at x) ≡ true
list_all_set p x [] at t h = h
list_all_set p x (e ∷ es) zero t h = grind (arith, nat_tests)
list_all_set p x (e ∷ es) (suc at) t h = grind (arith, nat_tests, list_all_set p x es at)

-- an item taken away at a place

-- what passes after it passed before
pub list_any_removed : {E : Type 0} (p : E → Bool) (es : List E) (at : ℕ) → list_any p (remove es at) ≡ true → list_any p es ≡ true
list_any_removed p [] zero h = h
list_any_removed p [] (suc at) h = h
list_any_removed p (e ∷ es) zero h = grind (arith, nat_tests)
list_any_removed p (e ∷ es) (suc at) h = grind (arith, nat_tests, list_any_removed p es at)

-- where all pass, so do all after it
pub list_all_removed : {E : Type 0} (p : E → Bool) (es : List E) (at : ℕ) → list_all p es ≡ true → list_all p (remove es at) ≡ true
list_all_removed p [] zero h = h
list_all_removed p [] (suc at) h = h
list_all_removed p (e ∷ es) zero h = grind (arith, nat_tests)
list_all_removed p (e ∷ es) (suc at) h = grind (arith, nat_tests, list_all_removed p es at)

-- values that differ

-- they do so with another at the end
pub differ_pushed : (v : Value) (vs : List Value) → differ vs ≡ true → list_any (same_value v) vs ≡ false → differ (vs ++ v ∷ []) ≡ true
differ_pushed v [] h f = refl
differ_pushed v (x ∷ vs) h f = grind (arith, nat_tests, same_value_sym x v, list_any-append (same_value x) vs (v ∷ []), differ_pushed v vs)

-- they do so with one set at a place, where it stands at no other
pub differ_set : (v : Value) (vs : List Value) (at : ℕ) → differ vs ≡ true → list_any (same_value v) (remove vs at) ≡ false → differ (set vs at v) ≡ true
differ_set v [] at h f = h
differ_set v (x ∷ vs) zero h f = grind (arith, nat_tests)
differ_set v (x ∷ vs) (suc at) h f =
    let two = and_parts (not (list_any (same_value x) vs)) (differ vs) h in
    let off = or_parts (same_value v x) (list_any (same_value v) (remove vs at)) f in
    let other : list_any (same_value x) (set vs at v) ≡ false = list_none_set (same_value x) v vs at (same_value_sym x v ∙ off.0) (not-true (list_any (same_value x) vs) two.0) in
    and_from (not (list_any (same_value x) (set vs at v))) (differ (set vs at v)) (ap not other) (differ_set v vs at two.1 off.1)

-- they do so with one taken away
pub differ_removed : (vs : List Value) (at : ℕ) → differ vs ≡ true → differ (remove vs at) ≡ true
differ_removed [] zero h = h
differ_removed [] (suc at) h = h
differ_removed (x ∷ vs) zero h = grind (arith, nat_tests)
differ_removed (x ∷ vs) (suc at) h = grind (arith, nat_tests, list_any_removed (same_value x) vs at, differ_removed vs at)

-- the values of filtered items differ where those of the items do
pub differ_kept : {X : Type 0} (f : X → Value) (q : X → Bool) (xs : List X) → differ (map f xs) ≡ true → differ (map f (filter q xs)) ≡ true
differ_kept f q [] h = h
differ_kept f q (x ∷ xs) h = grind (arith, nat_tests, list_any-map (same_value (f x)) f xs, list_any-map (same_value (f x)) f (filter q xs), list_any_filtered (λ y. same_value (f x) (f y)) q xs, differ_kept f q xs)
