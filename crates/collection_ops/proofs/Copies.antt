-- A list that is copied item by item.
use Rattle.std.proofs.Common.{◌≡◌, ℕ, ◌-◌, zero, suc, ◌<◌, List, [], ◌∷◌, ◌++◌, length, take, Some, None, refl, sym, ap, ◌∙◌, arith}
use Rattle.std.specs.List.{slice_get}
use Rattle.std.proofs.lemmas.Option.{slice_get_within}

-- one more item
take_next : {E : Type 0} (es : List E) (at : ℕ) (x : E) → slice_get es at ≡ Some x → take at es ++ x ∷ [] ≡ take (suc at) es
take_next [] at x h = cc
take_next (e ∷ es) zero x h = cc
take_next (e ∷ es) (suc at) x h = ap (λ l. e ∷ l) (take_next es at x h)

-- its length
length_next : {E : Type 0} (xs : List E) (x : E) → length (xs ++ x ∷ []) ≡ suc (length xs)
length_next [] x = refl
length_next (e ∷ xs) x = ap suc (length_next xs x)

-- what was copied is what stands first
pub copied_more : {E : Type 0} (es out : List E) (x : E) → out ≡ take (length out) es → slice_get es (length out) ≡ Some x → out ++ x ∷ [] ≡ take (length (out ++ x ∷ [])) es
copied_more es out x h at = ap (λ l. l ++ x ∷ []) h ∙ take_next es (length out) x at ∙ ap (λ n. take n es) (sym (length_next out x))

-- fewer are left
pub fewer_left : {E : Type 0} (es out : List E) (x : E) → slice_get es (length out) ≡ Some x → length es - length (out ++ x ∷ []) < length es - length out
fewer_left es out x at = omega (arith, slice_get_within es (length out) x at, length_next out x)

-- nothing stands behind a place where nothing is
take_past : {E : Type 0} (es : List E) (at : ℕ) → slice_get es at ≡ None → take at es ≡ es
take_past [] zero h = refl
take_past [] (suc at) h = refl
take_past (e ∷ es) zero h = cc
take_past (e ∷ es) (suc at) h = ap (λ l. e ∷ l) (take_past es at h)

-- it is all where nothing is left
pub copied_all : {E : Type 0} (es out : List E) → out ≡ take (length out) es → slice_get es (length out) ≡ None → out ≡ es
copied_all es out h at = h ∙ take_past es (length out) at
