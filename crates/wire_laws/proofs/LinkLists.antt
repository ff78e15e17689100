-- Lists of values that differ: which values stand in them, and what a filter leaves.
use Rattle.std.proofs.Common.{◌≡◌, Bool, true, false, not, ◌&&◌, List, [], ◌∷◌, ◌++◌, filter, refl, sym, ap, arith}
use Rattle.std.specs.List.{list_any}
use Rattle.std.proofs.lemmas.List.Folds.{list_any-append}
use Rattle.std.proofs.lemmas.Bool.Decides.{nat_tests}
use Rattle.std.proofs.lemmas.Map.Views.{any-filter_same}
use Rattle.schema_model.specs.declared.value.Value.{Value}
use Rattle.state_model.specs.Values.{same_value}
use Rattle.state_model.specs.Sound.{differ}
use Rattle.wire_model.specs.Patch.{stands_in, kept_of, gone_of}
use Rattle.state_laws.proofs.SameValues.{same_is, same_self, same_value_sym}

-- ---- filters

module _ {A : Type 0} where
  -- a filter of a filter
  pub filter-filter : (p q r : A → Bool) → ((a : A) → r a ≡ (q a && p a)) → (xs : List A) → filter p (filter q xs) ≡ filter r xs
  filter-filter p q r h [] = refl
  filter-filter p q r h (x ∷ xs) = grind (arith, nat_tests, h x, filter-filter p q r h xs)

  -- a filter keeps all where nothing passes the opposite test
  pub filter_keeps : (p : A → Bool) (xs : List A) → list_any p xs ≡ false → filter (λ a. not (p a)) xs ≡ xs
  filter_keeps p [] h = refl
  filter_keeps p (x ∷ xs) h = grind (arith, nat_tests, filter_keeps p xs)

  -- a filter that all passes keeps all
  pub filter_all : (xs : List A) → filter (λ a. true) xs ≡ xs
  filter_all [] = refl
  filter_all (x ∷ xs) = ap (λ ys. x ∷ ys) (filter_all xs)

  -- what nothing passes, nothing that a filter leaves passes
  list_any-filter_none : (p q : A → Bool) (xs : List A) → list_any q xs ≡ false → list_any q (filter p xs) ≡ false
  list_any-filter_none p q [] h = refl
  list_any-filter_none p q (x ∷ xs) h = grind (arith, nat_tests, list_any-filter_none p q xs)

-- ---- values that stand in a list

-- two filters whose tests agree on the values that stand in the list leave the same
filter_alike : (p q : Value → Bool) (xs : List Value) → ((v : Value) → stands_in xs v ≡ true → p v ≡ q v) → filter p xs ≡ filter q xs
filter_alike p q [] h = refl
filter_alike p q (x ∷ xs) h =
    let here : p x ≡ q x = h x (rw (same_self x) refl) in
    let rest : filter p xs ≡ filter q xs = filter_alike p q xs (λ v s. h v (grind (arith, nat_tests))) in
    rw (here, rest) refl

-- a value stands in what a filter leaves, where it stands in the list and passes
stands_in-filter : (p : Value → Bool) (xs : List Value) (v : Value) → stands_in (filter p xs) v ≡ (p v && stands_in xs v)
stands_in-filter p xs v = any-filter_same (same_value v) p (p v) (λ x t. ap p (sym (same_is v x t))) xs

-- without those that the others lack, the ones that both have are left
pub without_gone : (new old : List Value) → filter (λ v. not (stands_in (gone_of new old) v)) old ≡ kept_of new old
without_gone new old = filter_alike (λ v. not (stands_in (gone_of new old) v)) (stands_in new) old (λ v s. let e = stands_in-filter (λ w. not (stands_in new w)) old v in grind (arith, nat_tests))

-- ---- values that differ

-- in a list of values that differ a later one doesn't stand among the ones before it
pub differ_apart : (xs : List Value) (v : Value) (vs : List Value) → differ (xs ++ v ∷ vs) ≡ true → stands_in xs v ≡ false
differ_apart [] v vs h = refl
differ_apart (x ∷ xs) v vs h = grind (arith, nat_tests, differ_apart xs v vs, list_any-append (same_value x) xs (v ∷ vs), same_value_sym v x)
