-- Names that differ, with one name more.
use Rattle.std.proofs.Common.{◌≡◌, ℕ, true, false, not, ◌||◌, List, [], ◌∷◌, ◌++◌, refl, sym, ap, ◌∙◌, bytes_eq}
use Rattle.std.specs.List.{list_any}
use Rattle.std.proofs.lemmas.List.Folds.{list_any-append}
use Rattle.std.proofs.lemmas.Bool.{and_parts, and_from, or_parts, or_from, not-true}
use Rattle.lists.proofs.SameBytes.{bytes_eq_sym}
use Rattle.state_model.specs.Sound.{keys_differ}

pub keys_push : (ks : List (List ℕ)) (k : List ℕ) → keys_differ ks ≡ true → not (list_any (bytes_eq k) ks) ≡ true → keys_differ (ks ++ k ∷ []) ≡ true
keys_push [] k d n = refl
keys_push (x ∷ ks) k d n =
    let parts = and_parts (not (list_any (bytes_eq x) ks)) (keys_differ ks) d in
    let apart = or_parts (bytes_eq k x) (list_any (bytes_eq k) ks) (not-true _ n) in
    let alone : list_any (bytes_eq x) (ks ++ k ∷ []) ≡ false =
    list_any-append (bytes_eq x) ks (k ∷ [])
    ∙ or_from (list_any (bytes_eq x) ks) (bytes_eq x k || false) (not-true _ parts.0) (or_from (bytes_eq x k) false (bytes_eq_sym x k ∙ apart.0) refl) in
    and_from (not (list_any (bytes_eq x) (ks ++ k ∷ []))) (keys_differ (ks ++ k ∷ [])) (ap not alone) (keys_push ks k parts.1 (ap not apart.1))

-- a name that stands behind others differs from them
pub keys_apart : (ks : List (List ℕ)) (k : List ℕ) (more : List (List ℕ)) → keys_differ (ks ++ k ∷ more) ≡ true → not (list_any (bytes_eq k) ks) ≡ true
keys_apart [] k more d = refl
keys_apart (x ∷ ks) k more d =
    let parts = and_parts (not (list_any (bytes_eq x) (ks ++ k ∷ more))) (keys_differ (ks ++ k ∷ more)) d in
    let none = sym (list_any-append (bytes_eq x) ks (k ∷ more)) ∙ not-true _ parts.0 in
    let behind = or_parts (list_any (bytes_eq x) ks) (bytes_eq x k || list_any (bytes_eq x) more) none in
    let here = or_parts (bytes_eq x k) (list_any (bytes_eq x) more) behind.1 in
    ap not (or_from (bytes_eq k x) (list_any (bytes_eq k) ks) (bytes_eq_sym k x ∙ here.0) (not-true _ (keys_apart ks k more parts.1)))
