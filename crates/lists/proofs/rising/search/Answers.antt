use Rattle.std.proofs.Common.{◌≡◌, ℕ, ◌<◌, ◌≤◌, suc, List, length, get_or, take, drop, Result, Ok, Err, IfOk, IfErr, HoldsAt, nat_cmp, rules}
use Rattle.std.specs.List.Sorted.{IsBinarySearchResult, IsSearchInRange}
use Rattle.std.proofs.lemmas.List.Sorted.{answers_always}
use Rattle.lists.specs.Rising.{IsAbove, RisesFrom}
use Rattle.lists.proofs.Places.{compares_in_order, is_equal, IsAbove-before, RisesFrom-after}
use Rattle.lists.proofs.rising.search.Goals as goal

found : {E : Type 0} (key : E → ℕ) (k : ℕ) (es : List E) (r : Result ℕ ℕ) → IsSearchInRange r (length es) → IsBinarySearchResult (λ y. nat_cmp (key y) k) es r → IfOk r (λ at. (at < length es) × HoldsAt (λ e. key e ≡ k) es at)
found key k es (Ok at) b p = (b, λ d. is_equal (key (get_or es at d)) k (p d))
found key k es (Err at) b p = tt

missing : {E : Type 0} (key : E → ℕ) (k : ℕ) (es : List E) (r : Result ℕ ℕ) → RisesFrom key 0 es → IsSearchInRange r (length es) → IsBinarySearchResult (λ y. nat_cmp (key y) k) es r
    → IfErr r (λ at. (at ≤ length es) × IsAbove key k (take at es) × RisesFrom key (suc k) (drop at es))
missing key k es (Ok at) s b p = tt
missing key k es (Err at) s b p =
    let parts = p (compares_in_order key 0 k es s) in
    (b, IsAbove-before key k es at b parts.0, RisesFrom-after key 0 k es at s parts.1)

pub returns-clause-found : goal.returns-clause-found
returns-clause-found g c = found g.T.Keyed.key c.args.key c.args.items.now _ c.binary_search_by_key.ensures.bound
    (c.binary_search_by_key.ensures.position g.T.Keyed.key (answers_always _ (λ a r. r ≡ g.T.Keyed.key a.0.now) _ (λ f a r f' q. search rules)))

pub returns-clause-missing : goal.returns-clause-missing
returns-clause-missing g c = missing g.T.Keyed.key c.args.key c.args.items.now _ c.requires c.binary_search_by_key.ensures.bound
    (c.binary_search_by_key.ensures.position g.T.Keyed.key (answers_always _ (λ a r. r ≡ g.T.Keyed.key a.0.now) _ (λ f a r f' q. search rules)))
