-- Lists that rise by a number of their items: look up, put in, take out.
use Rattle.std.specs.Prelude.{ℕ, suc, ◌≤◌, ◌<◌, cond, not, List, [], ◌∷◌, Option, Some, None, filter, map, nat_lt, ◌==◌}

-- the items rise strictly by their keys, and the first isn't below this number
abbrev pub RisesFrom : {E : Type 0} → (E → ℕ) → ℕ → List E → Type 0
RisesFrom key low [] = Unit {0}
RisesFrom key low (e ∷ es) = (low ≤ key e) × RisesFrom key (suc (key e)) es

-- each key is below this number
abbrev pub IsAbove : {E : Type 0} → (E → ℕ) → ℕ → List E → Type 0
IsAbove key k [] = Unit {0}
IsAbove key k (e ∷ es) = (key e < k) × IsAbove key k es

-- the item with this key
abbrev pub find : {E : Type 0} → (E → ℕ) → ℕ → List E → Option E
find key k [] = None
find key k (e ∷ es) = cond (key e == k) (Some e) (find key k es)

-- the list with this item, in place of the one with its key where there is one
abbrev pub put : {E : Type 0} → (E → ℕ) → E → List E → List E
put key x [] = x ∷ []
put key x (e ∷ es) = cond (nat_lt (key x) (key e)) (x ∷ e ∷ es) (cond (key e == key x) (x ∷ es) (e ∷ put key x es))

-- the list without the item of this key
abbrev pub remove : {E : Type 0} → (E → ℕ) → ℕ → List E → List E
remove key k es = filter (λ e. not (key e == k)) es

-- the items behind a key, or all
abbrev pub after_key : {E : Type 0} → (E → ℕ) → Option ℕ → List E → List E
after_key key None es = es
after_key key (Some k) es = filter (λ e. nat_lt k (key e)) es

-- the keys of the items
abbrev pub keys : {E : Type 0} → (E → ℕ) → List E → List ℕ
keys key es = map key es
