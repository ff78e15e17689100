-- Trees of items under their own numbers: looking up, putting in and taking out are those of rising lists.
use Rattle.std.proofs.Common.{◌≡◌, ℕ, suc, ◌≤◌, Bool, ◌==◌, List, [], ◌∷◌, ◌++◌, length, Option, Some, None, is_some, option_copied, Bor, refl, sym, ap, subst, ◌∙◌, arith}
use Rattle.std.specs.Ordering.{nat_cmp}
use Rattle.std.specs.BTreeMap.{insert_entry, is_at}
use Rattle.std.specs.Map.{lookup, remove_entry, values_of}
use Rattle.std.proofs.lemmas.Bool.Decides.{nat_tests}
use Rattle.lists.specs.Rising.{RisesFrom, IsAbove, find, put, remove}
use Rattle.std.specs.List.{list_any}
use Rattle.lists.proofs.RisingLaws.{find_below, remove_missing, RisesFrom-lower}
use Rattle.lists.proofs.Places.{above_prefix}
use Rattle.trees.specs.Trees.{entry_values, IsKeyed}

module _ {X : Type 0} (key : X → ℕ) where
  pub find_entry : (k : ℕ) (es : List (ℕ × X)) → IsKeyed key es → lookup (is_at (nat_cmp k)) es ≡ find key k (entry_values es)
  find_entry k [] h = refl
  find_entry k (e ∷ es) h = grind (arith, nat_tests, h.0, find_entry k es h.1)

  pub values-insert : (x : X) (es : List (ℕ × X)) → IsKeyed key es → entry_values (insert_entry nat_cmp es (key x) x) ≡ put key x (entry_values es)
  values-insert x [] h = refl
  values-insert x (e ∷ es) h = grind (arith, nat_tests, h.0, values-insert x es h.1)

  pub IsKeyed-insert : (x : X) (es : List (ℕ × X)) → IsKeyed key es → IsKeyed key (insert_entry nat_cmp es (key x) x)
  IsKeyed-insert x [] h = (refl, tt)
  IsKeyed-insert x (e ∷ es) h = grind (arith, nat_tests, h.0, h.1, IsKeyed-insert x es h.1)

  pub values-remove : (k low : ℕ) (es : List (ℕ × X)) → IsKeyed key es → RisesFrom key low (entry_values es) →
      entry_values (remove_entry (is_at (nat_cmp k)) es) ≡ remove key k (entry_values es)
  values-remove k low [] h r = refl
  values-remove k low (e ∷ es) h r =
      let below = find_below key (suc (key e.1)) (entry_values es) k r.1 in
      grind (arith, nat_tests, h.0, values-remove k (suc (key e.1)) es h.1 r.1, remove_missing key k (entry_values es), below)

  pub IsKeyed-remove : (k : ℕ) (es : List (ℕ × X)) → IsKeyed key es → IsKeyed key (remove_entry (is_at (nat_cmp k)) es)
  IsKeyed-remove k [] h = tt
  IsKeyed-remove k (e ∷ es) h = grind (arith, nat_tests, h.0, h.1, IsKeyed-remove k es h.1)

  pub put_before : (low : ℕ) (xs : List X) (x : X) (ys : List X) → RisesFrom key low (xs ++ x ∷ ys) → put key x ys ≡ x ∷ ys
  put_before low [] x [] r = refl
  put_before low [] x (y ∷ ys) r = grind (arith, nat_tests, r.1.0)
  put_before low (z ∷ xs) x ys r = put_before (suc (key z)) xs x ys r.1

-- as many items as entries
pub length-values : {X : Type 0} (es : List (ℕ × X)) → length (entry_values es) ≡ length es
length-values [] = refl
length-values (e ∷ es) = ap suc (length-values es)

pub values_same : {X : Type 0} (es : List (ℕ × X)) → values_of es ≡ entry_values es
values_same [] = refl
values_same (e ∷ es) = ap (λ xs. e.1 ∷ xs) (values_same es)

shifted : {X : Type 0} (xs : List X) (x : X) (ys : List X) → (xs ++ x ∷ []) ++ ys ≡ xs ++ x ∷ ys
shifted [] x ys = refl
shifted (z ∷ xs) x ys = ap (λ l. z ∷ l) (shifted xs x ys)

-- the last of what is left goes before what was moved
pub moved : {X : Type 0} (key : X → ℕ) (all left rest : List X) (x : X) (done : List X) → RisesFrom key 0 all → all ≡ left ++ done → left ≡ rest ++ x ∷ [] →
    all ≡ rest ++ put key x done
moved key all left rest x done r h p =
    let whole : all ≡ rest ++ x ∷ done = h ∙ ap (λ l. l ++ done) p ∙ shifted rest x done in
    rw (put_before key 0 rest x done (rw whole at r)) whole

-- what is left without the first entry
pub first_out : {X : Type 0} (key : X → ℕ) (es : List (ℕ × X)) (p : ℕ × X) (rest : List (ℕ × X)) → es ≡ p ∷ rest → IsKeyed key es →
    RisesFrom key 0 (entry_values es) → IsKeyed key rest × RisesFrom key 0 (entry_values rest)
first_out key es p rest is keyed rises =
    let k : IsKeyed key (p ∷ rest) = subst (IsKeyed key) is keyed in
    let r : RisesFrom key 0 (entry_values (p ∷ rest)) = subst (λ l. RisesFrom key 0 (entry_values l)) is rises in
    (k.1, RisesFrom-lower key 0 (suc (key p.1)) (entry_values rest) r.1 (omega arith))

-- the first of what is left is above what was moved
pub next_above : {X : Type 0} (key : X → ℕ) (all out left : List X) (x : X) (rest : List X) → RisesFrom key 0 all → all ≡ out ++ left →
    left ≡ x ∷ rest → IsAbove key (key x) out
next_above key all out left x rest r h p =
    let whole : all ≡ out ++ x ∷ rest = h ∙ ap (λ l. out ++ l) p in
    above_prefix key 0 out x rest (rw whole at r)

-- an item has a number where one is found under it
pub any_found : {X : Type 0} (key : X → ℕ) (k : ℕ) (es : List X) → list_any (λ e. key e == k) es ≡ is_some (find key k es)
any_found key k [] = refl
any_found key k (e ∷ es) = grind (arith, nat_tests, any_found key k es)

-- looking up tells whether an item has a number
pub found_some : {X : Type 0} (key : X → ℕ) (k : ℕ) (es : List X) (r : Option (Bor X)) (b : Bool) → b ≡ is_some r → option_copied r ≡ find key k es →
    b ≡ list_any (λ e. key e == k) es
found_some key k es None b h f = h ∙ ap is_some f ∙ sym (any_found key k es)
found_some key k es (Some x) b h f = h ∙ ap is_some f ∙ sym (any_found key k es)
