-- Sorted sets of numbers, as lists that rise.
use Rattle.std.proofs.Common.{◌≡◌, ℕ, suc, List, [], ◌∷◌, nat_cmp, refl, arith}
use Rattle.std.specs.BTreeMap.{is_at}
use Rattle.std.specs.BTreeSet.{insert_key}
use Rattle.std.specs.Set.{remove_key}
use Rattle.std.proofs.lemmas.Bool.Decides.{nat_tests}
use Rattle.lists.specs.Rising.{RisesFrom, put, remove}
use Rattle.lists.proofs.RisingLaws.{find_below, remove_missing}

-- a number goes into a set at its place
pub put_number : (ns : List ℕ) (n : ℕ) → insert_key nat_cmp ns n ≡ put (λ m. m) n ns
put_number [] n = refl
put_number (m ∷ ns) n = grind (arith, nat_tests, put_number ns n)

-- a number is taken out of a set
pub remove_number : (low : ℕ) (ns : List ℕ) (n : ℕ) → RisesFrom (λ m. m) low ns → remove_key (is_at (nat_cmp n)) ns ≡ remove (λ m. m) n ns
remove_number low [] n r = refl
remove_number low (m ∷ ns) n r = grind (arith, nat_tests, remove_number (suc m) ns n r.1, find_below (λ (k : ℕ). k) (suc m) ns n r.1, remove_missing (λ (k : ℕ). k) n ns)
