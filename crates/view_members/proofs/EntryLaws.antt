-- The entries of a tree as a rising list: looking up, writing, putting in and taking out.
use Rattle.std.proofs.Common.{◌≡◌, ℕ, suc, ◌^◌, ◌<◌, false, not, ◌&&◌, List, [], ◌∷◌, filter, None, IsSome, refl, sym, ap, ◌∙◌, arith}
use Rattle.std.specs.Ordering.{nat_cmp, is_le}
use Rattle.std.specs.List.{slice_get}
use Rattle.std.specs.Option.{option_map}
use Rattle.std.specs.BTreeMap.{insert_entry, is_at}
use Rattle.std.specs.Map.{lookup, remove_entry, set_value}
use Rattle.std.proofs.lemmas.Bool.Decides.{nat_tests}
use Rattle.lists.specs.Rising.{RisesFrom, IsAbove, put, remove}
use Rattle.lists.proofs.RisingLaws.{find_below, remove_missing, RisesFrom-put, RisesFrom-remove, IsAbove-put, IsAbove-filter}
use Rattle.view_members.specs.declared.standing.Standing.{Standing}
use Rattle.view_members.specs.Standings.{entry_rank, IsKept, standing_of, first_from}

-- looking up
pub lookup_standing : (k : ℕ) (es : List (ℕ × Standing)) → lookup (is_at (nat_cmp k)) es ≡ standing_of k es
lookup_standing k [] = refl
lookup_standing k (e ∷ es) = grind (arith, nat_tests, lookup_standing k es)

-- putting in
pub insert_put : (k : ℕ) (s : Standing) (es : List (ℕ × Standing)) → insert_entry nat_cmp es k s ≡ put entry_rank (k, s) es
insert_put k s [] = refl
insert_put k s (e ∷ es) = grind (arith, nat_tests, insert_put k s es)

-- writing over
pub write_put : (k low : ℕ) (s : Standing) (es : List (ℕ × Standing)) → RisesFrom entry_rank low es → IsSome (standing_of k es) → set_value (is_at (nat_cmp k)) es s ≡ put entry_rank (k, s) es
write_put k low s [] r h = cc
write_put k low s (e ∷ es) r h = grind (arith, nat_tests, write_put k (suc e.0) s es r.1, find_below entry_rank (suc e.0) es k r.1)

-- taking out
pub removed : (k low : ℕ) (es : List (ℕ × Standing)) → RisesFrom entry_rank low es → remove_entry (is_at (nat_cmp k)) es ≡ remove entry_rank k es
removed k low [] r = refl
removed k low (e ∷ es) r = grind (arith, nat_tests, removed k (suc e.0) es r.1, remove_missing entry_rank k es, find_below entry_rank (suc e.0) es k r.1)

-- writing where nothing is
pub write_nothing : (k : ℕ) (s : Standing) (es : List (ℕ × Standing)) → lookup (is_at (nat_cmp k)) es ≡ None → set_value (is_at (nat_cmp k)) es s ≡ es
write_nothing k s [] h = refl
write_nothing k s (e ∷ es) h = grind (arith, nat_tests, write_nothing k s es)

-- the first of those that aren't below
first_between : (k : ℕ) (es : List (ℕ × Standing)) → first_from k es ≡ option_map entry_rank (slice_get (filter (λ (e : ℕ × Standing). is_le (nat_cmp k e.0) && not false) es) 0)
first_between k [] = refl
first_between k (e ∷ es) = grind (arith, nat_tests, first_between k es)

pub first_is : (k : ℕ) (es range : List (ℕ × Standing)) → range ≡ filter (λ (e : ℕ × Standing). is_le (nat_cmp k e.0) && not false) es → first_from k es ≡ option_map entry_rank (slice_get range 0)
first_is k es range h = first_between k es ∙ ap (λ l. option_map entry_rank (slice_get l 0)) (sym h)

-- an entry is found below the bound
pub found_below : (high k : ℕ) (es : List (ℕ × Standing)) → IsAbove entry_rank high es → IsSome (standing_of k es) → k < high
found_below high k [] a h = cc
found_below high k (e ∷ es) a h = grind (arith, nat_tests, found_below high k es a.1)

-- entries after an edit
pub kept-put : (k : ℕ) (s : Standing) (es : List (ℕ × Standing)) → k < 2 ^ 48 → IsKept es → IsKept (put entry_rank (k, s) es)
kept-put k s es l kept = (RisesFrom-put entry_rank 0 (k, s) es kept.0 (omega arith), IsAbove-put entry_rank (2 ^ 48) (k, s) es kept.1 l)

pub kept-remove : (k : ℕ) (es : List (ℕ × Standing)) → IsKept es → IsKept (remove entry_rank k es)
kept-remove k es kept = (RisesFrom-remove entry_rank 0 k es kept.0, IsAbove-filter entry_rank (2 ^ 48) _ es kept.1)
