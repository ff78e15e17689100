-- Rows that are each held: none of them is freed.
use Rattle.std.proofs.Common.{◌≡◌, ℕ, zero, suc, ◌<◌, Bool, true, ◌||◌, ◌==◌, List, [], ◌∷◌, length, filter, get_or, refl, ap, arith}
use Rattle.std.specs.List.{list_all}
use Rattle.std.proofs.lemmas.Bool.Decides.{nat_tests}
use Rattle.std.proofs.lemmas.List.Sorted.{list_any-IsPermutation}
use Rattle.std.specs.List.Sorted.{IsPermutation}
use Rattle.state_model.specs.declared.row.RowEntry.{RowEntry}
use Rattle.state_model.specs.Reached.{is_among, all_held, freed}
use Rattle.state_laws.proofs.FreedParts.{rounds_still}
use Rattle.std.proofs.lemmas.Bool.{and_parts}

-- a number that stands somewhere is among them
pub among_at : (k : ℕ) (ns : List ℕ) (at : ℕ) (d : ℕ) → at < length ns → get_or ns at d ≡ k → is_among k ns ≡ true
among_at k [] at d l e = absurd (omega arith)
among_at k (n ∷ ns) zero d l e = grind (arith, nat_tests)
among_at k (n ∷ ns) (suc at) d l e = grind (arith, nat_tests, among_at k ns at d (omega arith) e)

-- a row is 0's, or is held by one of these numbers
abbrev pub is_held_by : List ℕ → RowEntry → Bool
is_held_by ns e = (e.who == 0) || is_among e.who ns

-- where each is, in whatever order the numbers stand, each stays
all_stay : (rows : List RowEntry) (ns : List ℕ) → IsPermutation (all_held rows) ns → (es : List RowEntry) → list_all (is_held_by ns) es ≡ true → filter (is_held_by (all_held rows)) es ≡ es
all_stay rows ns same [] h = refl
all_stay rows ns same (e ∷ es) h =
    let held : is_among e.who (all_held rows) ≡ is_among e.who ns = list_any-IsPermutation (λ m. m == e.who) (all_held rows) ns same in
    let two = and_parts (is_held_by ns e) (list_all (is_held_by ns) es) h in
    let stays : is_held_by (all_held rows) e ≡ true = rw held two.0 in
    let rest = all_stay rows ns same es two.1 in
    rw stays (ap (λ xs. e ∷ xs) rest)

-- so none is freed
pub freed_held_rows : (rows : List RowEntry) (ns : List ℕ) → IsPermutation (all_held rows) ns → list_all (is_held_by ns) rows ≡ true → freed rows ≡ rows
freed_held_rows rows ns same h = rounds_still (length rows) rows (all_stay rows ns same rows h)
