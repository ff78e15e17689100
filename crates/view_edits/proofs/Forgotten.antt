-- The pairs of the rows that a sweep freed, taken out row by row.
use Rattle.std.proofs.Common.{◌≡◌, ℕ, Bool, true, not, ◌&&◌, ◌==◌, List, [], ◌∷◌, ◌++◌, filter, refl, sym, ap, ◌∙◌, arith}
use Rattle.std.specs.List.{list_all}
use Rattle.std.proofs.lemmas.Bool.{and_parts}
use Rattle.std.proofs.lemmas.Bool.Decides.{nat_tests}
use Rattle.std.proofs.lemmas.List.Elements.{filter_agree}
use Rattle.lists.proofs.Passing.{filter_all, list_any-map}
use Rattle.schema_model.specs.declared.place.Pair.{Pair}
use Rattle.state_model.specs.declared.row.RowEntry.{RowEntry}
use Rattle.state_model.specs.Members.{Members, live_members}
use Rattle.state_model.specs.Reached.{is_among, freed}
use Rattle.state_model.specs.Rows.{is_live}
use Rattle.state_laws.proofs.Numbers.{among_both, live_chosen}
use Rattle.instance_table.specs.Table.{TableState, freed_numbers}
use Rattle.live_state.specs.Live.{swept_table}
use Rattle.view_members.specs.Sets.{without_row}
use Rattle.view_edits.specs.There.{are_there, without_rows}

-- ---- lists

-- two filters are one by both tests
filter_again : {X : Type 0} (p q : X → Bool) (xs : List X) → filter q (filter p xs) ≡ filter (λ x. p x && q x) xs
filter_again p q [] = refl
filter_again p q (x ∷ xs) = grind (arith, nat_tests, filter_again p q xs)

-- two tests that agree on items that pass a third keep the same of them
filter_alike : {X : Type 0} (r p q : X → Bool) (xs : List X) → ((x : X) → r x ≡ true → p x ≡ q x) → list_all r xs ≡ true → filter p xs ≡ filter q xs
filter_alike r p q [] agree h = refl
filter_alike r p q (x ∷ xs) agree h =
    let here = and_parts (r x) (list_all r xs) h in
    grind (arith, nat_tests, agree x here.0, filter_alike r p q xs agree here.1)

-- ---- row by row

-- none so far
pub none_without : (m : Members) → without_rows [] m ≡ m
none_without m = ap (λ (ps : List Pair). let n : Members = record { now = ps; last = m.last; kept = m.kept } in n) (filter_all m.now)

-- one row more
pub one_without : (ns : List ℕ) (who : ℕ) (m : Members) → without_row who (without_rows ns m) ≡ without_rows (ns ++ who ∷ []) m
one_without ns who m =
    let was = λ (p : Pair). not (is_among p.who ns) in
    let one = λ (p : Pair). not (p.who == who) in
    let both : (p : Pair) → (was p && one p) ≡ not (is_among p.who (ns ++ who ∷ [])) = λ p. grind (arith, nat_tests, among_both ns (who ∷ []) p.who) in
    ap (λ (ps : List Pair). let n : Members = record { now = ps; last = m.last; kept = m.kept } in n)
    (filter_again was one m.now ∙ filter_agree (λ p. was p && one p) (λ (p : Pair). not (is_among p.who (ns ++ who ∷ []))) both m.now)

-- a number is among those that a sweep frees exactly where its row was there and isn't left
among_freed : (rows : List RowEntry) (n : ℕ) → is_among n (freed_numbers rows) ≡ (not (is_live (freed rows) n) && is_live rows n)
among_freed rows n =
    let gone = λ (k : ℕ). not (is_live (freed rows) k) in
    list_any-map (λ m. m == n) (λ (e : RowEntry). e.who) (filter (λ (e : RowEntry). gone e.who) rows) ∙ live_chosen gone rows n

-- all rows that a sweep freed
pub all_without : (rows : List RowEntry) (m : Members) → are_there rows m.now ≡ true → without_rows (freed_numbers rows) m ≡ live_members (freed rows) m
all_without rows m h =
    let there = λ (p : Pair). is_live rows p.who in
    let was = λ (p : Pair). not (is_among p.who (freed_numbers rows)) in
    let left = λ (p : Pair). is_live (freed rows) p.who in
    let agree : (p : Pair) → there p ≡ true → was p ≡ left p = λ p t. grind (arith, nat_tests, among_freed rows p.who, t) in
    ap (λ (ps : List Pair). let n : Members = record { now = ps; last = m.last; kept = m.kept } in n) (filter_alike there was left m.now agree h)

-- all that the last sweep tells
pub swept_without : (old table : TableState) (ns : List ℕ) (m : Members) → table ≡ swept_table old → ns ≡ table.swept → are_there old.state.rows m.now ≡ true → without_rows ns m ≡ live_members table.state.rows m
swept_without old table ns m is told h =
    let numbers : ns ≡ freed_numbers old.state.rows = told ∙ ap (λ (t : TableState). t.swept) is in
    let rows : table.state.rows ≡ freed old.state.rows = ap (λ (t : TableState). t.state.rows) is in
    ap (λ (k : List ℕ). without_rows k m) numbers ∙ all_without old.state.rows m h ∙ ap (λ (rs : List RowEntry). live_members rs m) (sym rows)
