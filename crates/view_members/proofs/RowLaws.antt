-- Taking all pairs of a row out, rank by rank.
use Rattle.std.proofs.Common.{◌≡◌, ℕ, suc, ◌+◌, ◌*◌, ◌/◌, ◌<◌, ◌≤◌, Bool, true, false, cond, not, ◌==◌, List, [], ◌∷◌, map, filter, Option, Some, None, refl, sym, ap, ◌∙◌, ◌⊎◌, inl, inr, arith}
use Rattle.std.specs.Option.{option_map}
use Rattle.std.proofs.lemmas.Bool.{cases_lt}
use Rattle.std.proofs.lemmas.Bool.Decides.{nat_tests}
use Rattle.lists.specs.Rising.{RisesFrom, IsAbove, find, remove}
use Rattle.lists.proofs.RisingLaws.{RisesFrom-filter, same_rising}
use Rattle.view_members.specs.declared.standing.Standing.{Standing}
use Rattle.view_members.specs.Sets.{without_row}
use Rattle.view_members.specs.Standings.{itself, entry_rank, ranks_of, pair_of_rank, members_of, first_from, is_now, is_last, is_kept, standing_of, set_at, after_leaving, remove_at}
use Rattle.view_members.proofs.StandingLaws.{leaving_now, leaving_last, leaving_kept}
use Rattle.view_members.proofs.RankLists.{has, has_none, has-put, has_below, ranks_rise, find-ranks}
use Rattle.view_members.proofs.PairLists.{row-filter}
use Rattle.view_members.proofs.MemberLaws.{filtered, found_some, remove_ranks, remove_same}

-- the first rank that isn't below
pub first_none : (t : Standing → Bool) (r : ℕ) (es : List (ℕ × Standing)) → first_from r es ≡ None → (k : ℕ) → r ≤ k → has t es k ≡ false
first_none t r [] h k l = refl
first_none t r (e ∷ es) h k l = grind (arith, nat_tests, first_none t r es)

pub first_low : (r n : ℕ) (es : List (ℕ × Standing)) → first_from r es ≡ Some n → r ≤ n
first_low r n [] h = cc
first_low r n (e ∷ es) h = grind (arith, nat_tests, first_low r n es)

pub first_below : (high r n : ℕ) (es : List (ℕ × Standing)) → IsAbove entry_rank high es → first_from r es ≡ Some n → n < high
first_below high r n [] a h = cc
first_below high r n (e ∷ es) a h = grind (arith, nat_tests, first_below high r n es a.1, a.0)

pub first_gap : (t : Standing → Bool) (r n low : ℕ) (es : List (ℕ × Standing)) → RisesFrom entry_rank low es → first_from r es ≡ Some n → (k : ℕ) → r ≤ k → k < n → has t es k ≡ false
first_gap t r n low [] rises h k l m = refl
first_gap t r n low (e ∷ es) rises h k l m = grind (arith, nat_tests, first_gap t r n (suc e.0) es rises.1, has_below t (suc e.0) es k rises.1)

filter_without : (q : ℕ → Bool) (r : ℕ) (rs : List ℕ) → q r ≡ false → filter q (remove itself r rs) ≡ filter q rs
filter_without q r [] h = refl
filter_without q r (n ∷ rs) h = grind (arith, nat_tests, filter_without q r rs h)

in_row : (who r : ℕ) → 65536 * who ≤ r → r < 65536 * who + 65536 → not (r / 65536 == who) ≡ false
in_row who r l m = let q : r / 65536 ≡ who = omega arith in grind (arith, nat_tests)

others : (who k : ℕ) (b : Bool) → (65536 * who ≤ k → k < 65536 * who + 65536 → b ≡ false) → cond b (cond (not (k / 65536 == who)) (Some k) None) None ≡ cond b (Some k) None
others who k false h = refl
others who k true h = grind (arith, nat_tests)

-- a pair of the row leaves: the rest is as before
pub row_step : (who r : ℕ) (es : List (ℕ × Standing)) → RisesFrom entry_rank 0 es → 65536 * who ≤ r → r < 65536 * who + 65536 → without_row who (members_of (remove_at r es)) ≡ without_row who (members_of es)
row_step who r es rises l m =
    let test : ℕ → Bool = λ n. not (n / 65536 == who) in
    let inside : test r ≡ false = in_row who r l m in
    let ranks : filter test (ranks_of is_now (remove_at r es)) ≡ filter test (ranks_of is_now es) = ap (filter test) (remove_ranks es r rises) ∙ filter_without test r (ranks_of is_now es) inside in
    let now = row-filter who (ranks_of is_now (remove_at r es)) ∙ (ap (map pair_of_rank) ranks ∙ sym (row-filter who (ranks_of is_now es))) in
    let last = ap (map pair_of_rank) (remove_same is_last leaving_last es r rises) in
    let kept = ap (map pair_of_rank) (remove_same is_kept leaving_kept es r rises) in
    cc

-- once no pair of the row is a member
pub row_gone : (who : ℕ) (es : List (ℕ × Standing)) → RisesFrom entry_rank 0 es → ((k : ℕ) → 65536 * who ≤ k → k < 65536 * who + 65536 → has is_now es k ≡ false) → without_row who (members_of es) ≡ members_of es
row_gone who es rises h =
    let test : ℕ → Bool = λ n. not (n / 65536 == who) in
    let same : (k : ℕ) → find itself k (filter test (ranks_of is_now es)) ≡ find itself k (ranks_of is_now es) =
    λ k. filtered test (ranks_of is_now es) k (ranks_rise is_now 0 es rises) (has is_now es k) (found_some is_now es k rises)
    ∙ (others who k (has is_now es k) (h k) ∙ sym (find-ranks is_now 0 es k rises)) in
    let ranks = same_rising itself 0 0 _ _ (RisesFrom-filter itself 0 test (ranks_of is_now es) (ranks_rise is_now 0 es rises)) (ranks_rise is_now 0 es rises) same in
    let now = row-filter who (ranks_of is_now es) ∙ ap (map pair_of_rank) ranks in
    cc

-- no pair of the row is a member: neither those behind nor those ahead
pub gone_all : (low from high : ℕ) (es : List (ℕ × Standing)) → ((k : ℕ) → low ≤ k → k < from → has is_now es k ≡ false) → ((k : ℕ) → from ≤ k → k < high → has is_now es k ≡ false) → (k : ℕ) → low ≤ k → k < high → has is_now es k ≡ false
gone_all low from high es behind ahead k l m = elim (cases_lt k from) [ inl a ↦ behind k l a | inr b ↦ ahead k b m ]

left_case : (es : List (ℕ × Standing)) (r : ℕ) (k : ℕ) → (has is_now es k ≡ false) ⊎ (k ≡ r) → (o : Option Standing) → standing_of r es ≡ o → has is_now (set_at r (option_map after_leaving o) es) k ≡ false
left_case es r k (inl a) None i = a
left_case es r k (inr b) None i = rw b (has_none is_now es r i)
left_case es r k (inl a) (Some s) i = grind (arith, nat_tests, has-put is_now r (after_leaving s) es k, leaving_now s)
left_case es r k (inr b) (Some s) i = grind (arith, nat_tests, has-put is_now r (after_leaving s) es k, leaving_now s)

-- after a pair left
pub remove_has : (es : List (ℕ × Standing)) (r : ℕ) (k : ℕ) → (has is_now es k ≡ false) ⊎ (k ≡ r) → has is_now (remove_at r es) k ≡ false
remove_has es r k h = left_case es r k h (standing_of r es) refl

-- the ranks up to one that left
pub left_behind : (low from r : ℕ) (es : List (ℕ × Standing)) → ((k : ℕ) → low ≤ k → k < from → has is_now es k ≡ false) → ((k : ℕ) → from ≤ k → k < r → has is_now es k ≡ false) → (k : ℕ) → low ≤ k → k < r + 1 → has is_now (remove_at r es) k ≡ false
left_behind low from r es behind ahead k l m =
    elim (cases_lt k r) [ inl a ↦ remove_has es r k (inl (gone_all low from r es behind ahead k l a)) | inr b ↦ remove_has es r k (inr (omega arith)) ]
