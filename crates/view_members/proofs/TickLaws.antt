-- The end of a tick: pairs that changed settle one by one, those that passed are forgotten, and then all stay.
use Rattle.std.proofs.Common.{◌≡◌, ℕ, zero, suc, ◌-◌, ◌<◌, ◌≤◌, Bool, true, false, ◌||◌, List, [], ◌∷◌, length, map, Option, Some, None, is_some, refl, sym, ap, ◌∙◌, arith}
use Rattle.std.specs.List.{slice_get}
use Rattle.std.proofs.lemmas.Bool.Decides.{nat_tests}
use Rattle.lists.specs.Rising.{RisesFrom, find, remove}
use Rattle.lists.proofs.RisingLaws.{length-remove}
use Rattle.state_model.specs.Members.{ticked}
use Rattle.view_members.specs.declared.standing.Standing.{Standing}
use Rattle.view_members.specs.declared.standing.Standing.TheVariants.{Stays, Came, Left, Passed, Spare}
use Rattle.view_members.specs.Standings.{itself, entry_rank, standing_of, ranks_of, pair_of_rank, members_of, is_now, is_last, is_kept, is_changed, is_passed, settled, settled_at}
use Rattle.view_members.proofs.StandingLaws.{last_unchanged, kept_unchanged}
use Rattle.view_members.proofs.RankLists.{has, has_some, has_none, has_agrees, has_either, has_no_ranks, ranks_rise, find-ranks, put_fails, put_same, remove_ranks, remove_same, same_ranks, length-put_same}
use Rattle.view_members.proofs.SpareLaws.{standing_found}

-- a number at a place of numbers that rise is found
at_place : (low : ℕ) (rs : List ℕ) (n r : ℕ) → RisesFrom itself low rs → slice_get rs n ≡ Some r → (low ≤ r) × (find itself r rs ≡ Some r)
at_place low [] n r rises h = cc
at_place low (x ∷ rs) zero r rises h = grind (arith, nat_tests)
at_place low (x ∷ rs) (suc n) r rises h = let rest = at_place (suc x) rs n r rises.1 h in grind (arith, nat_tests, rest.0, rest.1)

pub rank_there : (t : Standing → Bool) (es : List (ℕ × Standing)) (n r : ℕ) → RisesFrom entry_rank 0 es → slice_get (ranks_of t es) n ≡ Some r → has t es r ≡ true
rank_there t es n r rises h =
    let found = (at_place 0 (ranks_of t es) n r (ranks_rise t 0 es rises) h).1 in
    let told = find-ranks t 0 es r rises in
    grind (arith, nat_tests)

past_end : (rs : List ℕ) (n : ℕ) → slice_get rs n ≡ None → length rs ≤ n
past_end [] n h = omega arith
past_end (r ∷ rs) zero h = cc
past_end (r ∷ rs) (suc n) h = omega (arith, past_end rs n h)

pub none_there : (rs : List ℕ) → slice_get rs (length rs - 1) ≡ None → rs ≡ []
none_there [] h = refl
none_there (r ∷ rs) h = absurd (omega (arith, past_end (r ∷ rs) (length (r ∷ rs) - 1) h))

-- one rank less
pub fewer : (t : Standing → Bool) (es : List (ℕ × Standing)) (r : ℕ) → RisesFrom entry_rank 0 es → has t es r ≡ true → length (remove itself r (ranks_of t es)) < length (ranks_of t es)
fewer t es r rises h =
    let count = length-remove itself 0 r (ranks_of t es) (ranks_rise t 0 es rises) in
    let found = find-ranks t 0 es r rises in
    grind (arith, nat_tests)

pub remove_shorter : (es : List (ℕ × Standing)) (r : ℕ) → RisesFrom entry_rank 0 es → length (remove entry_rank r es) ≤ length es
remove_shorter es r rises = omega (arith, length-remove entry_rank 0 r es rises)

-- a pair that changed settles
settle_case : (t : Standing → Bool) → t Came ≡ t Stays → t Left ≡ false → (es : List (ℕ × Standing)) (r : ℕ) → RisesFrom entry_rank 0 es → has is_changed es r ≡ true → (o : Option Standing) → standing_of r es ≡ o →
    ranks_of t (settled r o es) ≡ ranks_of t es
settle_case t a b es r rises c None h = let no = has_none is_changed es r h in cc
settle_case t a b es r rises c (Some Stays) h = let no = has_some is_changed es r Stays h in cc
settle_case t a b es r rises c (Some Came) h = put_same t r Stays es rises (has_some t es r Came h ∙ a)
settle_case t a b es r rises c (Some Left) h = remove_same t r es rises (has_some t es r Left h ∙ b)
settle_case t a b es r rises c (Some Passed) h = let no = has_some is_changed es r Passed h in cc
settle_case t a b es r rises c (Some Spare) h = let no = has_some is_changed es r Spare h in cc

pub settle_same : (t : Standing → Bool) → t Came ≡ t Stays → t Left ≡ false → (es : List (ℕ × Standing)) (r : ℕ) → RisesFrom entry_rank 0 es → has is_changed es r ≡ true → ranks_of t (settled_at r es) ≡ ranks_of t es
settle_same t a b es r rises c = settle_case t a b es r rises c (standing_of r es) refl

settle_less : (es : List (ℕ × Standing)) (r : ℕ) → RisesFrom entry_rank 0 es → (o : Option Standing) → standing_of r es ≡ o → ranks_of is_changed (settled r o es) ≡ remove itself r (ranks_of is_changed es)
settle_less es r rises None h = remove_ranks is_changed r es rises
settle_less es r rises (Some Stays) h = remove_ranks is_changed r es rises
settle_less es r rises (Some Came) h = put_fails is_changed r Stays es rises refl
settle_less es r rises (Some Left) h = remove_ranks is_changed r es rises
settle_less es r rises (Some Passed) h = remove_ranks is_changed r es rises
settle_less es r rises (Some Spare) h = remove_ranks is_changed r es rises

pub settle_changed : (es : List (ℕ × Standing)) (r : ℕ) → RisesFrom entry_rank 0 es → ranks_of is_changed (settled_at r es) ≡ remove itself r (ranks_of is_changed es)
settle_changed es r rises = settle_less es r rises (standing_of r es) refl

settle_shorter : (es : List (ℕ × Standing)) (r : ℕ) → RisesFrom entry_rank 0 es → (o : Option Standing) → standing_of r es ≡ o → length (settled r o es) ≤ length es
settle_shorter es r rises None h = remove_shorter es r rises
settle_shorter es r rises (Some Stays) h = remove_shorter es r rises
settle_shorter es r rises (Some Came) h = omega (arith, length-put_same r Stays es rises (sym (standing_found r es) ∙ ap is_some h))
settle_shorter es r rises (Some Left) h = remove_shorter es r rises
settle_shorter es r rises (Some Passed) h = remove_shorter es r rises
settle_shorter es r rises (Some Spare) h = remove_shorter es r rises

pub settle_length : (es : List (ℕ × Standing)) (r : ℕ) → RisesFrom entry_rank 0 es → length (settled_at r es) ≤ length es
settle_length es r rises = settle_shorter es r rises (standing_of r es) refl

passed_other : (t : Standing → Bool) → ((s : Standing) → is_passed s ≡ true → t s ≡ false) → (es : List (ℕ × Standing)) (k : ℕ) → has is_passed es k ≡ true → has t es k ≡ false
passed_other t h [] k p = refl
passed_other t h (e ∷ es) k p = grind (arith, nat_tests, h e.1, passed_other t h es k)

-- a pair that passed is forgotten: what doesn't tell it is as before
pub forget_same : (t : Standing → Bool) → ((s : Standing) → is_passed s ≡ true → t s ≡ false) → (es : List (ℕ × Standing)) (r : ℕ) → RisesFrom entry_rank 0 es → has is_passed es r ≡ true → ranks_of t (remove entry_rank r es) ≡ ranks_of t es
forget_same t h es r rises p = remove_same t r es rises (passed_other t h es r p)

-- once nothing changed and nothing passed, all members stay
pub quiet : (old es : List (ℕ × Standing)) → RisesFrom entry_rank 0 es → ranks_of is_now es ≡ ranks_of is_now old → ranks_of is_changed es ≡ [] → ranks_of is_passed es ≡ [] → members_of es ≡ ticked (members_of old)
quiet old es rises n c p =
    let none_changed = has_no_ranks is_changed 0 es rises c in
    let none_passed = has_no_ranks is_passed 0 es rises p in
    let lasts = same_ranks is_last is_now 0 0 es es rises rises (λ k. has_agrees is_changed is_last is_now last_unchanged es k (none_changed k)) in
    let kepts = same_ranks is_kept is_now 0 0 es es rises rises (λ k. has_agrees (λ s. is_changed s || is_passed s) is_kept is_now kept_unchanged es k (has_either is_changed is_passed es k (none_changed k) (none_passed k))) in
    let now = ap (map pair_of_rank) n in
    let last = ap (map pair_of_rank) (lasts ∙ n) in
    let kept = ap (map pair_of_rank) (kepts ∙ n) in
    cc
