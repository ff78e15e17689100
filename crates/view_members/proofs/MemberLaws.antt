-- What edits of the entries make of the members that they come to.
use Rattle.std.proofs.Common.{◌≡◌, ℕ, Bool, true, false, cond, ◌||◌, List, [], ◌∷◌, length, map, filter, Option, Some, None, is_some, option_and_then, refl, sym, ap, ap₂, ◌∙◌, arith}
use Rattle.std.specs.Option.{option_map}
use Rattle.std.specs.Int.{w16}
use Rattle.std.specs.Int.RustNames.{FitsSigned}
use Rattle.std.proofs.lemmas.Bool.Decides.{nat_tests}
use Rattle.lists.specs.Rising.{RisesFrom, find, remove}
use Rattle.lists.proofs.RisingLaws.{remove_missing, RisesFrom-filter, find-filter, same_rising}
use Rattle.schema_model.specs.declared.place.Pair.{Pair}
use Rattle.state_model.specs.Members.{Members, pair_rank, differs, changed_pairs}
use Rattle.state_model.specs.Shown.{is_member}
use Rattle.view_members.specs.declared.standing.Standing.{Standing}
use Rattle.view_members.specs.Sets.{without_all}
use Rattle.view_members.specs.Standings.{itself, entry_rank, standing_of, ranks_of, pairs_of, pair_of_rank, members_of, is_now, is_last, is_kept, is_changed, is_spare, after_coming, after_leaving, set_at, add_at, remove_at}
use Rattle.view_members.proofs.StandingLaws.{leaving_now, leaving_last, leaving_kept, leaving_spare, changed_differs}
use Rattle.view_members.proofs.RankLists.{has, has_some, has_none, ranks_rise, find-ranks, put_fails, put_same, length-put_same}
use Rattle.view_members.proofs.PairLists.{rank_again, tag_fits, pairs-filter, pairs_without, without_more, without_nothing, member_ranked, with_mapped, with_ranks, with_rise, find-with}

-- a rank that isn't among the ranks is not taken out of them
ranks_missing : (t : Standing → Bool) (es : List (ℕ × Standing)) (r : ℕ) → RisesFrom entry_rank 0 es → has t es r ≡ false → ranks_of t es ≡ remove itself r (ranks_of t es)
ranks_missing t es r rises h = sym (remove_missing itself r (ranks_of t es) (find-ranks t 0 es r rises ∙ ap (λ b. cond b (Some r) None) h))

-- the entries after a pair leaves
remove_case : (es : List (ℕ × Standing)) (r : ℕ) → RisesFrom entry_rank 0 es → (o : Option Standing) → standing_of r es ≡ o → (t : Standing → Bool) → ((s : Standing) → t (after_leaving s) ≡ t s)
    → ranks_of t (set_at r (option_map after_leaving o) es) ≡ ranks_of t es
remove_case es r rises None h t same = refl
remove_case es r rises (Some s) h t same = put_same t r (after_leaving s) es rises (has_some t es r s h ∙ sym (same s))

remove_now : (es : List (ℕ × Standing)) (r : ℕ) → RisesFrom entry_rank 0 es → (o : Option Standing) → standing_of r es ≡ o → ranks_of is_now (set_at r (option_map after_leaving o) es) ≡ remove itself r (ranks_of is_now es)
remove_now es r rises None h = ranks_missing is_now es r rises (has_none is_now es r h)
remove_now es r rises (Some s) h = put_fails is_now r (after_leaving s) es rises (leaving_now s)

-- what doesn't tell leaving from staying is as before
pub remove_same : (t : Standing → Bool) → ((s : Standing) → t (after_leaving s) ≡ t s) → (es : List (ℕ × Standing)) (r : ℕ) → RisesFrom entry_rank 0 es → ranks_of t (remove_at r es) ≡ ranks_of t es
remove_same t same es r rises = remove_case es r rises (standing_of r es) refl t same

pub remove_ranks : (es : List (ℕ × Standing)) (r : ℕ) → RisesFrom entry_rank 0 es → ranks_of is_now (remove_at r es) ≡ remove itself r (ranks_of is_now es)
remove_ranks es r rises = remove_now es r rises (standing_of r es) refl

-- the members after a pair leaves
pub remove_members : (es : List (ℕ × Standing)) (p : Pair) → FitsSigned w16 p.tag → RisesFrom entry_rank 0 es → members_of (remove_at (pair_rank p) es) ≡ without_all (p ∷ []) (members_of es)
remove_members es p f rises =
    let fs = remove_at (pair_rank p) es in
    let now = pairs_without is_now es fs p f (remove_ranks es (pair_rank p) rises) in
    let last = ap (map pair_of_rank) (remove_same is_last leaving_last es (pair_rank p) rises) in
    let kept = ap (map pair_of_rank) (remove_same is_kept leaving_kept es (pair_rank p) rises) in
    cc

pub remove_spare : (es : List (ℕ × Standing)) (r : ℕ) → RisesFrom entry_rank 0 es → ranks_of is_spare (remove_at r es) ≡ ranks_of is_spare es
remove_spare es r rises = remove_same is_spare leaving_spare es r rises

there : (es : List (ℕ × Standing)) (r : ℕ) (s : Standing) → standing_of r es ≡ Some s → is_some (find entry_rank r es) ≡ true
there [] r s h = cc
there (e ∷ es) r s h = grind (arith, nat_tests, there es r s)

set_length : (es : List (ℕ × Standing)) (r : ℕ) (f : Standing → Standing) → RisesFrom entry_rank 0 es → (o : Option Standing) → standing_of r es ≡ o → length (set_at r (option_map f o) es) ≡ length es
set_length es r f rises None h = refl
set_length es r f rises (Some s) h = length-put_same r (f s) es rises (there es r s h)

pub remove_length : (es : List (ℕ × Standing)) (r : ℕ) → RisesFrom entry_rank 0 es → length (remove_at r es) ≡ length es
remove_length es r rises = set_length es r after_leaving rises (standing_of r es) refl

pub add_length : (es : List (ℕ × Standing)) (r : ℕ) → RisesFrom entry_rank 0 es → length (add_at r es) ≡ length es
add_length es r rises = set_length es r after_coming rises (standing_of r es) refl

-- a pair is a member where its entry is there and passes
pub member_has : (t : Standing → Bool) (es : List (ℕ × Standing)) (p : Pair) → FitsSigned w16 p.tag → RisesFrom entry_rank 0 es → is_member (pairs_of t es) p.who p.tag ≡ has t es (pair_rank p)
member_has t es p f rises =
    let found = find-ranks t 0 es (pair_rank p) rises in
    let told = member_ranked (ranks_of t es) p.who p.tag f in
    grind (arith, nat_tests)

member_at : (t : Standing → Bool) (es : List (ℕ × Standing)) (r : ℕ) → RisesFrom entry_rank 0 es → is_member (pairs_of t es) (pair_of_rank r).who (pair_of_rank r).tag ≡ has t es r
member_at t es r rises = member_has t es (pair_of_rank r) (tag_fits r) rises ∙ ap (has t es) (rank_again r)

-- what changed is what is a member at exactly one of both times
has_differs : (es : List (ℕ × Standing)) (k : ℕ) → has is_changed es k ≡ differs (has is_now es k) (has is_last es k)
has_differs [] k = refl
has_differs (e ∷ es) k = grind (arith, nat_tests, changed_differs e.1, has_differs es k)

differs_either : (a b : Bool) (k : ℕ) → cond (a || b) (cond (differs a b) (Some k) None) None ≡ cond (differs a b) (Some k) None
differs_either true true k = refl
differs_either true false k = refl
differs_either false true k = refl
differs_either false false k = refl

pub found_some : (t : Standing → Bool) (es : List (ℕ × Standing)) (k : ℕ) → RisesFrom entry_rank 0 es → is_some (find itself k (ranks_of t es)) ≡ has t es k
found_some t es k rises = let found = find-ranks t 0 es k rises in grind (arith, nat_tests)

found_itself : (xs : List ℕ) (k : ℕ) (b : Bool) → is_some (find itself k xs) ≡ b → find itself k xs ≡ cond b (Some k) None
found_itself [] k true h = cc
found_itself [] k false h = refl
found_itself (x ∷ xs) k b h = grind (arith, nat_tests, found_itself xs k b)

pub filtered : (p : ℕ → Bool) (xs : List ℕ) (k : ℕ) → RisesFrom itself 0 xs → (b : Bool) → is_some (find itself k xs) ≡ b → find itself k (filter p xs) ≡ cond b (cond (p k) (Some k) None) None
filtered p xs k r true h = find-filter itself 0 p xs k r ∙ ap (option_and_then (λ e. cond (p e) (Some e) None)) (found_itself xs k true h)
filtered p xs k r false h = find-filter itself 0 p xs k r ∙ ap (option_and_then (λ e. cond (p e) (Some e) None)) (found_itself xs k false h)

find_changed : (es : List (ℕ × Standing)) (k : ℕ) → RisesFrom entry_rank 0 es →
    find itself k (filter (λ r. differs (has is_now es r) (has is_last es r)) (with_ranks (ranks_of is_now es) (ranks_of is_last es))) ≡ find itself k (ranks_of is_changed es)
find_changed es k rises =
    let nows = ranks_of is_now es in
    let lasts = ranks_of is_last es in
    let n = has is_now es k in
    let l = has is_last es k in
    let test : ℕ → Bool = λ r. differs (has is_now es r) (has is_last es r) in
    let either = find-with nows lasts k ∙ ap₂ (λ a b. a || b) (found_some is_now es k rises) (found_some is_last es k rises) in
    filtered test (with_ranks nows lasts) k (with_rise nows lasts (ranks_rise is_now 0 es rises)) (n || l) either
    ∙ differs_either n l k
    ∙ ap (λ b. cond b (Some k) None) (sym (has_differs es k))
    ∙ sym (find-ranks is_changed 0 es k rises)

-- the changed pairs are those whose entries changed
pub changed_ranks : (es : List (ℕ × Standing)) → RisesFrom entry_rank 0 es → changed_pairs (members_of es) ≡ pairs_of is_changed es
changed_ranks es rises =
    let nows = ranks_of is_now es in
    let lasts = ranks_of is_last es in
    let test : ℕ → Bool = λ r. differs (has is_now es r) (has is_last es r) in
    let up = with_rise nows lasts (ranks_rise is_now 0 es rises) in
    let same = same_rising itself 0 0 _ _ (RisesFrom-filter itself 0 test (with_ranks nows lasts) up) (ranks_rise is_changed 0 es rises) (λ k. find_changed es k rises) in
    let told : (r : ℕ) → differs (is_member (pairs_of is_now es) (pair_of_rank r).who (pair_of_rank r).tag) (is_member (pairs_of is_last es) (pair_of_rank r).who (pair_of_rank r).tag) ≡ test r =
    λ r. ap₂ differs (member_at is_now es r rises) (member_at is_last es r rises) in
    ap (filter (λ (p : Pair). differs (is_member (pairs_of is_now es) p.who p.tag) (is_member (pairs_of is_last es) p.who p.tag))) (with_mapped nows lasts)
    ∙ pairs-filter (λ (p : Pair). differs (is_member (pairs_of is_now es) p.who p.tag) (is_member (pairs_of is_last es) p.who p.tag)) test (with_ranks nows lasts) told
    ∙ ap (map pair_of_rank) same

-- taking pairs out one by one
pub without_first : (p : Pair) (ps : List Pair) (m : Members) → without_all (p ∷ ps) m ≡ without_all ps (without_all (p ∷ []) m)
without_first p ps m = let now = without_more p ps m.now in cc

pub without_none : (m : Members) → without_all [] m ≡ m
without_none m = ap (λ (xs : List Pair). let n : Members = record { now = xs; last = m.last; kept = m.kept } in n) (without_nothing m.now)
