-- What pairs that come make of the members, where there is room for them.
use Rattle.std.proofs.Common.{◌≡◌, ℕ, suc, ◌<◌, ◌≤◌, Bool, true, false, cond, not, ◌&&◌, ◌==◌, nat_lt, List, [], ◌∷◌, length, map, Option, Some, None, Err, is_some, refl, sym, ap, ◌∙◌, arith}
use Rattle.std.specs.Option.{option_map}
use Rattle.std.specs.Int.{w16}
use Rattle.std.specs.Int.RustNames.{FitsSigned}
use Rattle.std.proofs.lemmas.Bool.Decides.{nat_tests}
use Rattle.lists.specs.Rising.{RisesFrom, put}
use Rattle.lists.proofs.RisingLaws.{RisesFrom-put, RisesFrom-filter}
use Rattle.schema_model.specs.declared.place.Pair.{Pair}
use Rattle.state_model.specs.Members.{pair_rank, with_pairs, is_view_full}
use Rattle.view_members.specs.declared.fault.MemberFault.{MemberFault}
use Rattle.view_members.specs.declared.fault.MemberFault.TheVariants.{ViewFull, Memory}
use Rattle.view_members.specs.declared.standing.Standing.{Standing}
use Rattle.view_members.specs.Sets.{Adds, with_all}
use Rattle.view_members.specs.Standings.{AllFit, entry_rank, standing_of, ranks_of, pairs_of, pair_of_rank, members_of, is_now, is_last, is_kept, is_any, is_spare, is_ranked, after_coming, set_at, add_at, add_all, with_spares, without_spares, TakesRoom}
use Rattle.view_members.proofs.StandingLaws.{coming_now, coming_last, coming_kept, coming_spare}
use Rattle.view_members.proofs.RankLists.{has, has_some, has_none, has-put, put_passes, put_same, same_ranks}
use Rattle.view_members.proofs.PairLists.{pairs_with}
use Rattle.view_members.proofs.MemberLaws.{add_length}
use Rattle.view_members.proofs.SpareLaws.{any_there, any_length, standing_found, spares_rise, spares_unseen, spares_pairs, spares_has, kept_ranks, has-back}

-- one pair comes
add_case : (es : List (ℕ × Standing)) (p : Pair) → FitsSigned w16 p.tag → RisesFrom entry_rank 0 es → (o : Option Standing) → standing_of (pair_rank p) es ≡ o → is_some o ≡ true →
    members_of (set_at (pair_rank p) (option_map after_coming o) es) ≡ with_all (p ∷ []) (members_of es)
add_case es p f rises None h i = cc
add_case es p f rises (Some s) h i =
    let r = pair_rank p in
    let fs = put entry_rank (r, after_coming s) es in
    let now = pairs_with is_now es fs p f (put_passes is_now r (after_coming s) es rises (coming_now s)) in
    let last = ap (map pair_of_rank) (put_same is_last r (after_coming s) es rises (has_some is_last es r s h ∙ sym (coming_last s))) in
    let kept = pairs_with is_kept es fs p f (put_passes is_kept r (after_coming s) es rises (coming_kept s)) in
    cc

set_rises : (es : List (ℕ × Standing)) (r : ℕ) (o : Option Standing) → RisesFrom entry_rank 0 es → RisesFrom entry_rank 0 (set_at r o es)
set_rises es r None rises = rises
set_rises es r (Some s) rises = RisesFrom-put entry_rank 0 (r, s) es rises (omega arith)

pub add_rises : (es : List (ℕ × Standing)) (r : ℕ) → RisesFrom entry_rank 0 es → RisesFrom entry_rank 0 (add_at r es)
add_rises es r rises = set_rises es r (option_map after_coming (standing_of r es)) rises

-- who has an entry still has one, and room that is come into is room no more
add_has_case : (t : Standing → Bool) (b : Bool) → ((s : Standing) → t (after_coming s) ≡ b) → (es : List (ℕ × Standing)) (r k : ℕ) (o : Option Standing) → standing_of r es ≡ o
    → has t (set_at r (option_map after_coming o) es) k ≡ cond (is_some o && r == k) b (has t es k)
add_has_case t b h es r k None i = refl
add_has_case t b h es r k (Some s) i = has-put t r (after_coming s) es k ∙ ap (λ c. cond (r == k) c (has t es k)) (h s)

add_any : (es : List (ℕ × Standing)) (r k : ℕ) → has is_any (add_at r es) k ≡ has is_any es k
add_any es r k =
    let told = add_has_case is_any true (λ s. refl) es r k (standing_of r es) refl in
    grind (arith, nat_tests, any_there es k, standing_found r es)

add_spare : (es : List (ℕ × Standing)) (r k : ℕ) → has is_spare (add_at r es) k ≡ (has is_spare es k && not (r == k))
add_spare es r k =
    let told = add_has_case is_spare false coming_spare es r k (standing_of r es) refl in
    grind (arith, nat_tests, has_none is_spare es r)

-- pairs come one by one
pub add_all_members : (ps : List Pair) (es : List (ℕ × Standing)) → AllFit ps → RisesFrom entry_rank 0 es → ((k : ℕ) → is_ranked ps k ≡ true → has is_any es k ≡ true) →
    members_of (add_all ps es) ≡ with_all ps (members_of es)
add_all_members [] es f rises h = refl
add_all_members (p ∷ ps) es f rises h =
    let r = pair_rank p in
    let here : is_some (standing_of r es) ≡ true = standing_found r es ∙ (sym (any_there es r) ∙ h r (grind (arith, nat_tests))) in
    let one = add_case es p f.0 rises (standing_of r es) refl here in
    let rest = add_all_members ps (add_at r es) f.1 (add_rises es r rises) (λ k i. add_any es r k ∙ h k (grind (arith, nat_tests))) in
    rest ∙ ap (with_all ps) one

pub add_all_rises : (ps : List Pair) (es : List (ℕ × Standing)) → RisesFrom entry_rank 0 es → RisesFrom entry_rank 0 (add_all ps es)
add_all_rises [] es rises = rises
add_all_rises (p ∷ ps) es rises = add_all_rises ps (add_at (pair_rank p) es) (add_rises es (pair_rank p) rises)

pub add_all_length : (ps : List Pair) (es : List (ℕ × Standing)) → RisesFrom entry_rank 0 es → length (add_all ps es) ≡ length es
add_all_length [] es rises = refl
add_all_length (p ∷ ps) es rises = add_all_length ps (add_at (pair_rank p) es) (add_rises es (pair_rank p) rises) ∙ add_length es (pair_rank p) rises

add_all_spare : (ps : List Pair) (es : List (ℕ × Standing)) (k : ℕ) → has is_spare (add_all ps es) k ≡ (has is_spare es k && not (is_ranked ps k))
add_all_spare [] es k = grind (arith, nat_tests)
add_all_spare (p ∷ ps) es k = grind (arith, nat_tests, add_all_spare ps (add_at (pair_rank p) es) k, add_spare es (pair_rank p) k)

-- once all came, no room is left over
pub none_left : (ps : List Pair) (old es : List (ℕ × Standing)) → RisesFrom entry_rank 0 es → ranks_of is_spare old ≡ [] → without_spares ps es ≡ old → ranks_of is_spare (add_all ps es) ≡ []
none_left ps old es rises h back =
    same_ranks is_spare is_spare 0 0 (add_all ps es) (without_spares ps es) (add_all_rises ps es rises) (RisesFrom-filter entry_rank 0 _ es rises)
    (λ k. add_all_spare ps es k ∙ sym (has-back ps 0 es k rises))
    ∙ (ap (ranks_of is_spare) back ∙ h)

-- the members after pairs came
pub added_members : (ps : List Pair) (old : List (ℕ × Standing)) → AllFit ps → RisesFrom entry_rank 0 old → members_of (add_all ps (with_spares ps old)) ≡ with_all ps (members_of old)
added_members ps old f rises =
    let es = with_spares ps old in
    let now = ap (map pair_of_rank) (spares_unseen is_now refl ps old rises) in
    let last = ap (map pair_of_rank) (spares_unseen is_last refl ps old rises) in
    let kept = ap (map pair_of_rank) (spares_unseen is_kept refl ps old rises) in
    let same : members_of es ≡ members_of old = cc in
    add_all_members ps es f (spares_rise ps old rises) (λ k i. spares_has ps old k ∙ (grind (arith, nat_tests))) ∙ ap (with_all ps) same

length_mapped : (rs : List ℕ) → length (map pair_of_rank rs) ≡ length rs
length_mapped [] = refl
length_mapped (r ∷ rs) = ap suc (length_mapped rs)

-- as many pairs are kept then as there are entries
pub kept_count : (ps : List Pair) (old : List (ℕ × Standing)) → AllFit ps → RisesFrom entry_rank 0 old → ranks_of is_spare old ≡ [] → length (with_all ps (members_of old)).kept ≡ length (with_spares ps old)
kept_count ps old f rises h =
    let all = spares_pairs ps old f rises in
    let same = ap (map pair_of_rank) (kept_ranks old rises h) in
    let told : length (pairs_of is_any (with_spares ps old)) ≡ length (with_pairs (pairs_of is_kept old) ps) = ap length (all ∙ ap (λ xs. with_pairs xs ps) same) in
    sym told ∙ (length_mapped (ranks_of is_any (with_spares ps old)) ∙ any_length (with_spares ps old))

few_kept : (n m : ℕ) → n ≡ m → m ≤ 65536 → nat_lt 65536 n ≡ false
few_kept n m e l = grind (arith, nat_tests)

many_kept : (n m : ℕ) → n ≡ m → 65536 < m → nat_lt 65536 n ≡ true
many_kept n m e l = grind (arith, nat_tests)

pub not_full : (ps : List Pair) (old : List (ℕ × Standing)) → AllFit ps → RisesFrom entry_rank 0 old → ranks_of is_spare old ≡ [] → length (with_spares ps old) ≤ 65536 → is_view_full (with_all ps (members_of old)) ≡ false
not_full ps old f rises h l = few_kept _ _ (kept_count ps old f rises h) l

pub full : (ps : List Pair) (old : List (ℕ × Standing)) → AllFit ps → RisesFrom entry_rank 0 old → ranks_of is_spare old ≡ [] → 65536 < length (with_spares ps old) → is_view_full (with_all ps (members_of old)) ≡ true
full ps old f rises h l = many_kept _ _ (kept_count ps old f rises h) l

-- pairs that were refused: nothing changed, and they would be too many or not, as is told
pub refused : (ps : List Pair) (old new : List (ℕ × Standing)) (fault : MemberFault) → AllFit ps → RisesFrom entry_rank 0 old → ranks_of is_spare old ≡ [] → TakesRoom ps old new (Err fault) → Adds ps (members_of old) (members_of new) (Err fault)
refused ps old new ViewFull f rises h taken = (full ps old f rises h taken.1, ap members_of taken.0)
refused ps old new Memory f rises h taken = (not_full ps old f rises h taken.1, ap members_of taken.0)
