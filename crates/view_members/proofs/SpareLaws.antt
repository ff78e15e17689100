-- Room that is taken for pairs and given back: what isn't room stays as it is, and what is given back is all that was taken.
use Rattle.std.proofs.Common.{◌≡◌, ℕ, zero, suc, ◌+◌, ◌<◌, ◌≤◌, Bool, true, false, cond, not, ◌&&◌, ◌||◌, ◌==◌, List, [], ◌∷◌, length, get_or, drop, filter, Option, Some, None, Err, is_some, refl, sym, ap, ap₂, ◌∙◌, drop-cons, add-one, arith}
use Rattle.std.specs.Option.{option_map}
use Rattle.std.proofs.lemmas.Bool.Decides.{nat_tests}
use Rattle.lists.specs.Rising.{RisesFrom, find, put, remove}
use Rattle.lists.proofs.RisingLaws.{find_below, RisesFrom-put, put_found, length-put, remove_missing}
use Rattle.schema_model.specs.declared.place.Pair.{Pair}
use Rattle.state_model.specs.Members.{pair_rank, with_pairs}
use Rattle.view_members.specs.declared.fault.MemberFault.{MemberFault}
use Rattle.view_members.specs.declared.fault.MemberFault.TheVariants.{ViewFull, Memory}
use Rattle.view_members.specs.declared.standing.Standing.{Standing}
use Rattle.view_members.specs.declared.standing.Standing.TheVariants.{Spare}
use Rattle.view_members.specs.Standings.{AllFit, itself, entry_rank, standing_of, ranks_of, pairs_of, is_any, is_spare, is_kept, is_ranked, with_spare, with_spares, without_spare, without_spares, MakesRoom}
use Rattle.view_members.proofs.RankLists.{has, has_below, has-put, has_no_ranks, find-ranks, ranks_rise, put_passes, put_same, same_ranks}
use Rattle.view_members.proofs.StandingLaws.{kept_not_spare}
use Rattle.view_members.proofs.PairLists.{pairs_with}

-- an entry is there where one of any standing is
pub any_there : (es : List (ℕ × Standing)) (k : ℕ) → has is_any es k ≡ is_some (find entry_rank k es)
any_there [] k = refl
any_there (e ∷ es) k = grind (arith, nat_tests, any_there es k)

pub any_length : (es : List (ℕ × Standing)) → length (ranks_of is_any es) ≡ length es
any_length [] = refl
any_length (e ∷ es) = ap suc (any_length es)

-- room for one pair
some_standing : (o : Option (ℕ × Standing)) → is_some (option_map (λ (e : ℕ × Standing). e.1) o) ≡ is_some o
some_standing None = refl
some_standing (Some e) = refl

pub standing_found : (r : ℕ) (es : List (ℕ × Standing)) → is_some (standing_of r es) ≡ is_some (find entry_rank r es)
standing_found r es = some_standing (find entry_rank r es)

pub spare_new : (r : ℕ) (es : List (ℕ × Standing)) → is_some (standing_of r es) ≡ false → with_spare r es ≡ put entry_rank (r, Spare) es
spare_new r es h = ap (λ b. cond b es (put entry_rank (r, Spare) es)) (sym (standing_found r es) ∙ h)

pub spare_adds : (r : ℕ) (es : List (ℕ × Standing)) → RisesFrom entry_rank 0 es → is_some (standing_of r es) ≡ false → length (with_spare r es) ≡ length es + 1
spare_adds r es rises h =
    ap length (spare_new r es h) ∙ (length-put entry_rank 0 (r, Spare) es rises ∙ ap (λ b. length es + cond b 0 1) (sym (standing_found r es) ∙ h))

has_missing : (t : Standing → Bool) (es : List (ℕ × Standing)) (k : ℕ) → is_some (find entry_rank k es) ≡ false → has t es k ≡ false
has_missing t [] k h = refl
has_missing t (e ∷ es) k h = grind (arith, nat_tests, has_missing t es k)

pub spare_rise : (r : ℕ) (es : List (ℕ × Standing)) → RisesFrom entry_rank 0 es → RisesFrom entry_rank 0 (with_spare r es)
spare_rise r es rises = grind (arith, nat_tests, RisesFrom-put entry_rank 0 (r, Spare) es rises)

pub spares_rise : (ps : List Pair) (es : List (ℕ × Standing)) → RisesFrom entry_rank 0 es → RisesFrom entry_rank 0 (with_spares ps es)
spares_rise [] es rises = rises
spares_rise (p ∷ ps) es rises = spares_rise ps (with_spare (pair_rank p) es) (spare_rise (pair_rank p) es rises)

-- an entry more or none
spare_longer : (r : ℕ) (es : List (ℕ × Standing)) → RisesFrom entry_rank 0 es → length es ≤ length (with_spare r es)
spare_longer r es rises = grind (arith, nat_tests, length-put entry_rank 0 (r, Spare) es rises)

pub spares_longer : (ps : List Pair) (es : List (ℕ × Standing)) → RisesFrom entry_rank 0 es → length es ≤ length (with_spares ps es)
spares_longer [] es rises = omega arith
spares_longer (p ∷ ps) es rises =
    omega (arith, spare_longer (pair_rank p) es rises, spares_longer ps (with_spare (pair_rank p) es) (spare_rise (pair_rank p) es rises))

-- what doesn't tell room is as before
spare_unseen : (t : Standing → Bool) → t Spare ≡ false → (r : ℕ) (es : List (ℕ × Standing)) → RisesFrom entry_rank 0 es → (b : Bool) → is_some (find entry_rank r es) ≡ b → ranks_of t (cond b es (put entry_rank (r, Spare) es)) ≡ ranks_of t es
spare_unseen t h r es rises true i = refl
spare_unseen t h r es rises false i = put_same t r Spare es rises (has_missing t es r i ∙ sym h)

pub spares_unseen : (t : Standing → Bool) → t Spare ≡ false → (ps : List Pair) (es : List (ℕ × Standing)) → RisesFrom entry_rank 0 es → ranks_of t (with_spares ps es) ≡ ranks_of t es
spares_unseen t h [] es rises = refl
spares_unseen t h (p ∷ ps) es rises =
    spares_unseen t h ps (with_spare (pair_rank p) es) (spare_rise (pair_rank p) es rises) ∙ spare_unseen t h (pair_rank p) es rises (is_some (find entry_rank (pair_rank p) es)) refl

-- the ranks of all entries
spare_ranks : (r : ℕ) (es : List (ℕ × Standing)) → RisesFrom entry_rank 0 es → (b : Bool) → is_some (find entry_rank r es) ≡ b → ranks_of is_any (cond b es (put entry_rank (r, Spare) es)) ≡ put itself r (ranks_of is_any es)
spare_ranks r es rises true h = sym (put_found itself 0 r (ranks_of is_any es) (ranks_rise is_any 0 es rises) (find-ranks is_any 0 es r rises ∙ ap (λ b. cond b (Some r) None) (any_there es r ∙ h)))
spare_ranks r es rises false h = put_passes is_any r Spare es rises refl

pub spares_pairs : (ps : List Pair) (es : List (ℕ × Standing)) → AllFit ps → RisesFrom entry_rank 0 es → pairs_of is_any (with_spares ps es) ≡ with_pairs (pairs_of is_any es) ps
spares_pairs [] es f rises = refl
spares_pairs (p ∷ ps) es f rises =
    let more = pairs_with is_any es (with_spare (pair_rank p) es) p f.0 (spare_ranks (pair_rank p) es rises (is_some (find entry_rank (pair_rank p) es)) refl) in
    spares_pairs ps (with_spare (pair_rank p) es) f.1 (spare_rise (pair_rank p) es rises) ∙ ap (λ xs. with_pairs xs ps) more

-- every pair for which there is room has an entry
spare_has : (r : ℕ) (es : List (ℕ × Standing)) (k : ℕ) → has is_any (with_spare r es) k ≡ (has is_any es k || r == k)
spare_has r es k = grind (arith, nat_tests, any_there es r, has-put is_any r Spare es k)

pub spares_has : (ps : List Pair) (es : List (ℕ × Standing)) (k : ℕ) → has is_any (with_spares ps es) k ≡ (has is_any es k || is_ranked ps k)
spares_has [] es k = grind (arith, nat_tests)
spares_has (p ∷ ps) es k = grind (arith, nat_tests, spares_has ps (with_spare (pair_rank p) es) k, spare_has (pair_rank p) es k)

-- where no entry is room, all are kept
kept_any : (es : List (ℕ × Standing)) (k : ℕ) → has is_spare es k ≡ false → has is_any es k ≡ has is_kept es k
kept_any [] k h = refl
kept_any (e ∷ es) k h = grind (arith, nat_tests, kept_any es k, kept_not_spare e.1)

pub kept_ranks : (es : List (ℕ × Standing)) → RisesFrom entry_rank 0 es → ranks_of is_spare es ≡ [] → ranks_of is_any es ≡ ranks_of is_kept es
kept_ranks es rises h = same_ranks is_any is_kept 0 0 es es rises rises (λ k. kept_any es k (has_no_ranks is_spare 0 es rises h k))

-- room that is given back
pub back_start : (ps : List Pair) (es : List (ℕ × Standing)) → ranks_of is_spare es ≡ [] → without_spares ps es ≡ es
back_start ps [] h = refl
back_start ps (e ∷ es) h = grind (arith, nat_tests, back_start ps es)

filter-put : (p : ℕ × Standing → Bool) (x : ℕ × Standing) (es : List (ℕ × Standing)) → find entry_rank x.0 es ≡ None → p x ≡ false → filter p (put entry_rank x es) ≡ filter p es
filter-put p x [] h f = grind (arith, nat_tests)
filter-put p x (e ∷ es) h f = grind (arith, nat_tests, filter-put p x es)

pub back_more : (ps : List Pair) (r : ℕ) (es : List (ℕ × Standing)) → find entry_rank r es ≡ None → is_ranked ps r ≡ true → without_spares ps (put entry_rank (r, Spare) es) ≡ without_spares ps es
back_more ps r es h i = filter-put (λ (e : ℕ × Standing). not (is_spare e.1 && is_ranked ps e.0)) (r, Spare) es h (ap not i)

pub back_one : (p : Pair) (ps : List Pair) (es : List (ℕ × Standing)) → without_spares (p ∷ ps) es ≡ without_spares ps (without_spare (pair_rank p) es)
back_one p ps [] = refl
back_one p ps (e ∷ es) = grind (arith, nat_tests, back_one p ps es)

pub back_nothing : (es : List (ℕ × Standing)) → without_spares [] es ≡ es
back_nothing [] = refl
back_nothing (e ∷ es) = grind (arith, nat_tests, back_nothing es)

pub spare_missing : (r low : ℕ) (es : List (ℕ × Standing)) → RisesFrom entry_rank low es → has is_spare es r ≡ false → without_spare r es ≡ es
spare_missing r low [] rises h = refl
spare_missing r low (e ∷ es) rises h = grind (arith, nat_tests, spare_missing r (suc e.0) es rises.1, has_below is_spare (suc e.0) es r rises.1)

pub spare_gone : (r low : ℕ) (es : List (ℕ × Standing)) → RisesFrom entry_rank low es → has is_spare es r ≡ true → remove entry_rank r es ≡ without_spare r es
spare_gone r low [] rises h = refl
spare_gone r low (e ∷ es) rises h =
    grind (arith, nat_tests, spare_gone r (suc e.0) es rises.1, remove_missing entry_rank r es, find_below entry_rank (suc e.0) es r rises.1, spare_missing r (suc e.0) es rises.1, has_below is_spare (suc e.0) es r rises.1)

-- what is room still, once some is given back
pub has-back : (ps : List Pair) (low : ℕ) (es : List (ℕ × Standing)) (k : ℕ) → RisesFrom entry_rank low es → has is_spare (without_spares ps es) k ≡ (has is_spare es k && not (is_ranked ps k))
has-back ps low [] k rises = refl
has-back ps low (e ∷ es) k rises = grind (arith, nat_tests, has-back ps (suc e.0) es k rises.1, has_below is_spare (suc e.0) es k rises.1)

-- room for one of the pairs is given back with the rest
room_case : (ps : List Pair) (r : ℕ) (es : List (ℕ × Standing)) → is_ranked ps r ≡ true → (o : Option (ℕ × Standing)) → find entry_rank r es ≡ o → without_spares ps (cond (is_some o) es (put entry_rank (r, Spare) es)) ≡ without_spares ps es
room_case ps r es h None i = back_more ps r es i h
room_case ps r es h (Some e) i = refl

pub room_back : (ps : List Pair) (r : ℕ) (es : List (ℕ × Standing)) → is_ranked ps r ≡ true → without_spares ps (with_spare r es) ≡ without_spares ps es
room_back ps r es h = room_case ps r es h (find entry_rank r es) refl

-- a pair at a place of pairs is among them
pub ranked_at : (ps : List Pair) (i : ℕ) (p : Pair) → i < length ps → p ≡ get_or ps i p → is_ranked ps (pair_rank p) ≡ true
ranked_at [] i p l h = absurd (omega arith)
ranked_at (q ∷ ps) zero p l h = let same = ap pair_rank h in grind (arith, nat_tests)
ranked_at (q ∷ ps) (suc i) p l h = grind (arith, nat_tests, ranked_at ps i p (omega arith) h)

-- the pairs from a place on
pub next_pair : (ps : List Pair) (i : ℕ) (p : Pair) → i < length ps → p ≡ get_or ps i p → drop i ps ≡ p ∷ drop (i + 1) ps
next_pair ps i p l h = drop-cons ps i p l ∙ ap₂ (λ (x : Pair) (n : ℕ). x ∷ drop n ps) (sym h) (sym (add-one i))

-- where there is no room for one pair, there is none for all
pub no_room : (ps : List Pair) (i : ℕ) (p : Pair) (r : ℕ) (old es mid : List (ℕ × Standing)) (fault : MemberFault) → i < length ps → p ≡ get_or ps i p → r ≡ pair_rank p →
    RisesFrom entry_rank 0 es → with_spares ps old ≡ with_spares (drop i ps) es → MakesRoom r es mid (Err fault) → fault ≡ ViewFull → 65536 < length (with_spares ps old)
no_room ps i p r old es mid ViewFull l at is rises left made h =
    let all : with_spares ps old ≡ with_spares (drop (i + 1) ps) (with_spare r es) =
    left ∙ (ap (λ qs. with_spares qs es) (next_pair ps i p l at) ∙ ap (λ n. with_spares (drop (i + 1) ps) (with_spare n es)) (sym is)) in
    let longer = spares_longer (drop (i + 1) ps) (with_spare r es) (spare_rise r es rises) in
    rw all (omega (arith, made.1, longer))
no_room ps i p r old es mid Memory l at is rises left made h = cc

-- and the room that was taken is given back
pub room_gone : (ps : List Pair) (r : ℕ) (old es mid new : List (ℕ × Standing)) (fault : MemberFault) → without_spares ps es ≡ old → MakesRoom r es mid (Err fault) → new ≡ without_spares ps mid → new ≡ old
room_gone ps r old es mid new ViewFull back made gone = gone ∙ (ap (without_spares ps) made.0 ∙ back)
room_gone ps r old es mid new Memory back made gone = gone ∙ (ap (without_spares ps) made.0 ∙ back)
