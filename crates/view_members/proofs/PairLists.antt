-- Lists of pairs as lists of their ranks.
use Rattle.std.proofs.Common.{◌≡◌, ℕ, suc, ◌+◌, ◌*◌, ◌/◌, ◌%◌, Bool, not, ◌&&◌, ◌||◌, ◌==◌, List, [], ◌∷◌, map, filter, is_some, ℤ, pos, negsuc, nat_abs, ◌+ℤ◌, ◌-ℤ◌, ◌≤ℤ◌, refl, sym, ap, ap₂, ◌∙◌, arith}
use Rattle.std.specs.Bool.{Decides}
use Rattle.std.specs.Int.{w16}
use Rattle.std.specs.Int.RustNames.{FitsSigned}
use Rattle.std.proofs.lemmas.Bool.Decides.{nat_tests, Decides-and, Decides-like, Decides-eqb, same_from_decides}
use Rattle.std.proofs.lemmas.Int.{ints}
use Rattle.lists.specs.Rising.{RisesFrom, find, put, remove}
use Rattle.lists.proofs.RisingLaws.{find-put, RisesFrom-put}
use Rattle.schema_model.specs.declared.place.Pair.{Pair}
use Rattle.state_model.specs.Members.{pair_rank, with_pairs, without_pairs}
use Rattle.state_model.specs.Shown.{is_member}
use Rattle.state_model.specs.Values.{same_whole}
use Rattle.state_laws.proofs.SameValues.{whole_self, same_whole_sym, whole_is}
use Rattle.view_members.specs.declared.standing.Standing.{Standing}
use Rattle.view_members.specs.Standings.{itself, pair_of_rank, ranks_of, pairs_of}

mapped_put : {P : Type 0} (f : ℕ → P) (key : P → ℕ) → ((n : ℕ) → key (f n) ≡ n) → (r : ℕ) (rs : List ℕ) → map f (put itself r rs) ≡ put key (f r) (map f rs)
mapped_put f key h r [] = refl
mapped_put f key h r (n ∷ rs) = grind (arith, nat_tests, h n, h r, mapped_put f key h r rs)

mapped_filter : {P : Type 0} (f : ℕ → P) (p : P → Bool) (q : ℕ → Bool) → ((r : ℕ) → p (f r) ≡ q r) → (rs : List ℕ) → filter p (map f rs) ≡ map f (filter q rs)
mapped_filter f p q h [] = refl
mapped_filter f p q h (r ∷ rs) = grind (arith, nat_tests, h r, mapped_filter f p q h rs)

-- the rank of a rank's pair is the rank
pub rank_again : (r : ℕ) → pair_rank (pair_of_rank r) ≡ r
rank_again r = omega (arith, ints)

whole_decides : (a b : ℤ) → Decides (same_whole a b) (a ≡ b)
whole_decides a b = (whole_is a b, λ e. rw e (whole_self b))

-- a pair is that of a rank
ranked : (who r : ℕ) (tag : ℤ) → FitsSigned w16 tag → (r / 65536 ≡ who) × (pos (r % 65536) -ℤ pos 32768 ≡ tag) → r ≡ 65536 * who + nat_abs (tag +ℤ pos 32768)
ranked who r tag f (a, b) = omega (arith, ints)

row_again : (who r : ℕ) (tag : ℤ) → FitsSigned w16 tag → r ≡ 65536 * who + nat_abs (tag +ℤ pos 32768) → r / 65536 ≡ who
row_again who r tag f h = omega (arith, ints)

tag_again : (who r : ℕ) (tag : ℤ) → FitsSigned w16 tag → r ≡ 65536 * who + nat_abs (tag +ℤ pos 32768) → pos (r % 65536) -ℤ pos 32768 ≡ tag
tag_again who r tag f h = omega (arith, ints)

-- two pairs have one rank where their rows and tags are the same
pub same_rank : (r who : ℕ) (tag : ℤ) → FitsSigned w16 tag → ((pair_of_rank r).who == who && same_whole (pair_of_rank r).tag tag) ≡ (r == 65536 * who + nat_abs (tag +ℤ pos 32768))
same_rank r who tag f =
    let both = Decides-and (r / 65536 == who) (same_whole (pos (r % 65536) -ℤ pos 32768) tag) (Decides-eqb (r / 65536) who) (whole_decides (pos (r % 65536) -ℤ pos 32768) tag) in
    let one = Decides-like (r / 65536 == who && same_whole (pos (r % 65536) -ℤ pos 32768) tag) (ranked who r tag f) (λ h. (row_again who r tag f h, tag_again who r tag f h)) both in
    same_from_decides _ _ one (Decides-eqb r (65536 * who + nat_abs (tag +ℤ pos 32768)))

-- the pair of a pair's rank is the pair
pub pair_again : (p : Pair) → FitsSigned w16 p.tag → pair_of_rank (pair_rank p) ≡ p
pair_again p f = ap₂ (λ (n : ℕ) (z : ℤ). let q : Pair = record { who = n; tag = z } in q) (row_again p.who (pair_rank p) p.tag f refl) (tag_again p.who (pair_rank p) p.tag f refl)

small_fits : (z : ℤ) → negsuc 32767 ≤ℤ z → z ≤ℤ pos 32767 → FitsSigned w16 z
small_fits (pos n) a b = record { sfits = omega (arith, ints) }
small_fits (negsuc n) a b = record { sfits = omega (arith, ints) }

-- the tags of ranks are tags
pub tag_fits : (r : ℕ) → FitsSigned w16 (pair_of_rank r).tag
tag_fits r = small_fits (pos (r % 65536) -ℤ pos 32768) (omega (arith, ints)) (omega (arith, ints))

-- lists of pairs that rise by their ranks
pub pairs_rise : (low : ℕ) (rs : List ℕ) → RisesFrom itself low rs → RisesFrom pair_rank low (map pair_of_rank rs)
pairs_rise low [] r = tt
pairs_rise low (n ∷ rs) r = rw (rank_again n) (r.0, pairs_rise (suc n) rs r.1)

pub pairs-put : (r : ℕ) (rs : List ℕ) → map pair_of_rank (put itself r rs) ≡ put pair_rank (pair_of_rank r) (map pair_of_rank rs)
pairs-put r rs = mapped_put pair_of_rank pair_rank rank_again r rs

pub pairs-filter : (p : Pair → Bool) (q : ℕ → Bool) (rs : List ℕ) → ((r : ℕ) → p (pair_of_rank r) ≡ q r) → filter p (map pair_of_rank rs) ≡ map pair_of_rank (filter q rs)
pairs-filter p q rs h = mapped_filter pair_of_rank p q h rs

-- a pair is a member where its rank is among the ranks
pub member_ranked : (rs : List ℕ) (who : ℕ) (tag : ℤ) → FitsSigned w16 tag → is_member (map pair_of_rank rs) who tag ≡ is_some (find itself (65536 * who + nat_abs (tag +ℤ pos 32768)) rs)
member_ranked [] who tag f = refl
member_ranked (r ∷ rs) who tag f = grind (arith, nat_tests, same_rank r who tag f, member_ranked rs who tag f)

member_one : (p : Pair) (r : ℕ) → FitsSigned w16 p.tag → is_member (p ∷ []) (pair_of_rank r).who (pair_of_rank r).tag ≡ (r == pair_rank p)
member_one p r f = grind (arith, nat_tests, same_rank r p.who p.tag f, same_whole_sym p.tag (pos (r % 65536) -ℤ pos 32768))

-- pairs without one
pub pairs-remove : (p : Pair) (rs : List ℕ) → FitsSigned w16 p.tag → without_pairs (map pair_of_rank rs) (p ∷ []) ≡ map pair_of_rank (remove itself (pair_rank p) rs)
pairs-remove p rs f =
    pairs-filter (λ (q : Pair). not (is_member (p ∷ []) q.who q.tag)) (λ n. not (n == pair_rank p)) rs
    (λ r. ap not (member_one p r f))

-- taking pairs out one by one
pub without_more : (p : Pair) (ps xs : List Pair) → without_pairs xs (p ∷ ps) ≡ without_pairs (without_pairs xs (p ∷ [])) ps
without_more p ps [] = refl
without_more p ps (x ∷ xs) = grind (arith, nat_tests, without_more p ps xs)

-- taking out nothing
pub without_nothing : (xs : List Pair) → without_pairs xs [] ≡ xs
without_nothing [] = refl
without_nothing (x ∷ xs) = ap (λ l. x ∷ l) (without_nothing xs)

-- pairs with pairs, by their ranks
abbrev pub with_ranks : List ℕ → List ℕ → List ℕ
with_ranks rs [] = rs
with_ranks rs (n ∷ ns) = with_ranks (put itself n rs) ns

pub with_mapped : (rs ns : List ℕ) → with_pairs (map pair_of_rank rs) (map pair_of_rank ns) ≡ map pair_of_rank (with_ranks rs ns)
with_mapped rs [] = refl
with_mapped rs (n ∷ ns) = ap (λ xs. with_pairs xs (map pair_of_rank ns)) (sym (pairs-put n rs)) ∙ with_mapped (put itself n rs) ns

pub with_rise : (rs ns : List ℕ) → RisesFrom itself 0 rs → RisesFrom itself 0 (with_ranks rs ns)
with_rise rs [] r = r
with_rise rs (n ∷ ns) r = with_rise (put itself n rs) ns (RisesFrom-put itself 0 n rs r (omega arith))

pub find-with : (rs ns : List ℕ) (k : ℕ) → is_some (find itself k (with_ranks rs ns)) ≡ (is_some (find itself k rs) || is_some (find itself k ns))
find-with rs [] k = grind (arith, nat_tests)
find-with rs (n ∷ ns) k = grind (arith, nat_tests, find-with (put itself n rs) ns k, find-put itself n rs k)

-- pairs of a row, by their ranks
pub row-filter : (who : ℕ) (rs : List ℕ) → filter (λ (p : Pair). not (p.who == who)) (map pair_of_rank rs) ≡ map pair_of_rank (filter (λ r. not (r / 65536 == who)) rs)
row-filter who rs = pairs-filter (λ (p : Pair). not (p.who == who)) (λ r. not (r / 65536 == who)) rs (λ r. refl)

-- one pair less among the ranks that pass
pub pairs_without : (t : Standing → Bool) (es fs : List (ℕ × Standing)) (p : Pair) → FitsSigned w16 p.tag → ranks_of t fs ≡ remove itself (pair_rank p) (ranks_of t es) → pairs_of t fs ≡ without_pairs (pairs_of t es) (p ∷ [])
pairs_without t es fs p f h = ap (map pair_of_rank) h ∙ sym (pairs-remove p (ranks_of t es) f)

-- one pair more
pub pairs_with : (t : Standing → Bool) (es fs : List (ℕ × Standing)) (p : Pair) → FitsSigned w16 p.tag → ranks_of t fs ≡ put itself (pair_rank p) (ranks_of t es) → pairs_of t fs ≡ with_pairs (pairs_of t es) (p ∷ [])
pairs_with t es fs p f h = ap (map pair_of_rank) h ∙ pairs-put (pair_rank p) (ranks_of t es) ∙ ap (λ (q : Pair). put pair_rank q (pairs_of t es)) (pair_again p f)
