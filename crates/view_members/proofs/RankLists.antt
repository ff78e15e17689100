-- The ranks of the entries that pass a test: what edits of the entries make of them.
use Rattle.std.proofs.Common.{◌≡◌, ℕ, zero, suc, ◌+◌, ◌<◌, ◌≤◌, Bool, true, false, cond, ◌||◌, ◌==◌, List, [], ◌∷◌, length, Option, Some, None, is_some, refl, sym, ap, ◌∙◌, arith}
use Rattle.std.specs.List.{slice_get}
use Rattle.std.proofs.lemmas.Bool.Decides.{nat_tests}
use Rattle.lists.specs.Rising.{RisesFrom, IsAbove, find, put, remove}
use Rattle.lists.proofs.RisingLaws.{find-put, find-remove, same_rising, RisesFrom-put, RisesFrom-remove, RisesFrom-lower, length-put}
use Rattle.view_members.specs.declared.standing.Standing.{Standing}
use Rattle.view_members.specs.Standings.{itself, entry_rank, standing_of, ranks_of}

-- the entry of a rank is there and passes
abbrev pub has : (Standing → Bool) → List (ℕ × Standing) → ℕ → Bool
has t [] k = false
has t (e ∷ es) k = cond (e.0 == k) (t e.1) (has t es k)

pub has_below : (t : Standing → Bool) (low : ℕ) (es : List (ℕ × Standing)) (k : ℕ) → RisesFrom entry_rank low es → k < low → has t es k ≡ false
has_below t low [] k r l = refl
has_below t low (e ∷ es) k r l = grind (arith, nat_tests, has_below t (suc e.0) es k r.1)

-- the ranks rise
pub ranks_rise : (t : Standing → Bool) (low : ℕ) (es : List (ℕ × Standing)) → RisesFrom entry_rank low es → RisesFrom itself low (ranks_of t es)
ranks_rise t low [] r = tt
ranks_rise t low (e ∷ es) r = grind (arith, nat_tests, ranks_rise t (suc e.0) es r.1, RisesFrom-lower itself low (suc e.0) (ranks_of t es))

-- a rank is among them where its entry is there and passes
pub find-ranks : (t : Standing → Bool) (low : ℕ) (es : List (ℕ × Standing)) (k : ℕ) → RisesFrom entry_rank low es → find itself k (ranks_of t es) ≡ cond (has t es k) (Some k) None
find-ranks t low [] k r = refl
find-ranks t low (e ∷ es) k r = grind (arith, nat_tests, find-ranks t (suc e.0) es k r.1, has_below t (suc e.0) es k r.1)

-- looking up after edits
pub has-put : (t : Standing → Bool) (r : ℕ) (s : Standing) (es : List (ℕ × Standing)) (k : ℕ) → has t (put entry_rank (r, s) es) k ≡ cond (r == k) (t s) (has t es k)
has-put t r s [] k = refl
has-put t r s (e ∷ es) k = grind (arith, nat_tests, has-put t r s es k)

pub has-remove : (t : Standing → Bool) (r : ℕ) (es : List (ℕ × Standing)) (k : ℕ) → has t (remove entry_rank r es) k ≡ cond (r == k) false (has t es k)
has-remove t r [] k = grind (arith, nat_tests)
has-remove t r (e ∷ es) k = grind (arith, nat_tests, has-remove t r es k)

pub has_some : (t : Standing → Bool) (es : List (ℕ × Standing)) (k : ℕ) (s : Standing) → standing_of k es ≡ Some s → has t es k ≡ t s
has_some t [] k s h = cc
has_some t (e ∷ es) k s h = grind (arith, nat_tests, has_some t es k s)

pub has_none : (t : Standing → Bool) (es : List (ℕ × Standing)) (k : ℕ) → standing_of k es ≡ None → has t es k ≡ false
has_none t [] k h = refl
has_none t (e ∷ es) k h = grind (arith, nat_tests, has_none t es k)

-- ranks that answer every look-up alike
pub same_ranks : (t u : Standing → Bool) (low high : ℕ) (es fs : List (ℕ × Standing)) → RisesFrom entry_rank low es → RisesFrom entry_rank high fs → ((k : ℕ) → has t es k ≡ has u fs k) → ranks_of t es ≡ ranks_of u fs
same_ranks t u low high es fs r s h =
    same_rising itself low high (ranks_of t es) (ranks_of u fs) (ranks_rise t low es r) (ranks_rise u high fs s)
    (λ k. find-ranks t low es k r ∙ ap (λ b. cond b (Some k) None) (h k) ∙ sym (find-ranks u high fs k s))

-- no ranks where no entry passes
pub has_no_ranks : (t : Standing → Bool) (low : ℕ) (es : List (ℕ × Standing)) → RisesFrom entry_rank low es → ranks_of t es ≡ [] → (k : ℕ) → has t es k ≡ false
has_no_ranks t low es r h k =
    let found : find itself k (ranks_of t es) ≡ None = ap (find itself k) h in
    let is = find-ranks t low es k r in
    grind (arith, nat_tests)

-- the entry of a rank is put in and passes, or doesn't pass, or is told as before
pub put_passes : (t : Standing → Bool) (r : ℕ) (s : Standing) (es : List (ℕ × Standing)) → RisesFrom entry_rank 0 es → t s ≡ true → ranks_of t (put entry_rank (r, s) es) ≡ put itself r (ranks_of t es)
put_passes t r s es rises h =
    let up = RisesFrom-put entry_rank 0 (r, s) es rises (omega arith) in
    let same : (k : ℕ) → find itself k (ranks_of t (put entry_rank (r, s) es)) ≡ find itself k (put itself r (ranks_of t es)) =
    λ k. grind (arith, nat_tests, find-ranks t 0 (put entry_rank (r, s) es) k up, has-put t r s es k, find-put itself r (ranks_of t es) k, find-ranks t 0 es k rises) in
    same_rising itself 0 0 _ _ (ranks_rise t 0 _ up) (RisesFrom-put itself 0 r (ranks_of t es) (ranks_rise t 0 es rises) (omega arith)) same

-- without a rank, where its entry no longer passes and all others are as before
pub ranks_without : (t : Standing → Bool) (r : ℕ) (es fs : List (ℕ × Standing)) → RisesFrom entry_rank 0 es → RisesFrom entry_rank 0 fs → ((k : ℕ) → has t fs k ≡ cond (r == k) false (has t es k)) →
    ranks_of t fs ≡ remove itself r (ranks_of t es)
ranks_without t r es fs rises up h =
    let same : (k : ℕ) → find itself k (ranks_of t fs) ≡ find itself k (remove itself r (ranks_of t es)) =
    λ k. grind (arith, nat_tests, find-ranks t 0 fs k up, h k, find-remove itself r (ranks_of t es) k, find-ranks t 0 es k rises) in
    same_rising itself 0 0 _ _ (ranks_rise t 0 fs up) (RisesFrom-remove itself 0 r (ranks_of t es) (ranks_rise t 0 es rises)) same

pub put_fails : (t : Standing → Bool) (r : ℕ) (s : Standing) (es : List (ℕ × Standing)) → RisesFrom entry_rank 0 es → t s ≡ false → ranks_of t (put entry_rank (r, s) es) ≡ remove itself r (ranks_of t es)
put_fails t r s es rises h =
    ranks_without t r es _ rises (RisesFrom-put entry_rank 0 (r, s) es rises (omega arith)) (λ k. grind (arith, nat_tests, has-put t r s es k))

pub remove_ranks : (t : Standing → Bool) (r : ℕ) (es : List (ℕ × Standing)) → RisesFrom entry_rank 0 es → ranks_of t (remove entry_rank r es) ≡ remove itself r (ranks_of t es)
remove_ranks t r es rises = ranks_without t r es _ rises (RisesFrom-remove entry_rank 0 r es rises) (has-remove t r es)

pub put_same : (t : Standing → Bool) (r : ℕ) (s : Standing) (es : List (ℕ × Standing)) → RisesFrom entry_rank 0 es → has t es r ≡ t s → ranks_of t (put entry_rank (r, s) es) ≡ ranks_of t es
put_same t r s es rises h =
    same_ranks t t 0 0 _ es (RisesFrom-put entry_rank 0 (r, s) es rises (omega arith)) rises (λ k. grind (arith, nat_tests, has-put t r s es k))

pub remove_same : (t : Standing → Bool) (r : ℕ) (es : List (ℕ × Standing)) → RisesFrom entry_rank 0 es → has t es r ≡ false → ranks_of t (remove entry_rank r es) ≡ ranks_of t es
remove_same t r es rises h =
    same_ranks t t 0 0 _ es (RisesFrom-remove entry_rank 0 r es rises) rises (λ k. grind (arith, nat_tests, has-remove t r es k))

-- how many there are
pub ranks_within : (t : Standing → Bool) (es : List (ℕ × Standing)) → length (ranks_of t es) ≤ length es
ranks_within t [] = omega arith
ranks_within t (e ∷ es) = grind (arith, nat_tests, ranks_within t es)

pub ranks_fewer : (t : Standing → Bool) (es : List (ℕ × Standing)) (k : ℕ) (s : Standing) → standing_of k es ≡ Some s → t s ≡ false → length (ranks_of t es) < length es
ranks_fewer t [] k s h f = cc
ranks_fewer t (e ∷ es) k s h f = grind (arith, nat_tests, ranks_fewer t es k s, ranks_within t es)

-- ranks of entries are below what entries are
pub ranks_above : (t : Standing → Bool) (high : ℕ) (es : List (ℕ × Standing)) → IsAbove entry_rank high es → IsAbove itself high (ranks_of t es)
ranks_above t high [] a = tt
ranks_above t high (e ∷ es) a = grind (arith, nat_tests, ranks_above t high es a.1, a.0)

-- tests that are told by others
pub has_agrees : (v t u : Standing → Bool) → ((s : Standing) → v s ≡ false → t s ≡ u s) → (es : List (ℕ × Standing)) (k : ℕ) → has v es k ≡ false → has t es k ≡ has u es k
has_agrees v t u same [] k h = refl
has_agrees v t u same (e ∷ es) k h = grind (arith, nat_tests, same e.1, has_agrees v t u same es k)

pub has_either : (t u : Standing → Bool) (es : List (ℕ × Standing)) (k : ℕ) → has t es k ≡ false → has u es k ≡ false → has (λ s. t s || u s) es k ≡ false
has_either t u [] k h i = refl
has_either t u (e ∷ es) k h i = grind (arith, nat_tests, has_either t u es k)

-- one rank more or less in the count
pub length-put_same : (r : ℕ) (s : Standing) (es : List (ℕ × Standing)) → RisesFrom entry_rank 0 es → is_some (find entry_rank r es) ≡ true → length (put entry_rank (r, s) es) ≡ length es
length-put_same r s es rises h = let made = length-put entry_rank 0 (r, s) es rises in grind (arith, nat_tests)

pub put_longer : (r : ℕ) (s : Standing) (es : List (ℕ × Standing)) → RisesFrom entry_rank 0 es → length (put entry_rank (r, s) es) ≤ length es + 1
put_longer r s es rises = let made = length-put entry_rank 0 (r, s) es rises in grind (arith, nat_tests)

-- where an entry is there and its rank isn't among those that pass, there are fewer of these
room_case : (t : Standing → Bool) (es : List (ℕ × Standing)) (k : ℕ) → has t es k ≡ false → (o : Option Standing) → standing_of k es ≡ o → is_some o ≡ true → length (ranks_of t es) < length es
room_case t es k h None is i = cc
room_case t es k h (Some s) is i = ranks_fewer t es k s is (sym (has_some t es k s is) ∙ h)

pub room_left : (t : Standing → Bool) (es : List (ℕ × Standing)) (k : ℕ) → RisesFrom entry_rank 0 es → is_some (standing_of k es) ≡ true → find itself k (ranks_of t es) ≡ None → length (ranks_of t es) < length es
room_left t es k rises h n =
    let told = find-ranks t 0 es k rises in
    room_case t es k (grind (arith, nat_tests)) (standing_of k es) refl h

-- the ranks that pass after a standing is put in
marked_case : (t : Standing → Bool) (r : ℕ) (s : Standing) (es : List (ℕ × Standing)) → RisesFrom entry_rank 0 es → (b : Bool) → t s ≡ b → ranks_of t (put entry_rank (r, s) es) ≡ cond b (put itself r (ranks_of t es)) (remove itself r (ranks_of t es))
marked_case t r s es rises true h = put_passes t r s es rises h
marked_case t r s es rises false h = put_fails t r s es rises h

pub marked : (t : Standing → Bool) (r : ℕ) (s : Standing) (es : List (ℕ × Standing)) → RisesFrom entry_rank 0 es → ranks_of t (put entry_rank (r, s) es) ≡ cond (t s) (put itself r (ranks_of t es)) (remove itself r (ranks_of t es))
marked t r s es rises = marked_case t r s es rises (t s) refl

-- a rank at a place is below what all are
pub below_at : (high : ℕ) (rs : List ℕ) (n r : ℕ) → IsAbove itself high rs → slice_get rs n ≡ Some r → r < high
below_at high [] n r a h = cc
below_at high (x ∷ rs) zero r a h = grind (arith, nat_tests, a.0)
below_at high (x ∷ rs) (suc n) r a h = below_at high rs n r a.1 h
