-- How many entries more there are with room for pairs.
use Rattle.std.proofs.Common.{◌≡◌, ℕ, ◌+◌, ◌-◌, ◌≤◌, Bool, true, false, cond, not, ◌&&◌, ◌==◌, nat_lt, List, [], ◌∷◌, length, Option, Some, None, is_some, is_none, refl, sym, ap, ◌∙◌, arith}
use Rattle.std.proofs.lemmas.Bool.Decides.{nat_tests}
use Rattle.lists.specs.Rising.{RisesFrom, find, put}
use Rattle.lists.proofs.RisingLaws.{find-put}
use Rattle.schema_model.specs.declared.place.Pair.{Pair}
use Rattle.state_model.specs.Members.{pair_rank}
use Rattle.view_members.specs.declared.standing.Standing.{Standing}
use Rattle.view_members.specs.declared.standing.Standing.TheVariants.{Spare}
use Rattle.view_members.specs.Standings.{entry_rank, standing_of, is_ranked, missing, with_spare, with_spares}
use Rattle.view_members.proofs.SpareLaws.{spare_rise, standing_found, spare_new, spare_adds}

none_found : (k : ℕ) (es : List (ℕ × Standing)) → is_none (standing_of k es) ≡ not (is_some (find entry_rank k es))
none_found k es = none_not (standing_of k es) ∙ ap not (standing_found k es)
  where
    none_not : (o : Option Standing) → is_none o ≡ not (is_some o)
    none_not None = refl
    none_not (Some s) = refl

-- with room for the pair of a rank it is the only one more that has an entry
none_put : (r k : ℕ) (es : List (ℕ × Standing)) → is_none (standing_of k (put entry_rank (r, Spare) es)) ≡ (not (r == k) && is_none (standing_of k es))
none_put r k es =
    let now = ap is_some (find-put entry_rank (r, Spare) es k) in
    grind (arith, nat_tests, none_found k es, none_found k (put entry_rank (r, Spare) es), now)

-- room for one pair is wanted once, by the last of its equals
missing_once : (ps : List Pair) (r : ℕ) (es : List (ℕ × Standing)) → is_none (standing_of r es) ≡ true → missing ps es ≡ cond (is_ranked ps r) 1 0 + missing ps (put entry_rank (r, Spare) es)
missing_once [] r es h = refl
missing_once (p ∷ ps) r es h = grind (arith, nat_tests, missing_once ps r es h, none_put r (pair_rank p) es)

-- that many entries more there are
pub missing_more : (ps : List Pair) (es : List (ℕ × Standing)) → RisesFrom entry_rank 0 es → length (with_spares ps es) ≡ length es + missing ps es
missing_more [] es rises = omega arith
missing_more (p ∷ ps) es rises =
    let r = pair_rank p in
    let rest = missing_more ps (with_spare r es) (spare_rise r es rises) in
    by_test (is_some (standing_of r es)) refl rest
  where
    by_test : (b : Bool) → is_some (standing_of (pair_rank p) es) ≡ b → length (with_spares ps (with_spare (pair_rank p) es)) ≡ length (with_spare (pair_rank p) es) + missing ps (with_spare (pair_rank p) es) →
        length (with_spares ps (with_spare (pair_rank p) es)) ≡ length es + missing (p ∷ ps) es
    by_test true is rest = grind (arith, nat_tests, rest, standing_found (pair_rank p) es, none_found (pair_rank p) es)
    by_test false is rest =
        let new = spare_new (pair_rank p) es is in
        let more = spare_adds (pair_rank p) es rises is in
        let none : is_none (standing_of (pair_rank p) es) ≡ true = none_found (pair_rank p) es ∙ ap not (sym (standing_found (pair_rank p) es) ∙ is) in
        let once = missing_once ps (pair_rank p) es none in
        let same = ap (missing ps) new in
        grind (arith, nat_tests, rest, more, none, once, same)

-- so they tell whether pairs are too many
pub too_many : (ps : List Pair) (es : List (ℕ × Standing)) → RisesFrom entry_rank 0 es → length es ≤ 65536 → nat_lt (65536 - length es) (missing ps es) ≡ nat_lt 65536 (length (with_spares ps es))
too_many ps es rises few = compared (missing ps es) (length es) (length (with_spares ps es)) few (missing_more ps es rises)
  where
    compared : (w n m : ℕ) → n ≤ 65536 → m ≡ n + w → nat_lt (65536 - n) w ≡ nat_lt 65536 m
    compared w n m few is = grind (arith, nat_tests)
