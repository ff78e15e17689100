-- The members of a view as keys of a set: the same pairs.
use Rattle.std.proofs.Common.{◌≡◌, ℕ, ◌+◌, ◌<◌, Bool, true, cond, ◌&&◌, ◌||◌, ◌==◌, List, [], ◌∷◌, length, get_or, take, ℤ, pos, negsuc, nat_cmp, Ordering, refl, ap, ◌∙◌, arith}
use Rattle.std.specs.Ordering.{int_cmp, ordering_then, is_eq}
use Rattle.std.specs.BTreeMap.{is_at}
use Rattle.std.specs.List.{list_any}
use Rattle.std.proofs.lemmas.Bool.Decides.{nat_tests}
use Rattle.std.proofs.lemmas.List.Folds.{list_any_more}
use Rattle.schema_model.specs.declared.place.Pair.{Pair}
use Rattle.state_model.specs.Values.{same_whole}
use Rattle.state_model.specs.Shown.{is_member}
use Rattle.state_laws.proofs.SameValues.{same_whole_sym}
use Rattle.plain_rows.specs.Members.{pairs_of}

-- the order of the keys
abbrev pub pair_cmp : ℕ × ℤ → ℕ × ℤ → Ordering
pair_cmp x y = ordering_then (nat_cmp x.0 y.0) (int_cmp x.1 y.1)

-- a key is there
abbrev pub has_key : List (ℕ × ℤ) → ℕ → ℤ → Bool
has_key ks who tag = list_any (is_at (pair_cmp (who, tag))) ks

same_tag : (a b : ℤ) → is_eq (int_cmp b a) ≡ same_whole a b
same_tag (pos a) (pos b) = grind (arith, nat_tests)
same_tag (pos a) (negsuc b) = refl
same_tag (negsuc a) (pos b) = refl
same_tag (negsuc a) (negsuc b) = grind (arith, nat_tests)

at_both : (a b : ℕ) (o : Ordering) → is_eq (ordering_then (nat_cmp a b) o) ≡ (b == a && is_eq o)
at_both a b o = grind (arith, nat_tests)

-- a key is at a pair exactly where both parts are the same
at_pair : (who : ℕ) (tag : ℤ) (k : ℕ × ℤ) → is_at (pair_cmp (who, tag)) k ≡ (k.0 == who && same_whole k.1 tag)
at_pair who tag k = at_both who k.0 (int_cmp tag k.1) ∙ ap (λ b. k.0 == who && b) (same_tag k.1 tag)

-- the pairs of keys have the members that the keys have
pub keys_members : (ks : List (ℕ × ℤ)) (who : ℕ) (tag : ℤ) → has_key ks who tag ≡ is_member (pairs_of ks) who tag
keys_members [] who tag = refl
keys_members (k ∷ ks) who tag = grind (arith, nat_tests, at_pair who tag k, keys_members ks who tag)

-- one more pair goes into the set
pub one_more_key : (old now : List (ℕ × ℤ)) (pairs : List Pair) (i : ℕ) (p : Pair) (who : ℕ) (tag : ℤ) →
    i < length pairs → p ≡ get_or pairs i p → has_key now who tag ≡ cond (is_at (pair_cmp (p.who, p.tag)) (who, tag)) true (has_key old who tag) → has_key old who tag ≡ is_member (take i pairs) who tag →
    has_key now who tag ≡ is_member (take (i + 1) pairs) who tag
one_more_key old now pairs i p who tag l at e h =
    let more : is_member (take (i + 1) pairs) who tag ≡ (is_member (take i pairs) who tag || (p.who == who && same_whole p.tag tag)) = rw (← at) at (list_any_more (λ (p : Pair). (p.who == who) && same_whole p.tag tag) pairs i p l) in
    let this : is_at (pair_cmp (p.who, p.tag)) (who, tag) ≡ (who == p.who && same_whole tag p.tag) = at_pair p.who p.tag (who, tag) in
    grind (arith, nat_tests, same_whole_sym tag p.tag)
