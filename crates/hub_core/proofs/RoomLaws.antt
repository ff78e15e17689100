-- Rooms found by their ids: what adding one and taking one out makes of it.
use Rattle.std.proofs.Common.{◌≡◌, ◌==◌, ℕ, suc, ◌<◌, ◌++◌, Bool, true, false, List, [], ◌∷◌, Option, Some, None, cond, refl, sym, ap, ap₂, subst, ◌∙◌, arith}
use Rattle.std.specs.List.{find}
use Rattle.std.specs.Option.{option_map}
use Rattle.std.specs.BTreeMap.{is_at}
use Rattle.std.specs.Map.{lookup}
use Rattle.std.specs.Prelude.{IfSome, IsSome, Result, Ok, Err, OnOk, is_ok, if◌then◌else◌}
use Rattle.std.specs.Ordering.{nat_cmp}
use Rattle.std.specs.Cmp.Lexicographic.{slice_cmp}
use Rattle.std.specs.Str.{bytes_eq}
use Rattle.std.proofs.lemmas.Bool.Decides.{nat_tests}
use Rattle.std.proofs.lemmas.Map.Text.{is_eq-slice_cmp}
use Rattle.std.proofs.lemmas.Slice.Eq.{bytes_eq-Decides}
use Rattle.lists.specs.Rising.{IsAbove, RisesFrom, find as find_by, put, remove}
use Rattle.lists.proofs.RisingLaws.{IsAbove-append, IsAbove-filter, IsAbove-higher, IsAbove-put, find_below, find_key, remove_missing}
use Rattle.lists.proofs.SameBytes.{bytes_eq_self, same_bytes}
use Rattle.hub_core.specs.declared.entry.RoomEntry.{RoomEntry}
use Rattle.hub_core.specs.declared.slots.RoomRef.{RoomRef}
use Rattle.hub_core.specs.RoomEntry.{HaveOwnIds, AreIds, AreRooms, IsExchanged, has_id, ref_serial, serial_of}
use Rattle.hub_core.proofs.EachLaws.{found_number}

-- a room that is added at the end is found there
pub find_last : {R : Type 0} (s : RoomEntry R) (ss : List (RoomEntry R)) (id : List ℕ) → find (has_id s.id) ss ≡ None → find (has_id id) (ss ++ s ∷ []) ≡ cond (bytes_eq s.id id) (Some s) (find (has_id id) ss)
find_last s [] id new = refl
find_last s (x ∷ ss) id new = grind (arith, bytes_eq-Decides, new, find_last s ss id)

pub HaveOwnIds-last : {R : Type 0} (s : RoomEntry R) (ss : List (RoomEntry R)) → find (has_id s.id) ss ≡ None → HaveOwnIds ss → HaveOwnIds (ss ++ s ∷ [])
HaveOwnIds-last s [] new own = (refl, tt)
HaveOwnIds-last s (x ∷ ss) new own = grind (arith, bytes_eq-Decides, new, own.0, own.1, HaveOwnIds-last s ss, find_last s ss x.id)

-- the room of a number is found by its id alone
found_id : {R : Type 0} (n : ℕ) (s : RoomEntry R) (ss : List (RoomEntry R)) → find_by serial_of n ss ≡ Some s → find (has_id s.id) ss ≡ None → ⊥
found_id n s [] found none = absurd cc
found_id n s (x ∷ ss) found none = grind (arith, nat_tests, bytes_eq-Decides, found, none, found_id n s ss)

-- and that is the one
pub found_by_id : {R : Type 0} (n : ℕ) (s : RoomEntry R) (ss : List (RoomEntry R)) → HaveOwnIds ss → find_by serial_of n ss ≡ Some s → find (has_id s.id) ss ≡ Some s
found_by_id n s [] own found = absurd cc
found_by_id {R = R} n s (x ∷ ss) own found = by_first (x.serial == n) found (λ rest. found_by_id n s ss own.1 rest)
  where
    by_id : find (has_id s.id) ss ≡ Some s → (b : Bool) → bytes_eq x.id s.id ≡ b → cond b (Some x) (find (has_id s.id) ss) ≡ Some s
    by_id rest true here = (let none : find (has_id s.id) ss ≡ None = subst (λ k. find (has_id k) ss ≡ None) (same_bytes x.id s.id here) own.0 in absurd cc)
    by_id rest false other = rest

    by_first : (b : Bool) → cond b (Some x) (find_by serial_of n ss) ≡ Some s → (find_by serial_of n ss ≡ Some s → find (has_id s.id) ss ≡ Some s) → find (has_id s.id) (x ∷ ss) ≡ Some s
    by_first true is rest =
        let one : x ≡ s = cc in
        subst (λ y. find (has_id y.id) (x ∷ ss) ≡ Some y) one (ap (λ b. cond b (Some x) (find (has_id x.id) ss)) (bytes_eq_self x.id))
    by_first false at rest = by_id (rest at) (bytes_eq x.id s.id) refl

-- a room that is found by its id is that of its number
pub found_by_number : {R : Type 0} (n : ℕ) (id : List ℕ) (ss : List (RoomEntry R)) → RisesFrom serial_of 0 ss → Some n ≡ option_map serial_of (find (has_id id) ss) → find_by serial_of n ss ≡ find (has_id id) ss
found_by_number {R = R} n id ss rises h = by_found (find (has_id id) ss) refl h
  where
    by_found : (o : Option (RoomEntry R)) → find (has_id id) ss ≡ o → Some n ≡ option_map serial_of o → find_by serial_of n ss ≡ o
    by_found None is same = absurd cc
    by_found (Some s) is same = (let number : s.serial ≡ n = cc in subst (λ k. find_by serial_of k ss ≡ Some s) number (found_number (has_id id) 0 ss s rises is))

none_without : {R : Type 0} (n : ℕ) (id : List ℕ) (ss : List (RoomEntry R)) → find (has_id id) ss ≡ None → find (has_id id) (remove serial_of n ss) ≡ None
none_without n id [] none = refl
none_without n id (x ∷ ss) none = grind (arith, none, none_without n id ss)

-- what is left without the room of a number
pub find_without : {R : Type 0} (low n : ℕ) (s : RoomEntry R) (ss : List (RoomEntry R)) (id : List ℕ) → RisesFrom serial_of low ss → HaveOwnIds ss → find_by serial_of n ss ≡ Some s →
    find (has_id id) (remove serial_of n ss) ≡ cond (bytes_eq s.id id) None (find (has_id id) ss)
find_without low n s [] id rises own found = absurd cc
find_without low n s (x ∷ ss) id rises own found =
    grind (
      arith,
      nat_tests,
      bytes_eq-Decides,
      found,
      own.0,
      remove_missing serial_of n ss,
      find_below serial_of (suc x.serial) ss n rises.1,
      find_without (suc x.serial) n s ss id rises.1 own.1,
      found_id n s ss,
    )

pub HaveOwnIds-without : {R : Type 0} (n : ℕ) (ss : List (RoomEntry R)) → HaveOwnIds ss → HaveOwnIds (remove serial_of n ss)
HaveOwnIds-without n [] own = tt
HaveOwnIds-without n (x ∷ ss) own = grind (arith, own.0, HaveOwnIds-without n ss own.1, none_without n x.id ss)

-- ---- their numbers

-- keys, with one set or taken out
abbrev pub Renamed : {X : Type 0} → List ℕ → Option X → List (List ℕ × X) → List (List ℕ × X) → Type 0
Renamed id n es fs = (q : List ℕ) → lookup (is_at (slice_cmp nat_cmp q)) fs ≡ cond (is_at (slice_cmp nat_cmp id) q) n (lookup (is_at (slice_cmp nat_cmp q)) es)

by_test : {A B : Type 0} (f : A → B) (b : Bool) (x : Option A) (y : Option A) → cond b (option_map f x) (option_map f y) ≡ option_map f (cond b x y)
by_test f true x y = refl
by_test f false x y = refl

-- the number that an id leads to behind it
number_behind : (id : List ℕ) (o : Option RoomRef) (es fs : List (List ℕ × RoomRef)) → Renamed id o es fs → (q : List ℕ)
    → option_map ref_serial (lookup (is_at (slice_cmp nat_cmp q)) fs) ≡ cond (bytes_eq id q) (option_map ref_serial o) (option_map ref_serial (lookup (is_at (slice_cmp nat_cmp q)) es))
number_behind id o es fs step q =
    ap (option_map ref_serial) (step q ∙ ap (λ b. cond b o (lookup (is_at (slice_cmp nat_cmp q)) es)) (is_eq-slice_cmp id q)) ∙ sym (by_test ref_serial (bytes_eq id q) o (lookup (is_at (slice_cmp nat_cmp q)) es))

AreIds-last : {R : Type 0} (s : RoomEntry R) (at : RoomRef) (ss : List (RoomEntry R)) (es fs : List (List ℕ × RoomRef)) → at.serial ≡ s.serial → find (has_id s.id) ss ≡ None → AreIds ss es → Renamed s.id (Some at) es fs → AreIds (ss ++ s ∷ []) fs
AreIds-last s at ss es fs number new ids step q =
    number_behind s.id (Some at) es fs step q
    ∙ ap₂ (λ n o. cond (bytes_eq s.id q) (Some n) o) number (ids q)
    ∙ by_test serial_of (bytes_eq s.id q) (Some s) (find (has_id q) ss)
    ∙ sym (ap (option_map serial_of) (find_last s ss q new))

AreIds-without : {R : Type 0} (n : ℕ) (s : RoomEntry R) (ss : List (RoomEntry R)) (es fs : List (List ℕ × RoomRef)) → RisesFrom serial_of 0 ss → HaveOwnIds ss → find_by serial_of n ss ≡ Some s → AreIds ss es
    → Renamed s.id None es fs → AreIds (remove serial_of n ss) fs
AreIds-without n s ss es fs rises own found ids step q =
    number_behind s.id None es fs step q
    ∙ ap (cond (bytes_eq s.id q) None) (ids q)
    ∙ by_test serial_of (bytes_eq s.id q) None (find (has_id q) ss)
    ∙ sym (ap (option_map serial_of) (find_without 0 n s ss q rises own found))

-- ---- a room in the place of the one of its number

-- it is found by the same id
pub same_found : {R : Type 0} (low : ℕ) (s t : RoomEntry R) (ss : List (RoomEntry R)) (id : List ℕ) → RisesFrom serial_of low ss → find_by serial_of t.serial ss ≡ Some s → s.id ≡ t.id
    → option_map serial_of (find (has_id id) (put serial_of t ss)) ≡ option_map serial_of (find (has_id id) ss)
same_found low s t [] id rises found same = absurd cc
same_found low s t (x ∷ ss) id rises found same =
    grind (arith, nat_tests, bytes_eq-Decides, found, same, find_below serial_of (suc x.serial) ss t.serial rises.1, same_found (suc x.serial) s t ss id rises.1)

none_same : {R : Type 0} (a b : Option (RoomEntry R)) → option_map serial_of a ≡ option_map serial_of b → b ≡ None → a ≡ None
none_same None b same none = refl
none_same (Some x) b same none = absurd (let none_there : option_map serial_of b ≡ None = ap (option_map serial_of) none in cc)

pub HaveOwnIds-put : {R : Type 0} (low : ℕ) (s t : RoomEntry R) (ss : List (RoomEntry R)) → RisesFrom serial_of low ss → HaveOwnIds ss → find_by serial_of t.serial ss ≡ Some s → s.id ≡ t.id → HaveOwnIds (put serial_of t ss)
HaveOwnIds-put low s t [] rises own found same = absurd cc
HaveOwnIds-put low s t (x ∷ ss) rises own found same =
    let others = λ (rest : find_by serial_of t.serial ss ≡ Some s). none_same (find (has_id x.id) (put serial_of t ss)) (find (has_id x.id) ss) (same_found (suc x.serial) s t ss x.id rises.1 rest same) own.0 in
    grind (arith, nat_tests, found, same, own.0, own.1, find_below serial_of (suc x.serial) ss t.serial rises.1, others, HaveOwnIds-put (suc x.serial) s t ss rises.1 own.1)

AreIds-put : {R : Type 0} (s t : RoomEntry R) (ss : List (RoomEntry R)) (es : List (List ℕ × RoomRef)) → RisesFrom serial_of 0 ss → find_by serial_of t.serial ss ≡ Some s → s.id ≡ t.id → AreIds ss es → AreIds (put serial_of t ss) es
AreIds-put s t ss es rises found same ids q = ids q ∙ sym (same_found 0 s t ss q rises found same)

-- a room that is there is below what all are below
pub find_high : {X : Type 0} (key : X → ℕ) (high k : ℕ) (x : X) (xs : List X) → IsAbove key high xs → find_by key k xs ≡ Some x → key x < high
find_high key high k x [] below found = absurd cc
find_high key high k x (y ∷ xs) below found = grind (arith, nat_tests, below.0, found, find_high key high k x xs below.1)

-- ---- all that is kept of them

-- a room is added
pub rooms_added : {R : Type 0} (s : RoomEntry R) (at : RoomRef) (ss : List (RoomEntry R)) (es fs : List (List ℕ × RoomRef)) (next : ℕ) → AreRooms ss es next → s.serial ≡ next
    → at.serial ≡ s.serial → find (has_id s.id) ss ≡ None → Renamed s.id (Some at) es fs
    → AreRooms (ss ++ s ∷ []) fs (suc next)
rooms_added s at ss es fs next are last number new step = record {
  below = IsAbove-append serial_of (suc next) ss (s ∷ []) (IsAbove-higher serial_of next (suc next) ss are.below (grind arith)) (grind (arith, last), tt);
  own_ids = HaveOwnIds-last s ss new are.own_ids;
  found = AreIds-last s at ss es fs number new are.found step;
}

-- it is taken out again
pub added_removed : {R : Type 0} (s : RoomEntry R) (ss : List (RoomEntry R)) → IsAbove serial_of s.serial ss → remove serial_of s.serial (ss ++ s ∷ []) ≡ ss
added_removed s [] above = grind (arith, nat_tests)
added_removed s (x ∷ ss) above = (let low = above.0 in let other : (x.serial == s.serial) ≡ false = grind (arith, nat_tests, low) in rw other (ap (λ l. x ∷ l) (added_removed s ss above.1)))

-- one is taken out
pub rooms_removed : {R : Type 0} (n : ℕ) (s : RoomEntry R) (ss : List (RoomEntry R)) (es fs : List (List ℕ × RoomRef)) (next : ℕ) → AreRooms ss es next → RisesFrom serial_of 0 ss → find_by serial_of n ss ≡ Some s → Renamed s.id None es fs
    → AreRooms (remove serial_of n ss) fs next
rooms_removed n s ss es fs next are rises found step = record {
  below = IsAbove-filter serial_of next _ ss are.below;
  own_ids = HaveOwnIds-without n ss are.own_ids;
  found = AreIds-without n s ss es fs rises are.own_ids found are.found step;
}

-- one is exchanged for one of its number and id
pub rooms_put : {R : Type 0} (s t : RoomEntry R) (ss : List (RoomEntry R)) (es : List (List ℕ × RoomRef)) (next : ℕ) → AreRooms ss es next → RisesFrom serial_of 0 ss
    → find_by serial_of t.serial ss ≡ Some s → s.id ≡ t.id → AreRooms (put serial_of t ss) es next
rooms_put s t ss es next are rises found same = record {
  below = IsAbove-put serial_of next t ss are.below (subst (λ k. k < next) (find_key serial_of t.serial ss s found) (find_high serial_of next t.serial s ss are.below found));
  own_ids = HaveOwnIds-put 0 s t ss rises are.own_ids found same;
  found = AreIds-put s t ss es rises found same are.found;
}

-- one is exchanged for itself
pub rooms_kept : {R : Type 0} (n : ℕ) (ss new : List (RoomEntry R)) (es : List (List ℕ × RoomRef)) (next : ℕ) → AreRooms ss es next → RisesFrom serial_of 0 ss → IsSome (find_by serial_of n ss)
    → IfSome (find_by serial_of n ss) (λ s. IsExchanged s ss new)
    → AreRooms new es next
rooms_kept {R = R} n ss new es next are rises there h = by_found (find_by serial_of n ss) refl there h
  where
    by_found : (o : Option (RoomEntry R)) → find_by serial_of n ss ≡ o → IsSome o → IfSome o (λ s. IsExchanged s ss new) → AreRooms new es next
    by_found None is some e = absurd cc
    by_found (Some s) is some e =
        let number : e.now.serial ≡ n = ap serial_of e.same ∙ find_key serial_of n ss s is in
        let found : find_by serial_of e.now.serial ss ≡ Some s = subst (λ k. find_by serial_of k ss ≡ Some s) (sym number) is in
        subst (λ ts. AreRooms ts es next) (sym e.rooms) (rooms_put s e.now ss es next are rises found (sym (ap (λ t. t.id) e.same)))

-- ---- of results

pub both_ok : {A E : Type 0} (P Q S : Type 0) (r : Result A E) → (P → Q → S) → OnOk r P → OnOk r Q → OnOk r S
both_ok P Q S (Ok a) f p q = f p q
both_ok P Q S (Err e) f p q = tt

pub three_ok : {A E : Type 0} (P Q T S : Type 0) (r : Result A E) → (P → Q → T → S) → OnOk r P → OnOk r Q → OnOk r T → OnOk r S
three_ok P Q T S (Ok a) f p q t = f p q t
three_ok P Q T S (Err e) f p q t = tt

pub one_ok : {A E : Type 0} (P Q : Type 0) (r : Result A E) → (P → Q) → OnOk r P → OnOk r Q
one_ok P Q (Ok a) f p = f p
one_ok P Q (Err e) f p = tt

-- a list that has something more where it is Ok
pub pushed_ok : {A E X : Type 0} (r : Result A E) (new old more : List X) → new ≡ (if is_ok r then old ++ more else old) → OnOk r (new ≡ old ++ more)
pushed_ok (Ok a) new old more h = h
pushed_ok (Err e) new old more h = tt
