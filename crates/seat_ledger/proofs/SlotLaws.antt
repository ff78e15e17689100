-- Lists of slots by the place that a search finds.
use Rattle.std.proofs.Common.{◌≡◌, ℕ, zero, suc, ◌+◌, ◌-◌, ◌<◌, ◌≤◌, Bool, true, false, cond, not, ◌&&◌, ◌||◌, ◌==◌, List, [], ◌∷◌, ◌++◌, length, map, take, drop, get_or, refl, sym, ap, ap₂, subst, ◌∙◌, arith, ltb, Some, None}
use Rattle.std.specs.Prelude.{slice_get}
use Rattle.std.specs.List.{insert, remove, prefix_len}
use Rattle.std.specs.List.Sorted.{IsPartitionedBy, IsPartitionPoint}
use Rattle.std.proofs.lemmas.Bool.Decides.{nat_tests}
use Rattle.std.proofs.lemmas.List.Sums.{prefix_len_is}
use Rattle.lists.proofs.Numbers.{one_up}
use Rattle.lists.proofs.Tests.{or_false}
use Rattle.seat_ledger.specs.declared.slot.Slot.{Slot}
use Rattle.seat_ledger.specs.Slots.{IsFree, precedes, AreBehind, IsSorted, is_slot, has_slot, with_slot, without_slot, closed_slot}

-- ---- the order of slots

pub precedes_trans : (a b c : Slot) → precedes a b ≡ true → precedes b c ≡ true → precedes a c ≡ true
precedes_trans a b c h k = grind (arith, nat_tests, h, k)

pub precedes_apart : (a b : Slot) → precedes a b ≡ true → is_slot a.key a.at b ≡ false
precedes_apart a b h = grind (arith, nat_tests, h)

pub precedes_other : (a b : Slot) → precedes a b ≡ false → is_slot a.key a.at b ≡ false → precedes b a ≡ true
precedes_other a b h k = grind (arith, nat_tests, h, k)

pub behind_too : (a b : Slot) (ss : List Slot) → precedes a b ≡ true → AreBehind b ss → AreBehind a ss
behind_too a b [] h k = tt
behind_too a b (s ∷ ss) h k = (precedes_trans a b s h k.0, behind_too a b ss h k.1)

-- a slot before all is none of them
pub none_behind : (a : Slot) (ss : List Slot) → AreBehind a ss → has_slot a.key a.at ss ≡ false
none_behind a [] h = refl
none_behind a (s ∷ ss) h = grind (arith, nat_tests, precedes_apart a s h.0, none_behind a ss h.1)

-- ---- one more

pub has_with : (q p : ℕ) (x : Slot) (ss : List Slot) → has_slot q p (with_slot x ss) ≡ (has_slot q p ss || is_slot q p x)
has_with q p x [] = grind arith
has_with q p x (s ∷ ss) =
    let more = has_with q p x ss in
    let go : (b : Bool) → has_slot q p (cond b (s ∷ with_slot x ss) (x ∷ s ∷ ss)) ≡ (has_slot q p (s ∷ ss) || is_slot q p x)
    = elim [ true ↦ grind (arith, more) | false ↦ grind arith ] in
    go (precedes s x)

pub length_with : (x : Slot) (ss : List Slot) → length (with_slot x ss) ≡ length ss + 1
length_with x [] = omega arith
length_with x (s ∷ ss) =
    let more = length_with x ss in
    let go : (b : Bool) → length (cond b (s ∷ with_slot x ss) (x ∷ s ∷ ss)) ≡ length (s ∷ ss) + 1
    = elim [ true ↦ omega (arith, more) | false ↦ omega arith ] in
    go (precedes s x)

behind_with : (a x : Slot) (ss : List Slot) → precedes a x ≡ true → AreBehind a ss → AreBehind a (with_slot x ss)
behind_with a x [] h k = (h, tt)
behind_with a x (s ∷ ss) h k =
    let go : (b : Bool) → AreBehind a (cond b (s ∷ with_slot x ss) (x ∷ s ∷ ss))
    = elim [ true ↦ (k.0, behind_with a x ss h k.1) | false ↦ (h, k) ] in
    go (precedes s x)

pub sorted_with : (x : Slot) (ss : List Slot) → IsSorted ss → has_slot x.key x.at ss ≡ false → IsSorted (with_slot x ss)
sorted_with x [] k new = (tt, tt)
sorted_with x (s ∷ ss) k new =
    let apart = or_false (is_slot x.key x.at s) (has_slot x.key x.at ss) new in
    let go : (b : Bool) → precedes s x ≡ b → IsSorted (cond b (s ∷ with_slot x ss) (x ∷ s ∷ ss))
    = elim [
      | true ↦ λ e. (behind_with s x ss e k.0, sorted_with x ss k.1 apart.1)
      | false ↦ λ e. (let before : precedes x s ≡ true = grind (arith, nat_tests, e, apart.0) in ((before, behind_too x s ss before k.0), k))
    ] in
    go (precedes s x) refl

pub inserted : (x : Slot) (ss : List Slot) → insert ss (prefix_len (λ s. precedes s x) ss) x ≡ with_slot x ss
inserted x [] = refl
inserted x (s ∷ ss) =
    let k = prefix_len (λ s. precedes s x) ss in
    let go : (b : Bool) → take (cond b (1 + k) 0) (s ∷ ss) ++ x ∷ drop (cond b (1 + k) 0) (s ∷ ss) ≡ cond b (s ∷ with_slot x ss) (x ∷ s ∷ ss)
    = elim [ true ↦ ap (λ m. take m (s ∷ ss) ++ x ∷ drop m (s ∷ ss)) (one_up k) ∙ ap (λ l. s ∷ l) (inserted x ss) | false ↦ refl ] in
    go (precedes s x)

pub place_within : (x : Slot) (ss : List Slot) → prefix_len (λ s. precedes s x) ss ≤ length ss
place_within x [] = omega arith
place_within x (s ∷ ss) = grind (arith, place_within x ss)

-- ---- one less

pub length_without : (x : Slot) (ss : List Slot) → has_slot x.key x.at ss ≡ true → length (without_slot x ss) + 1 ≡ length ss
length_without x [] h = cc
length_without x (s ∷ ss) h =
    let go : (b : Bool) → (b || has_slot x.key x.at ss) ≡ true → length (cond b ss (s ∷ without_slot x ss)) + 1 ≡ length (s ∷ ss)
    = elim [ true ↦ λ e. omega arith | false ↦ λ e. (let more = length_without x ss e in omega (arith, more)) ] in
    go (is_slot x.key x.at s) h

behind_without : (a x : Slot) (ss : List Slot) → AreBehind a ss → AreBehind a (without_slot x ss)
behind_without a x [] k = tt
behind_without a x (s ∷ ss) k =
    let go : (b : Bool) → AreBehind a (cond b ss (s ∷ without_slot x ss)) = elim [ true ↦ k.1 | false ↦ (k.0, behind_without a x ss k.1) ] in
    go (is_slot x.key x.at s)

pub sorted_without : (x : Slot) (ss : List Slot) → IsSorted ss → IsSorted (without_slot x ss)
sorted_without x [] k = tt
sorted_without x (s ∷ ss) k =
    let go : (b : Bool) → IsSorted (cond b ss (s ∷ without_slot x ss)) = elim [ true ↦ k.1 | false ↦ (behind_without s x ss k.0, sorted_without x ss k.1) ] in
    go (is_slot x.key x.at s)

-- a slot that equals one before all isn't among them
same_none : (q p : ℕ) (s : Slot) (ss : List Slot) → AreBehind s ss → is_slot q p s ≡ true → has_slot q p ss ≡ false
same_none q p s ss k e =
    let keys : s.key ≡ q = grind (arith, nat_tests, e) in
    let places : s.at ≡ p = grind (arith, nat_tests, e) in
    subst (λ a. has_slot a p ss ≡ false) keys (subst (λ b. has_slot s.key b ss ≡ false) places (none_behind s ss k))

pub has_without : (q p : ℕ) (x : Slot) (ss : List Slot) → IsSorted ss → has_slot q p (without_slot x ss) ≡ (has_slot q p ss && not (is_slot q p x))
has_without q p x [] k = refl
has_without q p x (s ∷ ss) k =
    let more = has_without q p x ss k.1 in
    let go : (b : Bool) → is_slot x.key x.at s ≡ b → has_slot q p (cond b ss (s ∷ without_slot x ss)) ≡ ((is_slot q p s || has_slot q p ss) && not (is_slot q p x))
    = elim [
      | true ↦ λ e. (let inner : (c : Bool) → is_slot q p s ≡ c → has_slot q p ss ≡ ((c || has_slot q p ss) && not (is_slot q p x)) = elim [
        | true ↦ λ f. (let none = same_none q p s ss k.0 f in let same : is_slot q p x ≡ true = grind (arith, nat_tests, e, f) in grind (arith, none, same))
        | false ↦ λ f. (let other : is_slot q p x ≡ false = grind (arith, nat_tests, e, f) in grind (arith, other))
      ] in inner (is_slot q p s) refl)
      | false ↦ λ e. (let inner : (c : Bool) → is_slot q p s ≡ c → (c || has_slot q p (without_slot x ss)) ≡ ((c || has_slot q p ss) && not (is_slot q p x)) = elim [
        | true ↦ λ f. (let other : is_slot q p x ≡ false = grind (arith, nat_tests, e, f) in grind (arith, other))
        | false ↦ λ f. more
      ] in inner (is_slot q p s) refl)
    ] in
    go (is_slot x.key x.at s) refl

pub taken : (x : Slot) (ss : List Slot) → IsSorted ss → has_slot x.key x.at ss ≡ true → remove ss (prefix_len (λ s. precedes s x) ss) ≡ without_slot x ss
taken x [] k h = cc
taken x (s ∷ ss) k h =
    let rest = prefix_len (λ s. precedes s x) ss in
    let go : (b : Bool) → precedes s x ≡ b → take (cond b (1 + rest) 0) (s ∷ ss) ++ drop (suc (cond b (1 + rest) 0)) (s ∷ ss) ≡ cond (is_slot x.key x.at s) ss (s ∷ without_slot x ss)
    = elim [
      | true ↦ λ e. (let other : is_slot x.key x.at s ≡ false = grind (arith, nat_tests, e) in
          let more = taken x ss k.1 (ap (λ b. b || has_slot x.key x.at ss) (sym other) ∙ h) in
          ap (λ m. take m (s ∷ ss) ++ drop (suc m) (s ∷ ss)) (one_up rest) ∙ (ap (λ l. s ∷ l) more ∙ sym (ap (λ b. cond b ss (s ∷ without_slot x ss)) other)))
      | false ↦ λ e. (let inner : (c : Bool) → is_slot x.key x.at s ≡ c → ss ≡ cond c ss (s ∷ without_slot x ss) = elim [
        | true ↦ λ f. refl
        | false ↦ λ f. (let before : precedes x s ≡ true = precedes_other s x e (grind (arith, nat_tests, f)) in
            let none = none_behind x ss (behind_too x s ss before k.0) in absurd (let no : (let t : Bool = true in t) ≡ false = sym h ∙ (ap (λ b. b || has_slot x.key x.at ss) f ∙ none) in cc))
      ] in inner (is_slot x.key x.at s) refl)
    ] in
    go (precedes s x) refl

pub taken_within : (x : Slot) (ss : List Slot) → IsSorted ss → has_slot x.key x.at ss ≡ true → prefix_len (λ s. precedes s x) ss < length ss
taken_within x [] k h = cc
taken_within x (s ∷ ss) k h =
    let rest = prefix_len (λ s. precedes s x) ss in
    let go : (b : Bool) → precedes s x ≡ b → cond b (1 + rest) 0 < length (s ∷ ss)
    = elim [
      | true ↦ λ e. (let other : is_slot x.key x.at s ≡ false = grind (arith, nat_tests, e) in
          let more = taken_within x ss k.1 (ap (λ b. b || has_slot x.key x.at ss) (sym other) ∙ h) in omega (arith, more))
      | false ↦ λ e. omega arith
    ] in
    go (precedes s x) refl

-- ---- one that goes

pub length_closed : (at : ℕ) (ss : List Slot) → length (map (closed_slot at) ss) ≡ length ss
length_closed at [] = refl
length_closed at (s ∷ ss) = ap suc (length_closed at ss)

pub not_of : (q at : ℕ) (s : Slot) (ss : List Slot) → IsFree at (s ∷ ss) → (s.at == at) ≡ false
not_of q at s ss free = (let h = (or_false (is_slot s.key at s) (has_slot s.key at ss) (free s.key)).0 in grind (arith, nat_tests, h))

pub free_rest : (at : ℕ) (s : Slot) (ss : List Slot) → IsFree at (s ∷ ss) → IsFree at ss
free_rest at s ss free q = (or_false (is_slot q at s) (has_slot q at ss) (free q)).1

moved_down : (q p at : ℕ) (s : Slot) → (s.at == at) ≡ false → is_slot q p (closed_slot at s) ≡ is_slot q (cond (ltb p at) p (p + 1)) s
moved_down q p at s h =
    let go : (b c : Bool) → ltb at s.at ≡ b → ltb p at ≡ c → ((s.key == q) && (cond b (s.at - 1) s.at == p)) ≡ ((s.key == q) && (s.at == cond c p (p + 1)))
    = elim [
      | true ↦ elim [ true ↦ λ e f. grind (arith, nat_tests, h, e, f) | false ↦ λ e f. grind (arith, nat_tests, h, e, f) ]
      | false ↦ elim [ true ↦ λ e f. grind (arith, nat_tests, h, e, f) | false ↦ λ e f. grind (arith, nat_tests, h, e, f) ]
    ] in go (ltb at s.at) (ltb p at) refl refl

pub has_closed : (q p at : ℕ) (ss : List Slot) → IsFree at ss → has_slot q p (map (closed_slot at) ss) ≡ has_slot q (cond (ltb p at) p (p + 1)) ss
has_closed q p at [] free = refl
has_closed q p at (s ∷ ss) free = ap₂ (λ a b. a || b) (moved_down q p at s (not_of q at s ss free)) (has_closed q p at ss (free_rest at s ss free))

still_before : (at : ℕ) (a b : Slot) → (a.at == at) ≡ false → (b.at == at) ≡ false → precedes a b ≡ true → precedes (closed_slot at a) (closed_slot at b) ≡ true
still_before at a b h k before =
    let go : (c d : Bool) → ltb at a.at ≡ c → ltb at b.at ≡ d
    → (ltb a.key b.key || ((a.key == b.key) && ltb (cond c (a.at - 1) a.at) (cond d (b.at - 1) b.at))) ≡ true
    = elim [
      | true ↦ elim [ true ↦ λ e f. grind (arith, nat_tests, h, k, before, e, f) | false ↦ λ e f. grind (arith, nat_tests, h, k, before, e, f) ]
      | false ↦ elim [ true ↦ λ e f. grind (arith, nat_tests, h, k, before, e, f) | false ↦ λ e f. grind (arith, nat_tests, h, k, before, e, f) ]
    ] in go (ltb at a.at) (ltb at b.at) refl refl

behind_closed : (at : ℕ) (a : Slot) (ss : List Slot) → (a.at == at) ≡ false → IsFree at ss → AreBehind a ss → AreBehind (closed_slot at a) (map (closed_slot at) ss)
behind_closed at a [] h free k = tt
behind_closed at a (s ∷ ss) h free k = (still_before at a s h (not_of 0 at s ss free) k.0, behind_closed at a ss h (free_rest at s ss free) k.1)

pub sorted_closed : (at : ℕ) (ss : List Slot) → IsFree at ss → IsSorted ss → IsSorted (map (closed_slot at) ss)
sorted_closed at [] free k = tt
sorted_closed at (s ∷ ss) free k = (behind_closed at s ss (not_of 0 at s ss free) (free_rest at s ss free) k.0, sorted_closed at ss (free_rest at s ss free) k.1)

-- ---- what is found

get_behind : (a : Slot) (ss : List Slot) (j : ℕ) (d : Slot) → AreBehind a ss → j < length ss → precedes a (get_or ss j d) ≡ true
get_behind a [] j d k l = absurd (omega arith)
get_behind a (s ∷ ss) zero d k l = k.0
get_behind a (s ∷ ss) (suc j) d k l = get_behind a ss j d k.1 (omega arith)

-- a test that what stands before a slot passes with it parts the slots
module _ (test : Slot → Bool) (down : (a b : Slot) → precedes a b ≡ true → test b ≡ true → test a ≡ true) where
  pub parted : (ss : List Slot) → IsSorted ss → IsPartitionedBy test ss
  parted [] k i j d o l h = absurd (omega arith)
  parted (s ∷ ss) k zero zero d o l h = h
  parted (s ∷ ss) k zero (suc j) d o l h = down s (get_or ss j d) (get_behind s ss j d k.0 (omega arith)) h
  parted (s ∷ ss) k (suc i) zero d o l h = absurd (omega arith)
  parted (s ∷ ss) k (suc i) (suc j) d o l h = parted ss k.1 i j d (omega arith) (omega arith) h

pub in_front : (x : Slot) (ss : List Slot) → IsSorted ss → IsPartitionedBy (λ s. precedes s x) ss
in_front x ss k = parted (λ s. precedes s x) (λ a b h e. precedes_trans a b x h e) ss k

pub below_key : (key : ℕ) (ss : List Slot) → IsSorted ss → IsPartitionedBy (λ s. ltb s.key key) ss
below_key key ss k = parted (λ s. ltb s.key key) (λ a b h e. grind (arith, nat_tests, h, e)) ss k

-- a point that parts them is how long the first part is
pub point_is : (p : Slot → Bool) (ss : List Slot) (r : ℕ) → r ≤ length ss → IsPartitionPoint (λ n. p n ≡ true) (λ n. p n ≡ false) ss r → r ≡ prefix_len p ss
point_is p [] r bound point = omega (arith, bound)
point_is p (s ∷ ss) r bound point = sym (prefix_len_is p (s ∷ ss) r s bound (λ k l. point.0 k s (omega arith) l) (λ l. point.1 r s (omega arith) l))

pub has_at : (ss : List Slot) (i : ℕ) (s : Slot) → slice_get ss i ≡ Some s → has_slot s.key s.at ss ≡ true
has_at [] i s h = cc
has_at (t ∷ ss) zero s h = (let same : t ≡ s = cc in subst (λ u. has_slot u.key u.at (t ∷ ss) ≡ true) same (let go : is_slot t.key t.at t ≡ true = grind (arith, nat_tests) in ap (λ b. b || has_slot t.key t.at ss) go))
has_at (t ∷ ss) (suc i) s h = (let more = has_at ss i s h in grind (arith, more))

none_above : (key p : ℕ) (a : Slot) (ss : List Slot) → AreBehind a ss → key < a.key → has_slot key p ss ≡ false
none_above key p a [] k l = refl
none_above key p a (s ∷ ss) k l = (let first : is_slot key p s ≡ false = grind (arith, nat_tests, k.0, l) in let more = none_above key p a ss k.1 l in grind (arith, first, more))

pub not_found : (key p : ℕ) (ss : List Slot) → IsSorted ss → ((s : Slot) → slice_get ss (prefix_len (λ s. ltb s.key key) ss) ≡ Some s → (s.key == key) ≡ false) → has_slot key p ss ≡ false
not_found key p [] k h = refl
not_found key p (s ∷ ss) k h =
    let rest = prefix_len (λ s. ltb s.key key) ss in
    let go : (b : Bool) → ltb s.key key ≡ b → ((t : Slot) → slice_get (s ∷ ss) (cond b (1 + rest) 0) ≡ Some t → (t.key == key) ≡ false) → has_slot key p (s ∷ ss) ≡ false
    = elim [
      | true ↦ λ e f. (let more = not_found key p ss k.1 (λ t g. f t (ap (slice_get (s ∷ ss)) (one_up rest) ∙ g)) in
          let first : is_slot key p s ≡ false = grind (arith, nat_tests, e) in grind (arith, first, more))
      | false ↦ λ e f. (let other = f s refl in let above : key < s.key = grind (arith, nat_tests, e, other) in
          let more = none_above key p s ss k.0 above in let first : is_slot key p s ≡ false = grind (arith, nat_tests, other) in grind (arith, first, more))
    ] in
    go (ltb s.key key) refl h

pub none_first : (q p : ℕ) (ss : List Slot) → slice_get ss 0 ≡ None → has_slot q p ss ≡ false
none_first q p [] h = refl
none_first q p (s ∷ ss) h = cc

pub least_first : (q p : ℕ) (ss : List Slot) (s : Slot) → IsSorted ss → slice_get ss 0 ≡ Some s → has_slot q p ss ≡ true → precedes (record { key = q; at = p }) s ≡ false
least_first q p [] s k h there = cc
least_first q p (t ∷ ss) s k h there =
    let x : Slot = record { key = q; at = p } in
    let same : t ≡ s = cc in
    let go : (b : Bool) → precedes x t ≡ b → precedes x t ≡ false
    = elim [
      | true ↦ λ e. (let none = none_behind x (t ∷ ss) (e, behind_too x t ss e k.0) in absurd (let no : (let y : Bool = true in y) ≡ false = sym there ∙ none in cc))
      | false ↦ λ e. e
    ] in
    subst (λ u. precedes x u ≡ false) same (go (precedes x t) refl)

-- nothing stands before the first place of a key but what has a lesser one
pub first_place : (key : ℕ) (ss : List Slot) → prefix_len (λ s. precedes s (record { key = key; at = 0 })) ss ≡ prefix_len (λ s. ltb s.key key) ss
first_place key [] = refl
first_place key (s ∷ ss) =
    let same : precedes s (record { key = key; at = 0 }) ≡ ltb s.key key = grind (arith, nat_tests) in
    ap₂ (λ b n. cond b (1 + n) 0) same (first_place key ss)
