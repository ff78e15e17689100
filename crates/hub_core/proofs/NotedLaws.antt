-- What a hub notes of its rooms: what it tells of a moment, and what a step of a room makes of it.
use Rattle.std.proofs.Common.{◌≡◌, ℕ, ◌≤◌, ◌==◌, Bool, true, false, not, ◌&&◌, ◌||◌, List, [], ◌∷◌, Option, Some, None, refl, sym, ap, subst, ◌∙◌, arith, cond}
use Rattle.std.specs.Prelude.{nat_le}
use Rattle.std.proofs.lemmas.Bool.Decides.{nat_tests}
use Rattle.lists.specs.Rising.{find as find_by, put, remove}
use Rattle.lists.proofs.RisingLaws.{find-put, find-remove}
use Rattle.room_model.specs.Ledger.{IsNextLapse, is_due}
use Rattle.room_model.specs.Room.{RoomValue}
use Rattle.hub_core.specs.declared.entry.RoomEntry.{RoomEntry}
use Rattle.hub_core.specs.Lapses.{has_lapse, is_moment, is_past}
use Rattle.hub_core.specs.Noted.{AreNoted, Exchanged, IsNextOf, lapses_in}
use Rattle.hub_core.specs.RoomEntry.{serial_of}

-- ---- the next lapse is one

same_due : (a b : Option ℕ) → ((now : ℕ) → is_due now a ≡ is_due now b) → a ≡ b
same_due None None h = refl
same_due None (Some y) h = absurd (let k = h y in let l : nat_le y y ≡ true = grind (arith, nat_tests) in cc)
same_due (Some x) None h = absurd (let k = h x in let l : nat_le x x ≡ true = grind (arith, nat_tests) in cc)
same_due (Some x) (Some y) h =
    let a : nat_le x x ≡ nat_le y x = h x in
    let b : nat_le x y ≡ nat_le y y = h y in
    let same : x ≡ y = grind (arith, nat_tests, a, b) in ap Some same

pub one_next : {R : Type 0} (room : R → RoomValue) (o : Option (RoomEntry R)) (a b : Option ℕ) → IsNextOf room o a → IsNextOf room o b → a ≡ b
one_next room None a b h k = h ∙ sym k
one_next room (Some s) a b h k = same_due a b (λ now. sym (h now) ∙ k now)

-- ---- what has come by a moment

-- what has come of a room is one of its moments
abbrev Found : ℕ → ℕ → List (ℕ × ℕ) → Type 0
Found now n ks = (at : ℕ) × (has_lapse ks at n ≡ true) × (at ≤ now)

found_in : (now n : ℕ) (k : ℕ × ℕ) (ks : List (ℕ × ℕ)) → (is_past now n ks ≡ true → Found now n ks) → is_past now n (k ∷ ks) ≡ true → (b : Bool) → nat_le k.0 now && (k.1 == n) ≡ b → Found now n (k ∷ ks)
found_in now n k ks rest past true is = (k.0, grind (arith, nat_tests, is), grind (arith, nat_tests, is))
found_in now n k ks rest past false is =
    let behind : is_past now n ks ≡ true = grind (arith, is, past) in
    let found = rest behind in
    (found.0, grind (arith, found.1), found.2)

past_has : (now n : ℕ) (ks : List (ℕ × ℕ)) → is_past now n ks ≡ true → Found now n ks
past_has now n [] past = absurd cc
past_has now n (k ∷ ks) past = found_in now n k ks (past_has now n ks) past (nat_le k.0 now && (k.1 == n)) refl

has_past : (now at n : ℕ) (ks : List (ℕ × ℕ)) → has_lapse ks at n ≡ true → at ≤ now → is_past now n ks ≡ true
has_past now at n [] has low = absurd cc
has_past now at n (k ∷ ks) has low = grind (arith, nat_tests, has, low, has_past now at n ks)

is_at : (at : ℕ) (o : Option ℕ) → is_moment at o ≡ true → o ≡ Some at
is_at at None h = absurd cc
is_at at (Some x) h = let same : x ≡ at = grind (arith, nat_tests, h) in ap Some same

past_due : (now n : ℕ) (next : Option ℕ) (ks : List (ℕ × ℕ)) → ((at : ℕ) → has_lapse ks at n ≡ is_moment at next) → is_past now n ks ≡ is_due now next
past_due now n next ks has = by_past (is_past now n ks) refl
  where
    by_past : (b : Bool) → is_past now n ks ≡ b → b ≡ is_due now next
    by_past true past =
        let found = past_has now n ks past in
        let is : next ≡ Some found.0 = is_at found.0 next (sym (has found.0) ∙ found.1) in
        let low : nat_le found.0 now ≡ true = grind (arith, nat_tests, found.2) in
        rw is (sym low)
    by_past false past = later next has
      where
        later : (o : Option ℕ) → ((at : ℕ) → has_lapse ks at n ≡ is_moment at o) → false ≡ is_due now o
        later None h = refl
        later (Some x) h = by_test (nat_le x now) refl
          where
            by_test : (b : Bool) → nat_le x now ≡ b → false ≡ b
            by_test false low = refl
            by_test true low =
                let there : has_lapse ks x n ≡ true = h x ∙ grind (arith, nat_tests) in
                let come : is_past now n ks ≡ true = has_past now x n ks there (grind (arith, nat_tests, low)) in
                sym past ∙ come

lapses_of : {R : Type 0} (room : R → RoomValue) (now : ℕ) (o : Option (RoomEntry R)) (next : Option ℕ) → IsNextOf room o next → is_due now next ≡ lapses_in room now o
lapses_of room now None next none = ap (is_due now) none
lapses_of room now (Some s) next is = sym (is now)

pub noted_past : {R : Type 0} (room : R → RoomValue) (ss : List (RoomEntry R)) (ks : List (ℕ × ℕ)) (h : AreNoted room ss ks) (now n : ℕ) → is_past now n ks ≡ lapses_in room now (find_by serial_of n ss)
noted_past room ss ks h now n = past_due now n (h.next n) ks (λ at. h.has at n) ∙ lapses_of room now (find_by serial_of n ss) (h.next n) (h.of n)

-- ---- a room behind a step

abbrev next_with : ℕ → Option ℕ → (ℕ → Option ℕ) → ℕ → Option ℕ
next_with n after next m = cond (n == m) after (next m)

exchanged_has : (b : Bool) (at : ℕ) (after before old : Option ℕ) (there now : Bool) → (b ≡ true → before ≡ old) → there ≡ is_moment at old
    → now ≡ ((is_moment at after && b) || (not (is_moment at before && b) && there)) → now ≡ is_moment at (cond b after old)
exchanged_has true at after before old there now same has is = is ∙ rw (has, same refl) (out (is_moment at after) (is_moment at old))
  where
    out : (a o : Bool) → (a && true) || (not (o && true) && o) ≡ a
    out true true = refl
    out true false = refl
    out false true = refl
    out false false = refl
exchanged_has false at after before old there now same has is = is ∙ rw has (kept (is_moment at after) (is_moment at before) (is_moment at old))
  where
    kept : (a b o : Bool) → (a && false) || (not (b && false) && o) ≡ o
    kept true true o = refl
    kept true false o = refl
    kept false true o = refl
    kept false false o = refl

next_of : {R : Type 0} (room : R → RoomValue) (b : Bool) (o p : Option (RoomEntry R)) (after next : Option ℕ) → IsNextOf room o after → IsNextOf room p next → IsNextOf room (cond b o p) (cond b after next)
next_of room true o p after next h k = h
next_of room false o p after next h k = k

-- where the room of a number is another one now, or there is none any more, or there is one
pub noted_with : {R : Type 0} (room : R → RoomValue) (ss ts : List (RoomEntry R)) (ks ls : List (ℕ × ℕ)) (n : ℕ) (o : Option (RoomEntry R)) (before after : Option ℕ)
    → ((m : ℕ) → find_by serial_of m ts ≡ cond (n == m) o (find_by serial_of m ss)) → IsNextOf room (find_by serial_of n ss) before → IsNextOf room o after → Exchanged n before after ks ls
    → AreNoted room ss ks → AreNoted room ts ls
noted_with {R = R} room ss ts ks ls n o before after found was is step h = record {
  next = next_with n after h.next;
  of = λ m. subst (λ x. IsNextOf room x (next_with n after h.next m)) (sym (found m)) (next_of room (n == m) o (find_by serial_of m ss) after (h.next m) is (h.of m));
  has = λ at m. exchanged_has (n == m) at after before (h.next m) (has_lapse ks at m) (has_lapse ls at m) (λ same. old m same) (h.has at m) (step at m);
}
  where
    old : (m : ℕ) → (n == m) ≡ true → before ≡ h.next m
    old m same =
        let number : m ≡ n = grind (arith, nat_tests, same) in
        one_next room (find_by serial_of n ss) before (h.next m) was (subst (λ k. IsNextOf room (find_by serial_of k ss) (h.next m)) number (h.of m))

-- a room is exchanged for itself behind a step, added, or taken out
pub AreNoted-put : {R : Type 0} (room : R → RoomValue) (ss : List (RoomEntry R)) (ks ls : List (ℕ × ℕ)) (t : RoomEntry R) (before after : Option ℕ) → IsNextOf room (find_by serial_of t.serial ss) before
    → IsNextLapse (room t.room).seats after → Exchanged t.serial before after ks ls → AreNoted room ss ks → AreNoted room (put serial_of t ss) ls
AreNoted-put room ss ks ls t before after was is step h = noted_with room ss (put serial_of t ss) ks ls t.serial (Some t) before after (find-put serial_of t ss) was is step h

pub AreNoted-remove : {R : Type 0} (room : R → RoomValue) (ss : List (RoomEntry R)) (ks ls : List (ℕ × ℕ)) (n : ℕ) (before : Option ℕ) → IsNextOf room (find_by serial_of n ss) before
    → Exchanged n before None ks ls → AreNoted room ss ks → AreNoted room (remove serial_of n ss) ls
AreNoted-remove room ss ks ls n before was step h = noted_with room ss (remove serial_of n ss) ks ls n None before None (find-remove serial_of n ss) was refl step h
