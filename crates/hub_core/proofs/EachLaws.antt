-- What holds of each room of a hub.
use Rattle.std.proofs.Common.{◌≡◌, ℕ, suc, ◌==◌, Bool, true, false, Option, Some, None, List, ◌∷◌, [], IfSome, refl, sym, subst, cond, arith}
use Rattle.std.specs.Prelude.{IsSome}
use Rattle.std.specs.List.{find}
use Rattle.std.proofs.lemmas.Bool.Decides.{nat_tests}
use Rattle.lists.specs.Rising.{RisesFrom, find as find_by, put, remove}
use Rattle.lists.proofs.RisingLaws.{find-put, find-remove, find_below, find_first}
use Rattle.hub_core.specs.declared.entry.RoomEntry.{RoomEntry}
use Rattle.hub_core.specs.RoomEntry.{Each, serial_of}

-- the one that is there
pub record There {X : Type 0} (o : Option X) (P : X → Type 0) : Type 0 where
  pub it : X
  pub is : o ≡ Some it
  pub holds : P it

pub there : {X : Type 0} (o : Option X) (P : X → Type 0) → IsSome o → IfSome o P → There o P
there None P some h = absurd cc
there (Some x) P some h = record { it = x; is = refl; holds = h }

pub of_there : {X : Type 0} (o : Option X) (x : X) (P : X → Type 0) → o ≡ Some x → IfSome o P → P x
of_there o x P is h = subst (λ q. IfSome q P) is h

pub either : {X : Type 0} (P : X → Type 0) (b : Bool) (o p : Option X) → IfSome o P → IfSome p P → IfSome (cond b o p) P
either P true o p h k = h
either P false o p h k = k

if_weaker : {X : Type 0} (P Q : X → Type 0) (o : Option X) → ((x : X) → P x → Q x) → IfSome o P → IfSome o Q
if_weaker P Q None f h = tt
if_weaker P Q (Some x) f h = f x h

pub Each-weaker : {R : Type 0} (P Q : RoomEntry R → Type 0) (ss : List (RoomEntry R)) → ((s : RoomEntry R) → P s → Q s) → Each P ss → Each Q ss
Each-weaker P Q ss f h n = if_weaker P Q (find_by serial_of n ss) f (h n)

pub Each-put : {R : Type 0} (P : RoomEntry R → Type 0) (t : RoomEntry R) (ss : List (RoomEntry R)) → Each P ss → P t → Each P (put serial_of t ss)
Each-put P t ss h own n = subst (λ q. IfSome q P) (sym (find-put serial_of t ss n)) (either P (t.serial == n) (Some t) (find_by serial_of n ss) own (h n))

pub Each-remove : {R : Type 0} (P : RoomEntry R → Type 0) (k : ℕ) (ss : List (RoomEntry R)) → Each P ss → Each P (remove serial_of k ss)
Each-remove P k ss h n = subst (λ q. IfSome q P) (sym (find-remove serial_of k ss n)) (either P (k == n) None (find_by serial_of n ss) tt (h n))

first_is : {R : Type 0} (x : RoomEntry R) (ss : List (RoomEntry R)) → find_by serial_of x.serial (x ∷ ss) ≡ Some x
first_is x ss = find_first serial_of x ss

pub Each-first : {R : Type 0} (P : RoomEntry R → Type 0) (x : RoomEntry R) (ss : List (RoomEntry R)) → Each P (x ∷ ss) → P x
Each-first P x ss h = of_there (find_by serial_of x.serial (x ∷ ss)) x P (first_is x ss) (h x.serial)

pub Each-rest : {R : Type 0} (P : RoomEntry R → Type 0) (low : ℕ) (x : RoomEntry R) (ss : List (RoomEntry R)) → RisesFrom serial_of low (x ∷ ss) → Each P (x ∷ ss) → Each P ss
Each-rest {R = R} P low x ss rises h n = by_first (x.serial == n) refl (h n)
  where
    by_first : (b : Bool) → (x.serial == n) ≡ b → IfSome (cond b (Some x) (find_by serial_of n ss)) P → IfSome (find_by serial_of n ss) P
    by_first true here k = subst (λ q. IfSome q P) (sym (find_below serial_of (suc x.serial) ss n rises.1 (grind (arith, nat_tests, here)))) tt
    by_first false other k = k

pub Each-found : {R : Type 0} (P : RoomEntry R → Type 0) (p : RoomEntry R → Bool) (low : ℕ) (ss : List (RoomEntry R)) (s : RoomEntry R) → RisesFrom serial_of low ss → Each P ss → find p ss ≡ Some s → P s
Each-found P p low [] s rises h is = absurd cc
Each-found {R = R} P p low (x ∷ ss) s rises h is = by_first (p x) refl is (λ found. Each-found P p (suc x.serial) ss s rises.1 (Each-rest P low x ss rises h) found)
  where
    by_first : (b : Bool) → p x ≡ b → cond b (Some x) (find p ss) ≡ Some s → (find p ss ≡ Some s → P s) → P s
    by_first true here found rest = (let one : x ≡ s = cc in subst P one (Each-first P x ss h))
    by_first false other found rest = rest found

-- the one that is found is that of its number
pub found_number : {R : Type 0} (p : RoomEntry R → Bool) (low : ℕ) (ss : List (RoomEntry R)) (s : RoomEntry R) → RisesFrom serial_of low ss → find p ss ≡ Some s → find_by serial_of s.serial ss ≡ Some s
found_number p low [] s rises is = absurd cc
found_number {R = R} p low (x ∷ ss) s rises is = by_first (p x) refl is (λ found. found_number p (suc x.serial) ss s rises.1 found)
  where
    by_rest : find_by serial_of s.serial ss ≡ Some s → (b : Bool) → (x.serial == s.serial) ≡ b → cond b (Some x) (find_by serial_of s.serial ss) ≡ Some s
    by_rest at true here = (let none : find_by serial_of s.serial ss ≡ None = find_below serial_of (suc x.serial) ss s.serial rises.1 (grind (arith, nat_tests, here)) in absurd cc)
    by_rest at false other = at

    by_first : (b : Bool) → p x ≡ b → cond b (Some x) (find p ss) ≡ Some s → (find p ss ≡ Some s → find_by serial_of s.serial ss ≡ Some s) → find_by serial_of s.serial (x ∷ ss) ≡ Some s
    by_first true here found rest = (let one : x ≡ s = cc in subst (λ y. find_by serial_of y.serial (x ∷ ss) ≡ Some y) one (first_is x ss))
    by_first false other found rest = by_rest (rest found) (x.serial == s.serial) refl
