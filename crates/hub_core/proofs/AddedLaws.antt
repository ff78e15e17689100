-- A room that is added behind all others.
use Rattle.std.proofs.Common.{◌≡◌, ℕ, ◌==◌, ◌++◌, Bool, true, false, List, [], ◌∷◌, Some, None, IfSome, refl, sym, subst, arith, cond}
use Rattle.std.proofs.lemmas.Bool.Decides.{nat_tests}
use Rattle.lists.specs.Rising.{IsAbove, find as find_by}
use Rattle.hub_core.specs.declared.entry.RoomEntry.{RoomEntry}
use Rattle.hub_core.specs.RoomEntry.{Each, serial_of}
use Rattle.hub_core.proofs.EachLaws.{either}

-- no room of a number above all
pub none_above : {R : Type 0} (n : ℕ) (ss : List (RoomEntry R)) → IsAbove serial_of n ss → find_by serial_of n ss ≡ None
none_above n [] above = refl
none_above n (x ∷ ss) above =
    let other : (x.serial == n) ≡ false = (let less = above.0 in grind (arith, nat_tests, less)) in
    rw other (none_above n ss above.1)

pub found_last : {R : Type 0} (m : ℕ) (s : RoomEntry R) (ss : List (RoomEntry R)) → IsAbove serial_of s.serial ss → find_by serial_of m (ss ++ s ∷ []) ≡ cond (s.serial == m) (Some s) (find_by serial_of m ss)
found_last m s [] above = refl
found_last {R = R} m s (x ∷ ss) above = by_first (x.serial == m) refl (found_last m s ss above.1)
  where
    by_first : (b : Bool) → (x.serial == m) ≡ b → find_by serial_of m (ss ++ s ∷ []) ≡ cond (s.serial == m) (Some s) (find_by serial_of m ss)
        → cond b (Some x) (find_by serial_of m (ss ++ s ∷ [])) ≡ cond (s.serial == m) (Some s) (cond b (Some x) (find_by serial_of m ss))
    by_first true here rest = (let less = above.0 in let other : (s.serial == m) ≡ false = grind (arith, nat_tests, less, here) in rw other refl)
    by_first false other rest = rest

pub Each-last : {R : Type 0} (P : RoomEntry R → Type 0) (s : RoomEntry R) (ss : List (RoomEntry R)) → IsAbove serial_of s.serial ss → Each P ss → P s → Each P (ss ++ s ∷ [])
Each-last P s ss above all own n = subst (λ o. IfSome o P) (sym (found_last n s ss above)) (either P (s.serial == n) (Some s) (find_by serial_of n ss) own (all n))
