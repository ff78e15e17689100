-- The open rooms of each definition, in a list: one of them is changed, or one more stands behind.
use Rattle.std.proofs.Common.{◌≡◌, ℕ, zero, suc, ◌<◌, ◌==◌, ◌&&◌, ◌||◌, not, ◌++◌, Bool, true, false, cond, List, [], ◌∷◌, Some, length, get_or, set, refl, sym, ap, subst, ◌∙◌, arith}
use Rattle.std.specs.Prelude.{slice_get}
use Rattle.std.specs.Option.{option_map_or}
use Rattle.std.specs.Str.{bytes_eq}
use Rattle.std.proofs.Math.ListN.{length-set}
use Rattle.std.proofs.lemmas.Bool.Decides.{nat_tests}
use Rattle.std.proofs.lemmas.Option.{slice_get-get_or, slice_get_within}
use Rattle.hub_core.specs.declared.open_rooms.OpenRooms.{OpenRooms}
use Rattle.hub_core.specs.OpenRooms.{AreEmpty, Relisted, is_open_at, is_open_in}
use Rattle.hub_core.proofs.KeyLaws.{and_is, or_is}

slice_get-set : {X : Type 0} (xs : List X) (i : ℕ) (x : X) (k : ℕ) → i < length xs → slice_get (set xs i x) k ≡ cond (i == k) (Some x) (slice_get xs k)
slice_get-set [] i x k h = absurd (omega arith)
slice_get-set (y ∷ ys) zero x zero h = refl
slice_get-set (y ∷ ys) zero x (suc k) h = grind (arith, nat_tests)
slice_get-set (y ∷ ys) (suc i) x zero h = grind (arith, nat_tests)
slice_get-set (y ∷ ys) (suc i) x (suc k) h = grind (arith, nat_tests, slice_get-set ys i x k)

-- the open rooms of one definition are changed
pub relisted : (olds : List OpenRooms) (d : ℕ) (key : List ℕ) (n : ℕ) (b : Bool) (o new : OpenRooms) → slice_get olds d ≡ Some o → ((k : List ℕ) (i : ℕ) → is_open_at new k i ≡ cond (bytes_eq key k && (n == i)) b (is_open_at o k i))
    → Relisted d key n b olds (set olds d new)
relisted olds d key n b o new at step = (
  length-set olds d new,
  λ k other m. ap (λ q. option_map_or (λ l. is_open_at l other m) q false) (slice_get-set olds d new k (slice_get_within olds d o at)) ∙ by_def k other m (d == k) refl,
)
  where
    by_def : (k : ℕ) (other : List ℕ) (m : ℕ) (c : Bool) → (d == k) ≡ c → option_map_or (λ l. is_open_at l other m) (cond c (Some new) (slice_get olds k)) false ≡ cond (c && (bytes_eq key other && (n == m))) b (is_open_in olds k other m)
    by_def k other m true here =
        let number : d ≡ k = grind (arith, nat_tests, here) in
        let there : slice_get olds k ≡ Some o = subst (λ i. slice_get olds i ≡ Some o) number at in
        step other m ∙ ap (λ q. cond (bytes_eq key other && (n == m)) b (option_map_or (λ l. is_open_at l other m) q false)) (sym there)
    by_def k other m false here = refl

pub added_at : (olds : List OpenRooms) (d : ℕ) (key : List ℕ) (n : ℕ) (o new : OpenRooms) → d < length olds → o ≡ get_or olds d o
    → ((k : List ℕ) (i : ℕ) → is_open_at new k i ≡ ((bytes_eq key k && (n == i)) || is_open_at o k i)) → Relisted d key n true olds (set olds d new)
added_at olds d key n o new less is step = relisted olds d key n true o new (slice_get-get_or olds d o less ∙ ap Some (sym is)) (λ k i. step k i ∙ sym (or_is (bytes_eq key k && (n == i)) (is_open_at o k i)))

pub taken_at : (olds : List OpenRooms) (d : ℕ) (key : List ℕ) (n : ℕ) (o new : OpenRooms) → d < length olds → o ≡ get_or olds d o
    → ((k : List ℕ) (i : ℕ) → is_open_at new k i ≡ (not (bytes_eq key k && (n == i)) && is_open_at o k i)) → Relisted d key n false olds (set olds d new)
taken_at olds d key n o new less is step = relisted olds d key n false o new (slice_get-get_or olds d o less ∙ ap Some (sym is)) (λ k i. step k i ∙ sym (and_is (bytes_eq key k && (n == i)) (is_open_at o k i)))

-- one more without rooms
pub more_empty : (opens : List OpenRooms) (o : OpenRooms) → AreEmpty opens → ((key : List ℕ) (n : ℕ) → is_open_at o key n ≡ false) → (d : ℕ) (key : List ℕ) (n : ℕ) → is_open_in (opens ++ o ∷ []) d key n ≡ false
more_empty [] o all none zero key n = none key n
more_empty [] o all none (suc d) key n = refl
more_empty (x ∷ xs) o all none zero key n = all zero key n
more_empty (x ∷ xs) o all none (suc d) key n = more_empty xs o (λ e. all (suc e)) none d key n

pub none_empty : AreEmpty []
none_empty d key n = refl
