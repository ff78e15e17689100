-- Slots as places of entries whose keys stand at their places.
use Rattle.std.proofs.Common.{◌≡◌, ◌≢◌, ℕ, zero, suc, ◌+◌, ◌-◌, ◌<◌, ◌≤◌, Bool, true, false, cond, List, [], ◌∷◌, ◌++◌, length, map, get_or, set, refl, ap, ap₂, ◌∙◌, arith, ltb, ◌==◌, Some, None}
use Rattle.std.specs.Prelude.{slice_get}
use Rattle.std.specs.List.{insert, remove}
use Rattle.std.proofs.lemmas.Bool.Decides.{nat_tests}
use Rattle.std.proofs.lemmas.Option.{same_Some, get_or_from_slice_get, slice_get_read}
use Rattle.std.proofs.lemmas.List.{get_or-set_other, get_or_append_left}
use Rattle.std.proofs.lemmas.List.Edits.{get_or-remove_below, get_or-remove_above}
use Rattle.seat_ledger.specs.Slots.{closed_place, closed_slot, IsFree}
use Rattle.seat_ledger.specs.Keyed.{keyed_places, AreBelow}
use Rattle.seat_ledger.proofs.SlotLaws.{not_of, free_rest}

-- ---- how many, and which

pub keyed_length : (ks ps : List ℕ) → length (keyed_places ks ps) ≡ length ps
keyed_length ks [] = refl
keyed_length ks (p ∷ ps) = ap suc (keyed_length ks ps)

pub keyed_get : (ks ps : List ℕ) (i p : ℕ) → slice_get ps i ≡ Some p → slice_get (keyed_places ks ps) i ≡ Some (record { key = get_or ks p 0; at = p })
keyed_get ks [] i p h = cc
keyed_get ks (x ∷ ps) zero p h = (let same : x ≡ p = same_Some x p h in ap (λ n. Some (record { key = get_or ks n 0; at = n })) same)
keyed_get ks (x ∷ ps) (suc i) p h = keyed_get ks ps i p h

pub keyed_none : (ks ps : List ℕ) (i : ℕ) → slice_get ps i ≡ None → slice_get (keyed_places ks ps) i ≡ None
keyed_none ks [] i h = refl
keyed_none ks (x ∷ ps) zero h = cc
keyed_none ks (x ∷ ps) (suc i) h = keyed_none ks ps i h

-- ---- places below the number of entries

pub below_get : (n : ℕ) (ps : List ℕ) (i p : ℕ) → AreBelow n ps → slice_get ps i ≡ Some p → p < n
below_get n [] i p is h = cc
below_get n (x ∷ ps) zero p is h = (let same : x ≡ p = same_Some x p h in omega (arith, is.0, same))
below_get n (x ∷ ps) (suc i) p is h = below_get n ps i p is.1 h

pub below_more : (n m : ℕ) (ps : List ℕ) → n ≤ m → AreBelow n ps → AreBelow m ps
below_more n m [] l is = tt
below_more n m (p ∷ ps) l is = (omega (arith, l, is.0), below_more n m ps l is.1)

pub below_insert : (n : ℕ) (ps : List ℕ) (i p : ℕ) → AreBelow n ps → p < n → AreBelow n (insert ps i p)
below_insert n ps zero p is l = (l, is)
below_insert n [] (suc i) p is l = (l, tt)
below_insert n (x ∷ ps) (suc i) p is l = (is.0, below_insert n ps i p is.1 l)

pub below_remove : (n : ℕ) (ps : List ℕ) (i : ℕ) → AreBelow n ps → AreBelow n (remove ps i)
below_remove n [] zero is = tt
below_remove n [] (suc i) is = tt
below_remove n (x ∷ ps) zero is = is.1
below_remove n (x ∷ ps) (suc i) is = (is.0, below_remove n ps i is.1)

-- ---- edits

pub keyed_insert : (ks ps : List ℕ) (i p : ℕ) → keyed_places ks (insert ps i p) ≡ insert (keyed_places ks ps) i (record { key = get_or ks p 0; at = p })
keyed_insert ks ps zero p = refl
keyed_insert ks [] (suc i) p = refl
keyed_insert ks (x ∷ ps) (suc i) p = ap (λ l. record { key = get_or ks x 0; at = x } ∷ l) (keyed_insert ks ps i p)

pub keyed_remove : (ks ps : List ℕ) (i : ℕ) → keyed_places ks (remove ps i) ≡ remove (keyed_places ks ps) i
keyed_remove ks [] zero = refl
keyed_remove ks [] (suc i) = refl
keyed_remove ks (x ∷ ps) zero = refl
keyed_remove ks (x ∷ ps) (suc i) = ap (λ l. record { key = get_or ks x 0; at = x } ∷ l) (keyed_remove ks ps i)

-- the key of a place that has no slot may be any
apart : (p at : ℕ) → (p == at) ≡ false → p ≢ at
apart p at h = grind (arith, nat_tests, h)

pub keyed_set : (ks ps : List ℕ) (at k : ℕ) → IsFree at (keyed_places ks ps) → keyed_places (set ks at k) ps ≡ keyed_places ks ps
keyed_set ks [] at k free = refl
keyed_set ks (p ∷ ps) at k free =
    let other = apart p at (not_of 0 at (record { key = get_or ks p 0; at = p }) (keyed_places ks ps) free) in
    ap₂ (λ n l. record { key = n; at = p } ∷ l) (get_or-set_other ks at p k 0 other) (keyed_set ks ps at k (free_rest at (record { key = get_or ks p 0; at = p }) (keyed_places ks ps) free))

pub keyed_grown : (ks ps : List ℕ) (k : ℕ) → AreBelow (length ks) ps → keyed_places (ks ++ k ∷ []) ps ≡ keyed_places ks ps
keyed_grown ks [] k is = refl
keyed_grown ks (p ∷ ps) k is = ap₂ (λ n l. record { key = n; at = p } ∷ l) (get_or_append_left ks (k ∷ []) 0 p is.0) (keyed_grown ks ps k is.1)

-- ---- one that goes

moved_key : (ks : List ℕ) (gone p : ℕ) → gone < length ks → (p == gone) ≡ false → get_or (remove ks gone) (closed_place gone p) 0 ≡ get_or ks p 0
moved_key ks gone p l other =
    let go : (b : Bool) → ltb gone p ≡ b → get_or (remove ks gone) (cond b (p - 1) p) 0 ≡ get_or ks p 0
    = elim [
      | true ↦ λ e. (let behind : gone < p = grind (arith, nat_tests, e) in
          let up : p - 1 + 1 ≡ p = omega (arith, behind) in
          get_or-remove_above ks gone 0 (p - 1) (omega (arith, behind)) l ∙ ap (λ n. get_or ks n 0) up)
      | false ↦ λ e. (let prefix : p < gone = grind (arith, nat_tests, e, other) in get_or-remove_below ks gone 0 p prefix l)
    ] in
    go (ltb gone p) refl

pub keyed_closed : (gone : ℕ) (ks ps : List ℕ) → gone < length ks → IsFree gone (keyed_places ks ps) → keyed_places (remove ks gone) (map (closed_place gone) ps) ≡ map (closed_slot gone) (keyed_places ks ps)
keyed_closed gone ks [] l free = refl
keyed_closed gone ks (p ∷ ps) l free =
    let other = not_of 0 gone (record { key = get_or ks p 0; at = p }) (keyed_places ks ps) free in
    ap₂ (λ n l. record { key = n; at = closed_place gone p } ∷ l) (moved_key ks gone p l other) (keyed_closed gone ks ps l (free_rest gone (record { key = get_or ks p 0; at = p }) (keyed_places ks ps) free))

closed_below : (n m gone p : ℕ) → m + 1 ≡ n → p < n → gone < n → (p == gone) ≡ false → closed_place gone p < m
closed_below n m gone p up l within other =
    let go : (b : Bool) → ltb gone p ≡ b → cond b (p - 1) p < m
    = elim [
      | true ↦ λ e. (let behind : gone < p = grind (arith, nat_tests, e) in omega (arith, behind, up, l))
      | false ↦ λ e. (let prefix : p < gone = grind (arith, nat_tests, e, other) in omega (arith, prefix, up, within))
    ] in
    go (ltb gone p) refl

pub below_closed : (n m gone : ℕ) (ks ps : List ℕ) → m + 1 ≡ n → gone < n → AreBelow n ps → IsFree gone (keyed_places ks ps) → AreBelow m (map (closed_place gone) ps)
below_closed n m gone ks [] up l is free = tt
below_closed n m gone ks (p ∷ ps) up l is free =
    let other = not_of 0 gone (record { key = get_or ks p 0; at = p }) (keyed_places ks ps) free in
    (closed_below n m gone p up is.0 l other, below_closed n m gone ks ps up l is.1 (free_rest gone (record { key = get_or ks p 0; at = p }) (keyed_places ks ps) free))

-- ---- what is read

pub key_read : (ks : List ℕ) (at k : ℕ) → at < length ks → k ≡ get_or ks at k → get_or ks at 0 ≡ k
key_read ks at k l is = get_or_from_slice_get ks at k 0 (slice_get_read ks (length ks) at k refl l is)

-- a place and the key there are the slot
pub slot_read : (ks ps : List ℕ) (i at k : ℕ) → AreBelow (length ks) ps → slice_get ps i ≡ Some at → k ≡ get_or ks at k → slice_get (keyed_places ks ps) i ≡ Some (record { key = k; at = at })
slot_read ks ps i at k is there read =
    keyed_get ks ps i at there ∙ ap (λ n. Some (record { key = n; at = at })) (key_read ks at k (below_get (length ks) ps i at is there) read)
