-- What a source in memory hands over, as a part of its bytes.
use Rattle.std.proofs.Common.{◌≡◌, ℕ, ◌+◌, ◌<◌, ◌≤◌, List, ◌++◌, length, min, take, drop, Some, refl, sym, subst, arith, length-take, length-append, length-drop}
use Rattle.std.proofs.lemmas.List.{take-append-drop, drop-drop}
use Rattle.std.proofs.Math.Seq.{take-append_seam}
use Rattle.outside.specs.Streams.{Hands}

-- the bytes from a place on are those that are copied to the front of a buffer, and the bytes after them
front_and_rest :
    (items after : List ℕ) (at count : ℕ) → count ≤ length (drop at items) →
    drop at items ≡ take count (take count (drop at items) ++ after) ++ drop (at + count) items
front_and_rest items after at count within =
    let prefix : List ℕ = take count (drop at items) in
    let long : length prefix ≡ count = omega (arith, length-take count (drop at items)) in
    let prefix_is : take count (prefix ++ after) ≡ prefix =
    subst (λ (n : ℕ). take n (prefix ++ after) ≡ prefix) long (take-append_seam prefix after) in
    rw (prefix_is, ← drop-drop count at items) (sym (take-append-drop count (drop at items)))

-- bytes that are copied from a place on, as many as there are, fit and are allowed, are handed over
pub copied_hands :
    (items old new : List ℕ) (at count most : ℕ) → 0 < most →
    count ≡ min most (min (length old) (length (drop at items))) →
    new ≡ take count (drop at items) ++ drop count old →
    Hands (drop at items) (Some (drop (at + count) items)) count new
copied_hands items old new at count most room counted copied =
    let within : count ≤ length (drop at items) = omega arith in
    let long : length new ≡ length old =
    rw copied
    (omega (arith, length-append (take count (drop at items)) (drop count old), length-take count (drop at items), length-drop count old)) in
    record {
      parts = (drop (at + count) items, refl, rw copied (front_and_rest items (drop count old) at count within));
      some = λ some there. omega arith;
    }
