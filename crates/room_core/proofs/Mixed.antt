-- A list of which a loop has changed the prefix.
use Rattle.std.proofs.Common.{◌≡◌, ℕ, ◌<◌, zero, suc, List, [], ◌∷◌, ◌++◌, map, take, drop, set, length, get_or, refl, ap, arith}

module _ {X : Type 0} (f : X → X) where
  -- so many are changed
  abbrev pub mixed : ℕ → List X → List X
  mixed n xs = map f (take n xs) ++ drop n xs

  -- one more
  pub mixed_more : (xs : List X) (n : ℕ) (d : X) → n < length xs → set (mixed n xs) n (f (get_or (mixed n xs) n d)) ≡ mixed (suc n) xs
  mixed_more [] n d within = absurd (omega arith)
  mixed_more (x ∷ xs) zero d within = refl
  mixed_more (x ∷ xs) (suc n) d within = ap (λ ys. f x ∷ ys) (mixed_more xs n d (omega arith))

  -- the next one is as it was
  pub mixed_next : (xs : List X) (n : ℕ) (d : X) → n < length xs → get_or (mixed n xs) n d ≡ get_or xs n d
  mixed_next [] n d within = absurd (omega arith)
  mixed_next (x ∷ xs) zero d within = refl
  mixed_next (x ∷ xs) (suc n) d within = mixed_next xs n d (omega arith)
