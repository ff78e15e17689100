-- A list of which a loop changes the prefix: one element more.
use Rattle.std.proofs.Common.{◌≡◌, ℕ, ◌+◌, ◌<◌, suc, List, All, take, set, length, get_or, sym, ap, subst, ◌∙◌, add-one}
use Rattle.std.proofs.lemmas.List.{take_more_set}
use Rattle.std.proofs.lemmas.List.Elements.{All-push}
use Rattle.room_core.proofs.Mixed.{mixed, mixed_more}

module _ {X : Type 0} where
  -- one more is changed
  pub mixed_set : (f : X → X) (xs init : List X) (n : ℕ) (d y : X) → xs ≡ mixed f n init → n < length init → y ≡ f (get_or xs n d) → set xs n y ≡ mixed f (n + 1) init
  mixed_set f xs init n d y are within is =
      let now : set (mixed f n init) n (f (get_or (mixed f n init) n d)) ≡ mixed f (suc n) init = mixed_more f init n d within in
      ap (set xs n) is ∙ ap (λ ys. set ys n (f (get_or ys n d))) are ∙ now ∙ ap (λ k. mixed f k init) (sym (add-one n))

  -- what holds of those that were passed holds of one more
  pub all_passed : (P : X → Type 0) (xs : List X) (n : ℕ) (y : X) → n < length xs → All P (take n xs) → P y → All P (take (n + 1) (set xs n y))
  all_passed P xs n y within all here = subst (All P) (sym (take_more_set xs n y within)) (All-push P (take n xs) y all here)
