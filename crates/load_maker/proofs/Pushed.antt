-- Items pushed one behind another.
use Rattle.std.proofs.Common.{◌≡◌, ℕ, ◌+◌, List, [], ◌∷◌, ◌++◌, add-one, ap, ap₂, sym, ◌∙◌, append_assoc}
use Rattle.std.specs.Prelude.{Result, Ok, Err, OnOk, is_ok, if◌then◌else◌}
use Rattle.load_maker.specs.Generated.{again, up_to}

module _ {X : Type 0} where
  -- two items, and one more behind them
  both_behind : (old one last : List X) (a b x y : X) → one ≡ old ++ a ∷ [] → last ≡ one ++ b ∷ [] → a ≡ x → b ≡ y → last ≡ old ++ x ∷ y ∷ []
  both_behind old one last a b x y first second is same = second ∙ (ap (λ l. l ++ b ∷ []) first ∙ (append_assoc old (a ∷ []) (b ∷ []) ∙ ap₂ (λ x y. old ++ x ∷ y ∷ []) is same))

  all_behind : (old one two' last : List X) (a b c x y z : X) → one ≡ old ++ a ∷ [] → two' ≡ one ++ b ∷ [] → last ≡ two' ++ c ∷ [] → a ≡ x → b ≡ y → c ≡ z → last ≡ old ++ x ∷ y ∷ z ∷ []
  all_behind old one two' last a b c x y z first second third is same like =
      third ∙ (ap₂ (λ l z. l ++ z ∷ []) (both_behind old one two' a b x y first second is same) like ∙ append_assoc old (x ∷ y ∷ []) (z ∷ []))

  -- the last of two, three and four may fail
  pub two_pushed : {T E : Type 0} (r : Result T E) (old one last : List X) (a b x y : X) → one ≡ old ++ a ∷ [] → last ≡ (if is_ok r then one ++ b ∷ [] else one) → a ≡ x → b ≡ y → OnOk r (last ≡ old ++ x ∷ y ∷ [])
  two_pushed (Ok t) old one last a b x y first second is same = both_behind old one last a b x y first second is same
  two_pushed (Err e) old one last a b x y first second is same = tt

  pub three_pushed : {T E : Type 0} (r : Result T E) (old one two' last : List X) (a b c x y z : X) → one ≡ old ++ a ∷ [] → two' ≡ one ++ b ∷ [] → last ≡ (if is_ok r then two' ++ c ∷ [] else two')
      → a ≡ x → b ≡ y → c ≡ z → OnOk r (last ≡ old ++ x ∷ y ∷ z ∷ [])
  three_pushed (Ok t) old one two' last a b c x y z first second third is same like = all_behind old one two' last a b c x y z first second third is same like
  three_pushed (Err e) old one two' last a b c x y z first second third is same like = tt

  pub four_pushed : {T E : Type 0} (r : Result T E) (old one two' three' last : List X) (a b c d x y z w : X) → one ≡ old ++ a ∷ [] → two' ≡ one ++ b ∷ [] → three' ≡ two' ++ c ∷ []
      → last ≡ (if is_ok r then three' ++ d ∷ [] else three') → a ≡ x → b ≡ y → c ≡ z → d ≡ w → OnOk r (last ≡ old ++ x ∷ y ∷ z ∷ w ∷ [])
  four_pushed (Ok t) old one two' three' last a b c d x y z w first second third fourth is same like here =
      fourth ∙ (ap₂ (λ l w. l ++ w ∷ []) (all_behind old one two' three' a b c x y z first second third is same like) here ∙ append_assoc old (x ∷ y ∷ z ∷ []) (w ∷ []))
  four_pushed (Err e) old one two' three' last a b c d x y z w first second third fourth is same like here = tt

  -- lists behind one another
  pub three_joined : {T E : Type 0} (r : Result T E) (old one two' last xs ys zs : List X) → one ≡ old ++ xs → two' ≡ one ++ ys → OnOk r (last ≡ two' ++ zs) → OnOk r (last ≡ old ++ (xs ++ (ys ++ zs)))
  three_joined (Ok t) old one two' last xs ys zs first second third =
      third ∙ (ap (λ l. l ++ zs) (second ∙ ap (λ l. l ++ ys) first) ∙ (append_assoc (old ++ xs) ys zs ∙ append_assoc old xs (ys ++ zs)))
  three_joined (Err e) old one two' last xs ys zs first second third = tt

  -- one more of lists that are numbered
  pub one_more : (f : ℕ → List X) (old one last : List X) (n : ℕ) → one ≡ old ++ up_to f n → last ≡ one ++ f n → last ≡ old ++ up_to f (n + 1)
  one_more f old one last n first second = second ∙ (ap (λ l. l ++ f n) first ∙ (append_assoc old (up_to f n) (f n) ∙ ap (λ k. old ++ up_to f k) (sym (add-one n))))

pub step_more : (step : ℕ → ℕ) (s now last n : ℕ) → now ≡ again step n s → last ≡ step now → last ≡ again step (n + 1) s
step_more step s now last n first second = second ∙ (ap step first ∙ ap (λ k. again step k s) (sym (add-one n)))
