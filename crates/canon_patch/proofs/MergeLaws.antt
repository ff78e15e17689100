-- A merge of two rising lists gives the numbers of both, rising.
use Rattle.std.proofs.Common.{◌≡◌, ℕ, suc, ◌+◌, ◌<◌, cond, List, [], ◌∷◌, ◌++◌, length, map, Some, None, refl, sym, ap, ◌∙◌, arith}
use Rattle.std.specs.Prelude.{nat_lt}
use Rattle.std.proofs.lemmas.Bool.Decides.{nat_tests}
use Rattle.std.proofs.lemmas.List.{append_assoc}
use Rattle.std.proofs.lemmas.Option.{same_Some}
use Rattle.lists.specs.Rising.{RisesFrom}
use Rattle.lists.proofs.RisingLaws.{RisesFrom-lower}
use Rattle.state_model.specs.Reached.{with_number, with_numbers}
use Rattle.wire_model.specs.Patch.{either_number}
use Rattle.canon_patch.specs.Merge.{least_number, behind}

-- a greater number goes behind the first one
put_behind : (x : ℕ) (xs : List ℕ) (m : ℕ) → x < m → with_number (x ∷ xs) m ≡ x ∷ with_number xs m
put_behind x xs m h = grind (arith, nat_tests)

-- a lesser number goes before it
put_before : (x : ℕ) (xs : List ℕ) (m : ℕ) → m < x → with_number (x ∷ xs) m ≡ m ∷ x ∷ xs
put_before x xs m h = grind (arith, nat_tests)

module _ {E : Type 0} (key : E → ℕ) where
  -- a number below all others stays before it
  first_stays : (x : ℕ) (xs : List ℕ) (es : List E) (low : ℕ) → RisesFrom key low es → x < low → with_numbers (x ∷ xs) (map key es) ≡ x ∷ with_numbers xs (map key es)
  first_stays x xs [] low r h = refl
  first_stays x xs (e ∷ es) low r h =
      let later : x < key e = omega (arith, r.0) in
      ap (λ ns. with_numbers ns (map key es)) (put_behind x xs (key e) later)
      ∙ first_stays x (with_number xs (key e)) es (suc (key e)) r.1 (omega arith)

  -- a first item of the number goes, one of a greater number stays
  behind_here : (e : E) (es : List E) → behind key (key e) (e ∷ es) ≡ es
  behind_here e es = grind (arith, nat_tests)

  behind_later : (n : ℕ) (e : E) (es : List E) → n < key e → behind key n (e ∷ es) ≡ e ∷ es
  behind_later n e es h = grind (arith, nat_tests)

  -- what is left rises
  rises_behind : (n : ℕ) (es : List E) → RisesFrom key 0 es → RisesFrom key 0 (behind key n es)
  rises_behind n [] r = tt
  rises_behind n (e ∷ es) r = grind (arith, nat_tests, RisesFrom-lower key 0 (suc (key e)) es r.1)

  -- the first number of one list alone, of the other alone, or of both
  before : (a : E) (more : List E) (b : E) (bs : List E) → RisesFrom key 0 (b ∷ bs) → key a < key b →
      either_number (map key (a ∷ more)) (map key (b ∷ bs))
      ≡ key a ∷ either_number (map key (behind key (key a) (a ∷ more))) (map key (behind key (key a) (b ∷ bs)))
  before a more b bs s h = rw (behind_here a more, behind_later (key a) b bs h) (first_stays (key a) (map key more) (b ∷ bs) (key b) (omega arith, s.1) h)

  after : (a : E) (more : List E) (b : E) (bs : List E) → RisesFrom key 0 (b ∷ bs) → key b < key a →
      either_number (map key (a ∷ more)) (map key (b ∷ bs))
      ≡ key b ∷ either_number (map key (behind key (key b) (a ∷ more))) (map key (behind key (key b) (b ∷ bs)))
  after a more b bs s h =
      rw (behind_here b bs, behind_later (key b) a more h)
      (ap (λ ns. with_numbers ns (map key bs)) (put_before (key a) (map key more) (key b) h)
      ∙ first_stays (key b) (map key (a ∷ more)) bs (suc (key b)) s.1 (omega arith))

  beside : (a : E) (more : List E) (b : E) (bs : List E) (n : ℕ) → RisesFrom key 0 (b ∷ bs) → key a ≡ n → key b ≡ n →
      either_number (map key (a ∷ more)) (map key (b ∷ bs)) ≡ n ∷ either_number (map key (behind key n (a ∷ more))) (map key (behind key n (b ∷ bs)))
  beside a more b bs n s h g =
      let gone_a : behind key n (a ∷ more) ≡ more = grind (arith, nat_tests) in
      let gone_b : behind key n (b ∷ bs) ≡ bs = grind (arith, nat_tests) in
      let put : with_number (key a ∷ map key more) (key b) ≡ n ∷ map key more = grind (arith, nat_tests) in
      rw (gone_a, gone_b) (ap (λ ns. with_numbers ns (map key bs)) put ∙ first_stays n (map key more) bs (suc (key b)) s.1 (omega (arith, g)))

  -- whichever of the two it is
  both : (a : E) (more : List E) (b : E) (bs : List E) (n : ℕ) → RisesFrom key 0 (b ∷ bs) → n ≡ cond (nat_lt (key b) (key a)) (key b) (key a) →
      either_number (map key (a ∷ more)) (map key (b ∷ bs)) ≡ n ∷ either_number (map key (behind key n (a ∷ more))) (map key (behind key n (b ∷ bs)))
  both a more b bs n s h = grind (arith, nat_tests, before a more b bs s, after a more b bs s, beside a more b bs n s)

  -- the least number goes first, and is gone from both
  merge_step : (old new : List E) (n : ℕ) → RisesFrom key 0 new → least_number (map key old) (map key new) ≡ Some n →
      either_number (map key old) (map key new) ≡ n ∷ either_number (map key (behind key n old)) (map key (behind key n new))
  merge_step [] [] n s h = cc
  merge_step (a ∷ more) [] n s h = let same : key a ≡ n = same_Some _ _ h in rw (← same, behind_here a more) refl
  merge_step [] (b ∷ bs) n s h = let same : key b ≡ n = same_Some _ _ h in rw (← same, behind_here b bs) (first_stays (key b) [] bs (suc (key b)) s.1 (omega arith))
  merge_step (a ∷ more) (b ∷ bs) n s h = both a more b bs n s (sym (same_Some _ _ h))

  -- without a least number there is none
  pub merge_end : (old new : List E) → least_number (map key old) (map key new) ≡ None → either_number (map key old) (map key new) ≡ []
  merge_end [] [] h = refl
  merge_end (a ∷ more) [] h = cc
  merge_end [] (b ∷ bs) h = cc
  merge_end (a ∷ more) (b ∷ bs) h = cc

  -- taking the least number away leaves fewer
  pub merge_shorter : (old new : List E) (n : ℕ) → least_number (map key old) (map key new) ≡ Some n →
      length (behind key n old) + length (behind key n new) < length old + length new
  merge_shorter [] [] n h = cc
  merge_shorter (a ∷ more) [] n h = let same : key a ≡ n = same_Some _ _ h in rw (← same, behind_here a more) (omega arith)
  merge_shorter [] (b ∷ bs) n h = let same : key b ≡ n = same_Some _ _ h in rw (← same, behind_here b bs) (omega arith)
  merge_shorter (a ∷ more) (b ∷ bs) n h = let same : cond (nat_lt (key b) (key a)) (key b) (key a) ≡ n = same_Some _ _ h in grind (arith, nat_tests)

  -- one turn: the least number is written, and the numbers of what is left still make up the whole
  pub merge_kept : (numbers now : List ℕ) (old new l r : List E) (n : ℕ) (whole : List ℕ) →
      numbers ++ either_number (map key old) (map key new) ≡ whole → RisesFrom key 0 old → RisesFrom key 0 new →
      least_number (map key old) (map key new) ≡ Some n → now ≡ numbers ++ n ∷ [] → l ≡ behind key n old → r ≡ behind key n new →
      (now ++ either_number (map key l) (map key r) ≡ whole) × RisesFrom key 0 l × RisesFrom key 0 r
  merge_kept numbers now old new l r n whole e ro rn least so_far gone_l gone_r = (
    ap (λ ns. ns ++ either_number (map key l) (map key r)) so_far
        ∙ (ap (λ es. (numbers ++ n ∷ []) ++ either_number (map key es) (map key r)) gone_l
        ∙ (ap (λ es. (numbers ++ n ∷ []) ++ either_number (map key (behind key n old)) (map key es)) gone_r
        ∙ (append_assoc numbers (n ∷ []) (either_number (map key (behind key n old)) (map key (behind key n new)))
        ∙ (ap (λ ns. numbers ++ ns) (sym (merge_step old new n rn least)) ∙ e)))),
    rw gone_l (rises_behind n old ro),
    rw gone_r (rises_behind n new rn),
  )
