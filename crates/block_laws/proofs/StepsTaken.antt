-- Steps of reading, counted by the bytes that they take.
use Rattle.std.proofs.Common.{◌≡◌, ℕ, zero, suc, ◌+◌, ◌-◌, ◌≤◌, ◌<◌, false, List, length, refl, ap, ◌∙◌, arith}
use Rattle.std.specs.Prelude.{nat_lt}
use Rattle.std.proofs.lemmas.Bool.Decides.{nat_tests}
use Rattle.schema_model.specs.Classes.{Schema}
use Rattle.state_model.specs.Reached.{times}
use Rattle.wire_model.specs.Grammar.{Progress, advanced}

-- some steps lead from here to there, at most as many as bytes
pub record Taken (step : Progress → Progress) (from to : Progress) (bytes : ℕ) : Type 0 where
  pub count : ℕ
  pub few : count ≤ bytes
  pub led : (m : ℕ) → times (count + m) step from ≡ times m step to

-- no step
pub none_taken : (step : Progress → Progress) (from : Progress) → Taken step from from 0
none_taken step from = record { count = 0; few = omega arith; led = λ m. let none : 0 + m ≡ m = omega arith in ap (λ n. times n step from) none }

-- one step takes a byte at least
pub one_taken : (step : Progress → Progress) (from to : Progress) (bytes : ℕ) → 0 < bytes → step from ≡ to → Taken step from to bytes
one_taken step from to bytes some is = record {
  count = 1;
  few = omega arith;
  led = λ m. let one : 1 + m ≡ suc m = omega arith in ap (λ n. times n step from) one ∙ ap (times m step) is;
}

-- some steps, then others
pub both_taken : (step : Progress → Progress) (from via to : Progress) (a b bytes : ℕ) → a + b ≡ bytes → Taken step from via a → Taken step via to b → Taken step from to bytes
both_taken step from via to a b bytes sum t u = record {
  count = t.count + u.count;
  few = omega arith;
  led = λ m.
      let apart : t.count + u.count + m ≡ t.count + (u.count + m) = omega arith in
      ap (λ n. times n step from) apart ∙ (t.led (u.count + m) ∙ u.led m);
}

-- at the end nothing more is done
ended : (schema : Schema) (bytes : List ℕ) (p : Progress) (n : ℕ) → p.at ≡ length bytes → times n (advanced schema bytes) p ≡ p
ended schema bytes p zero end = refl
ended schema bytes p (suc n) end =
    let no_more : nat_lt p.at (length bytes) ≡ false = grind (arith, nat_tests) in
    ap (times n (advanced schema bytes)) (rw no_more refl) ∙ ended schema bytes p n end

-- as many steps as there are bytes lead to the end
pub all_taken : (schema : Schema) (bytes : List ℕ) (from to : Progress) → Taken (advanced schema bytes) from to (length bytes) → to.at ≡ length bytes
    → times (length bytes) (advanced schema bytes) from ≡ to
all_taken schema bytes from to t end =
    let few = t.few in
    let apart : length bytes ≡ t.count + (length bytes - t.count) = omega arith in
    ap (λ n. times n (advanced schema bytes) from) apart ∙ (t.led (length bytes - t.count) ∙ ended schema bytes to (length bytes - t.count) end)
