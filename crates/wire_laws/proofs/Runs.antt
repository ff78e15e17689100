-- A run over numbers, at each of which operations bring what stands there from old to new.
use Rattle.std.proofs.Common.{◌≡◌, ◌≢◌, ℕ, suc, ◌<◌, Bool, true, false, ◌==◌, List, [], ◌∷◌, map, None, ◌⊎◌, inl, inr, refl, sym, ap, ◌∙◌, arith}
use Rattle.std.specs.List.{fold, flat_map}
use Rattle.std.proofs.lemmas.List.Sums.{fold-append}
use Rattle.std.proofs.lemmas.Bool.Decides.{nat_tests}
use Rattle.lists.specs.Rising.{RisesFrom, find}
use Rattle.lists.proofs.RisingLaws.{same_rising}
use Rattle.state_model.specs.Reached.{is_among}
use Rattle.wire_model.specs.Patch.{either_number}
use Rattle.state_laws.proofs.Numbers.{among_with, rises_with}

-- ---- the numbers of two lists

-- what stands below the first isn't there
pub is_among_below : (low : ℕ) (ns : List ℕ) (k : ℕ) → RisesFrom (λ n. n) low ns → k < low → is_among k ns ≡ false
is_among_below low [] k r h = refl
is_among_below low (n ∷ ns) k r h = grind (arith, nat_tests, is_among_below (suc n) ns k r.1)

module _ {E : Type 0} (key : E → ℕ) where
  -- the keys of a rising list rise
  pub RisesFrom-keys : (low : ℕ) (es : List E) → RisesFrom key low es → RisesFrom (λ n. n) low (map key es)
  RisesFrom-keys low [] r = tt
  RisesFrom-keys low (e ∷ es) r = (r.0, RisesFrom-keys (suc (key e)) es r.1)

  -- a number that isn't among the keys of two lists is in neither
  none_found : (es : List E) (k : ℕ) → is_among k (map key es) ≡ false → find key k es ≡ None
  none_found [] k h = refl
  none_found (e ∷ es) k h = grind (arith, nat_tests, none_found es k)

  -- a number that isn't among the numbers of old and new is found in neither
  in_neither : (old new : List E) (k : ℕ) → is_among k (either_number (map key old) (map key new)) ≡ false → (find key k old ≡ None) × (find key k new ≡ None)
  in_neither old new k h =
      let split = among_with (map key old) (map key new) k in
      let a : is_among k (map key old) ≡ false = grind (arith, nat_tests) in
      let b : is_among k (map key new) ≡ false = grind (arith, nat_tests) in
      (none_found old k a, none_found new k b)

-- ---- what holds between old and new

module _ {E : Type 0} (key : E → ℕ) (old new : List E) where
  -- a number that isn't done looks up as in old, or as nothing where new has nothing
  abbrev pub Waits : ℕ → List E → Type 0
  Waits k es = (find key k es ≡ find key k old) ⊎ ((find key k es ≡ None) × (find key k new ≡ None))

  -- the numbers that are left wait, and the others look up as in new
  pub record Between (left : List ℕ) (es : List E) : Type 0 where
    pub rises : RisesFrom key 0 es
    pub waits : (k : ℕ) → is_among k left ≡ true → Waits k es
    pub done : (k : ℕ) → is_among k left ≡ false → find key k es ≡ find key k new

  -- the list after the operations at a number: that number looks up as in new, and each other as before, or as nothing where new
  -- has nothing
  pub record Stepped (u : ℕ) (es next : List E) : Type 0 where
    pub rises : RisesFrom key 0 next
    pub here : find key u next ≡ find key u new
    pub elsewhere : (k : ℕ) → k ≢ u → (find key k next ≡ find key k es) ⊎ ((find key k next ≡ None) × (find key k new ≡ None))

  -- at the start all numbers of old and new are left
  starts : RisesFrom key 0 old → Between (either_number (map key old) (map key new)) old
  starts r = record {
    rises = r;
    waits = λ k h. inl refl;
    done = λ k h. let none = in_neither key old new k h in cc;
  }

  -- a number that waits still waits after another one
  still_waits : (k : ℕ) (es next : List E) → Waits k es → (find key k next ≡ find key k es) ⊎ ((find key k next ≡ None) × (find key k new ≡ None)) → Waits k next
  still_waits k es next w (inr n) = inr n
  still_waits k es next (inl o) (inl s) = inl (s ∙ o)
  still_waits k es next (inr n) (inl s) = inr (s ∙ n.0, n.1)

  -- a number that is done stays done after another one
  still_done : (k : ℕ) (es next : List E) → find key k es ≡ find key k new → (find key k next ≡ find key k es) ⊎ ((find key k next ≡ None) × (find key k new ≡ None)) → find key k next ≡ find key k new
  still_done k es next d (inl s) = s ∙ d
  still_done k es next d (inr n) = n.0 ∙ sym n.1

  -- after a number, it and those before are done
  at_done : (u : ℕ) (us : List ℕ) (es next : List E) → Between (u ∷ us) es → Stepped u es next → (k : ℕ) → is_among k us ≡ false → (b : Bool) → (u == k) ≡ b → find key k next ≡ find key k new
  at_done u us es next b s k h true t = let e : u ≡ k = grind (arith, nat_tests) in ap (λ n. find key n next) (sym e) ∙ s.here ∙ ap (λ n. find key n new) e
  at_done u us es next b s k h false f = still_done k es next (b.done k (grind (arith, nat_tests))) (s.elsewhere k (λ e. grind (arith, nat_tests)))

  -- after a number the others are left
  goes_on : (u : ℕ) (us : List ℕ) (es next : List E) → is_among u us ≡ false → Between (u ∷ us) es → Stepped u es next → Between us next
  goes_on u us es next apart b s = record {
    rises = s.rises;
    waits = λ k h. still_waits k es next (b.waits k (grind (arith, nat_tests))) (s.elsewhere k (λ e. let t : is_among u us ≡ true = ap (λ n. is_among n us) (sym e) ∙ h in cc));
    done = λ k h. at_done u us es next b s k h (u == k) refl;
  }

  -- where none is left, it is new
  ends : (es : List E) → RisesFrom key 0 new → Between [] es → es ≡ new
  ends es r b = same_rising key 0 0 es new b.rises r (λ k. b.done k refl)

  -- operations that step at each number lead from old to new
  run : {B X : Type 0} (act : B → X → B) (wrap : List E → B) (edits_at : ℕ → List X)
      (step : (u : ℕ) (us : List ℕ) (es : List E) → is_among u us ≡ false → Between (u ∷ us) es → (next : List E) × (fold act (wrap es) (edits_at u) ≡ wrap next) × Stepped u es next)
      (us : List ℕ) (low : ℕ) (es : List E) → RisesFrom (λ n. n) low us → RisesFrom key 0 new → Between us es → fold act (wrap es) (flat_map edits_at us) ≡ wrap new
  run act wrap edits_at step [] low es rise r b = ap wrap (ends es r b)
  run act wrap edits_at step (u ∷ us) low es rise r b =
      let apart : is_among u us ≡ false = is_among_below (suc u) us u rise.1 (omega arith) in
      let next = step u us es apart b in
      let rest : fold act (wrap next.0) (flat_map edits_at us) ≡ wrap new = run act wrap edits_at step us (suc u) next.0 rise.1 r (goes_on u us es next.0 apart b next.2) in
      fold-append act (wrap es) (edits_at u) (flat_map edits_at us) ∙ ap (λ x. fold act x (flat_map edits_at us)) next.1 ∙ rest

  -- the same over the numbers of old and new
  pub whole_run : {B X : Type 0} (act : B → X → B) (wrap : List E → B) (edits_at : ℕ → List X)
      (step : (u : ℕ) (us : List ℕ) (es : List E) → is_among u us ≡ false → Between (u ∷ us) es → (next : List E) × (fold act (wrap es) (edits_at u) ≡ wrap next) × Stepped u es next)
      → RisesFrom key 0 old → RisesFrom key 0 new → fold act (wrap old) (flat_map edits_at (either_number (map key old) (map key new))) ≡ wrap new
  whole_run act wrap edits_at step r s = run act wrap edits_at step (either_number (map key old) (map key new)) 0 old (rises_with (map key old) (map key new) (RisesFrom-keys key 0 old r)) s (starts r)
