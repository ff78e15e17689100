-- Items that rise by their numbers and are told apart by what they hold: which number what they hold leads to, while items are put in and taken out.
use Rattle.std.proofs.Common.{◌≡◌, ℕ, suc, ◌+◌, ◌≤◌, Bool, true, false, cond, not, ◌&&◌, ◌||◌, List, [], ◌∷◌, ◌++◌, length, map, filter, Option, Some, None, option_map, refl, ap, arith}
use Rattle.std.specs.List.{find, list_any}
use Rattle.std.specs.Map.{update}
use Rattle.std.proofs.lemmas.Bool.Decides.{nat_tests}
use Rattle.std.proofs.lemmas.Option.{same_Some}
use Rattle.lists.specs.Rising as rising
use Rattle.lists.specs.Rising.{RisesFrom, IsAbove}
use Rattle.lists.proofs.RisingLaws.{find_below, remove_missing}

-- nothing stands twice
abbrev pub all_differ : {W : Type 0} → (W → W → Bool) → List W → Bool
all_differ same [] = true
all_differ same (w ∷ ws) = not (list_any (same w) ws) && all_differ same ws

-- the item that holds this
abbrev pub item_of : {E W : Type 0} → (E → W) → (W → W → Bool) → W → List E → Option E
item_of what same w es = find (λ e. same (what e) w) es

-- what is held leads to the number of its item
abbrev pub Leads : {E W : Type 0} → (E → ℕ) → (E → W) → (W → W → Bool) → List E → (W → Option ℕ) → Type 0
Leads {E} {W} number what same es f = (w : W) → f w ≡ option_map number (item_of what same w es)

module _ {E W : Type 0} (number : E → ℕ) (what : E → W) (same : W → W → Bool) (is : (a b : W) → same a b ≡ true → a ≡ b) (self : (a : W) → same a a ≡ true) where
  -- ---- the item and its number

  -- it is no lower than the least
  number_low : (low : ℕ) (es : List E) (w : W) (e : E) → RisesFrom number low es → item_of what same w es ≡ Some e → low ≤ number e
  number_low low [] w e r h = cc
  number_low low (x ∷ es) w e r h = grind (arith, nat_tests, r.0, number_low (suc (number x)) es w e r.1)

  -- its number finds it
  pub item_found : (low : ℕ) (es : List E) (w : W) (e : E) → RisesFrom number low es → item_of what same w es ≡ Some e → rising.find number (number e) es ≡ Some e
  item_found low [] w e r h = cc
  item_found low (x ∷ es) w e r h = grind (arith, nat_tests, number_low (suc (number x)) es w e r.1, item_found (suc (number x)) es w e r.1)

  -- it holds this
  pub item_has : (es : List E) (w : W) (e : E) → item_of what same w es ≡ Some e → same (what e) w ≡ true
  item_has [] w e h = cc
  item_has (x ∷ es) w e h = grind (arith, nat_tests, item_has es w e)

  -- what none of the items holds is not what one of them holds
  other_holds : (es : List E) (w : W) (n : ℕ) (e : E) → list_any (same w) (map what es) ≡ false → rising.find number n es ≡ Some e → same w (what e) ≡ false
  other_holds [] w n e h at = cc
  other_holds (x ∷ es) w n e h at = grind (arith, nat_tests, other_holds es w n e)

  -- the item of a number is that which holds what it holds
  pub found_item : (n : ℕ) (es : List E) (e : E) → all_differ same (map what es) ≡ true → rising.find number n es ≡ Some e → item_of what same (what e) es ≡ Some e
  found_item n [] e d h = cc
  found_item n (x ∷ es) e d h = grind (arith, nat_tests, found_item n es e, other_holds es (what x) n e, self (what e))

  -- ---- an item is added

  -- who holds what
  item-push : (es : List E) (x : E) (w : W) → item_of what same (what x) es ≡ None → item_of what same w (es ++ x ∷ []) ≡ cond (same (what x) w) (Some x) (item_of what same w es)
  item-push [] x w h = refl
  item-push (e ∷ es) x w h = grind (arith, nat_tests, item-push es x w, is (what x) w, is (what e) w, self w)

  -- the number that leads somewhere is that of an item
  pub item_there : (es : List E) (w : W) (n : ℕ) → option_map number (item_of what same w es) ≡ Some n → (e : E) × (item_of what same w es ≡ Some e) × (number e ≡ n)
  item_there es w n h =
      let go : (o : Option E) → item_of what same w es ≡ o → option_map number o ≡ Some n → (e : E) × (item_of what same w es ≡ Some e) × (number e ≡ n) =
      elim [ None ↦ λ i h. absurd (let clash : None ≡ Some n = h in cc) | Some e ↦ λ i h. (e, i, same_Some (number e) n h) ] in
      go (item_of what same w es) refl h

  -- where what is held leads
  pub leads-push : (es : List E) (x : E) (f g : W → Option ℕ) → item_of what same (what x) es ≡ None → Leads number what same es f →
      ((q : W) → g q ≡ update same f (what x) (Some (number x)) q) → Leads number what same (es ++ x ∷ []) g
  leads-push es x f g h leads made = λ q. grind (arith, nat_tests, made q, leads q, item-push es x q h)

  -- whether one more is the same
  any-push : (ws : List W) (w v : W) → list_any (same w) (ws ++ v ∷ []) ≡ (list_any (same w) ws || same w v)
  any-push [] w v = grind (arith, nat_tests)
  any-push (u ∷ ws) w v = grind (arith, nat_tests, any-push ws w v)

  -- what the items hold
  what-push : (es : List E) (x : E) → map what (es ++ x ∷ []) ≡ map what es ++ what x ∷ []
  what-push [] x = refl
  what-push (e ∷ es) x = ap (λ ws. what e ∷ ws) (what-push es x)

  -- nothing stands twice
  pub differ-push : (es : List E) (x : E) → item_of what same (what x) es ≡ None → all_differ same (map what es) ≡ true → all_differ same (map what (es ++ x ∷ [])) ≡ true
  differ-push [] x h d = refl
  differ-push (e ∷ es) x h d = grind (arith, nat_tests, differ-push es x, what-push es x, any-push (map what es) (what e) (what x))

  -- ---- an item is taken out

  -- nothing goes where nothing is the same
  none_same : (es : List E) (w : W) → list_any (same w) (map what es) ≡ false → filter (λ e. not (same (what e) w)) es ≡ es
  none_same [] w h = refl
  none_same (e ∷ es) w h = grind (arith, nat_tests, none_same es w, is (what e) w, self w)

  -- what is taken out by its number is what holds this
  pub item_out : (low : ℕ) (es : List E) (w : W) (e : E) → RisesFrom number low es → all_differ same (map what es) ≡ true → item_of what same w es ≡ Some e →
      rising.remove number (number e) es ≡ filter (λ x. not (same (what x) w)) es
  item_out low [] w e r d h = refl
  item_out low (x ∷ es) w e r d h =
      let below = find_below number (suc (number x)) es (number x) r.1 in
      grind (arith, nat_tests, item_out (suc (number x)) es w e r.1, number_low (suc (number x)) es w e r.1, below, remove_missing number (number x) es, none_same es w, is (what x) w)

  -- who holds what
  item-out : (es : List E) (w q : W) → item_of what same q (filter (λ e. not (same (what e) w)) es) ≡ cond (same w q) None (item_of what same q es)
  item-out [] w q = grind (arith, nat_tests)
  item-out (e ∷ es) w q = grind (arith, nat_tests, item-out es w q, is (what e) w, is (what e) q, is w q, self q, self w)

  -- where what is held leads
  pub leads-out : (es : List E) (w : W) (f g : W → Option ℕ) → Leads number what same es f → ((q : W) → g q ≡ update same f w None q) → Leads number what same (filter (λ e. not (same (what e) w)) es) g
  leads-out es w f g leads made = λ q. grind (arith, nat_tests, made q, leads q, item-out es w q)

  -- what isn't there doesn't come by taking out
  any-filter : (es : List E) (p : E → Bool) (w : W) → list_any (same w) (map what es) ≡ false → list_any (same w) (map what (filter p es)) ≡ false
  any-filter [] p w h = refl
  any-filter (e ∷ es) p w h = grind (arith, nat_tests, any-filter es p w)

  -- nothing stands twice
  pub differ-filter : (es : List E) (p : E → Bool) → all_differ same (map what es) ≡ true → all_differ same (map what (filter p es)) ≡ true
  differ-filter [] p d = refl
  differ-filter (e ∷ es) p d = grind (arith, nat_tests, differ-filter es p, any-filter es p (what e))

-- ---- counts and copies

-- no more items than their numbers leave room for
pub few_items : {E : Type 0} (number : E → ℕ) (low high : ℕ) (es : List E) → RisesFrom number low es → IsAbove number high es → low ≤ high → low + length es ≤ high
few_items number low high [] r a h = omega arith
few_items number low high (e ∷ es) r a h = omega (arith, r.0, a.0, few_items number (suc (number e)) high es r.1 a.1 (omega (arith, a.0)))
