-- What looking up, putting in and taking out say of one another in lists that rise by a key.
use Rattle.std.proofs.Common.{◌≡◌, ℕ, zero, suc, ◌+◌, ◌<◌, ◌≤◌, Bool, true, false, cond, not, ◌==◌, List, [], ◌∷◌, ◌++◌, length, get_or, take, drop, Contains, Option, Some, None, is_some, option_and_then, filter, refl, sym, ap, ◌∙◌, arith}
use Rattle.std.specs.List.{list_any}
use Rattle.std.specs.Option.{option_or}
use Rattle.std.proofs.lemmas.Bool.Decides.{nat_tests}
use Rattle.std.proofs.lemmas.Option.{same_Some, cond_some}
use Rattle.lists.specs.Rising.{RisesFrom, IsAbove, find, put, remove, keys}

module _ {E : Type 0} (key : E → ℕ) where
  -- looking up
  pub find_first : (e : E) (es : List E) → find key (key e) (e ∷ es) ≡ Some e
  find_first e es = grind (arith, nat_tests)

  pub find_key : (k : ℕ) (es : List E) (e : E) → find key k es ≡ Some e → key e ≡ k
  find_key k [] e h = cc
  find_key k (x ∷ es) e h = grind (arith, nat_tests, find_key k es e)

  pub find_below : (low : ℕ) (es : List E) (k : ℕ) → RisesFrom key low es → k < low → find key k es ≡ None
  find_below low [] k r h = refl
  find_below low (e ∷ es) k r h = grind (arith, nat_tests, find_below (suc (key e)) es k r.1 (omega arith))

  pub find_above : (high : ℕ) (es : List E) (k : ℕ) → IsAbove key high es → high ≤ k → find key k es ≡ None
  find_above high [] k a h = refl
  find_above high (e ∷ es) k a h = grind (arith, nat_tests, find_above high es k a.1 h)

  -- what stands at a place
  pub key_at : (low : ℕ) (es : List E) (at : ℕ) (d : E) → RisesFrom key low es → at < length es → low ≤ key (get_or es at d)
  key_at low [] at d r h = absurd (omega arith)
  key_at low (e ∷ es) zero d r h = r.0
  key_at low (e ∷ es) (suc at) d r h = omega (arith, r.0, key_at (suc (key e)) es at d r.1 (omega arith))

  pub find_at : (low : ℕ) (es : List E) (at : ℕ) (d : E) → RisesFrom key low es → at < length es → find key (key (get_or es at d)) es ≡ Some (get_or es at d)
  find_at low [] at d r h = absurd (omega arith)
  find_at low (e ∷ es) zero d r h = find_first e es
  find_at low (e ∷ es) (suc at) d r h = grind (arith, nat_tests, key_at (suc (key e)) es at d r.1 (omega arith), find_at (suc (key e)) es at d r.1 (omega arith))

  pub Contains-find : (k : ℕ) (es : List E) (e : E) → find key k es ≡ Some e → Contains es e
  Contains-find k [] e h = cc
  Contains-find k (x ∷ es) e h =
      let cases : (b : Bool) → (key x == k) ≡ b → Contains (x ∷ es) e =
      elim [ true ↦ λ t. let same : Some x ≡ Some e = rw t at h in (0, omega arith, same_Some x e same) | false ↦ λ f. let c = Contains-find k es e (rw f at h) in (suc c.0, omega (arith, c.1), c.2) ] in
      cases (key x == k) refl

  pub find-Contains : (low : ℕ) (es : List E) (e : E) → RisesFrom key low es → Contains es e → find key (key e) es ≡ Some e
  find-Contains low es e r c = rw (← c.2) (find_at low es c.0 e r c.1)

  -- after an edit
  pub find-put : (x : E) (es : List E) (k : ℕ) → find key k (put key x es) ≡ cond (key x == k) (Some x) (find key k es)
  find-put x [] k = refl
  find-put x (e ∷ es) k = grind (arith, nat_tests, find-put x es k)

  pub find-remove : (j : ℕ) (es : List E) (k : ℕ) → find key k (remove key j es) ≡ cond (j == k) None (find key k es)
  find-remove j [] k = grind (arith, nat_tests)
  find-remove j (e ∷ es) k = grind (arith, nat_tests, find-remove j es k)

  pub find-append : (xs ys : List E) (k : ℕ) → find key k (xs ++ ys) ≡ option_or (find key k xs) (find key k ys)
  find-append [] ys k = refl
  find-append (x ∷ xs) ys k = grind (arith, nat_tests, find-append xs ys k)

  -- a filter keeps an item that passes, and makes none
  pub find-filter_none : (p : E → Bool) (es : List E) (k : ℕ) → find key k es ≡ None → find key k (filter p es) ≡ None
  find-filter_none p [] k h = refl
  find-filter_none p (e ∷ es) k h = grind (arith, nat_tests, find-filter_none p es k)

  pub find-filter_kept : (p : E → Bool) (es : List E) (k : ℕ) (e : E) → find key k es ≡ Some e → p e ≡ true → find key k (filter p es) ≡ Some e
  find-filter_kept p [] k e h t = h
  find-filter_kept p (x ∷ es) k e h t = grind (arith, nat_tests, find-filter_kept p es k e)

  pub find-filter_dropped : (low : ℕ) (p : E → Bool) (es : List E) (k : ℕ) (e : E) → RisesFrom key low es → find key k es ≡ Some e → p e ≡ false → find key k (filter p es) ≡ None
  find-filter_dropped low p [] k e r h f = refl
  find-filter_dropped low p (x ∷ es) k e r h f = grind (arith, nat_tests, find-filter_dropped (suc (key x)) p es k e r.1, find_below (suc (key x)) es k r.1, find-filter_none p es k)

  pub find-filter : (low : ℕ) (p : E → Bool) (es : List E) (k : ℕ) → RisesFrom key low es → find key k (filter p es) ≡ option_and_then (λ e. cond (p e) (Some e) None) (find key k es)
  find-filter low p [] k r = refl
  find-filter low p (e ∷ es) k r = grind (arith, nat_tests, find-filter (suc (key e)) p es k r.1, find_below (suc (key e)) es k r.1)

  some_passes : (p : E → Bool) (o : Option E) (e : E) → option_and_then (λ x. cond (p x) (Some x) None) o ≡ Some e → (o ≡ Some e) × (p e ≡ true)
  some_passes p None e h = cc
  some_passes p (Some x) e h = let t = cond_some (p x) x e h in (ap Some t.1, rw t.1 at t.0)

  pub find-filter_passes : (low : ℕ) (p : E → Bool) (es : List E) (k : ℕ) (e : E) → RisesFrom key low es → find key k (filter p es) ≡ Some e → (find key k es ≡ Some e) × (p e ≡ true)
  find-filter_passes low p es k e r h = some_passes p (find key k es) e (sym (find-filter low p es k r) ∙ h)

  pub list_any-keys : (es : List E) (k : ℕ) → list_any (λ n. n == k) (keys key es) ≡ is_some (find key k es)
  list_any-keys [] k = refl
  list_any-keys (e ∷ es) k = grind (arith, nat_tests, list_any-keys es k)

  -- rising
  pub RisesFrom-lower : (low high : ℕ) (es : List E) → RisesFrom key high es → low ≤ high → RisesFrom key low es
  RisesFrom-lower low high [] r h = tt
  RisesFrom-lower low high (e ∷ es) r h = (omega arith, r.1)

  pub RisesFrom-take : (low : ℕ) (es : List E) (at : ℕ) → RisesFrom key low es → RisesFrom key low (take at es)
  RisesFrom-take low es zero r = tt
  RisesFrom-take low [] (suc at) r = tt
  RisesFrom-take low (e ∷ es) (suc at) r = (r.0, RisesFrom-take (suc (key e)) es at r.1)

  pub RisesFrom-drop : (low : ℕ) (es : List E) (at : ℕ) → RisesFrom key low es → RisesFrom key low (drop at es)
  RisesFrom-drop low es zero r = r
  RisesFrom-drop low [] (suc at) r = tt
  RisesFrom-drop low (e ∷ es) (suc at) r = RisesFrom-lower low (suc (key e)) (drop at es) (RisesFrom-drop (suc (key e)) es at r.1) (omega (arith, r.0))

  pub RisesFrom-drop_after : (low : ℕ) (es : List E) (at : ℕ) (d : E) → RisesFrom key low es → at < length es → RisesFrom key (suc (key (get_or es at d))) (drop (suc at) es)
  RisesFrom-drop_after low [] at d r h = absurd (omega arith)
  RisesFrom-drop_after low (e ∷ es) zero d r h = r.1
  RisesFrom-drop_after low (e ∷ es) (suc at) d r h = RisesFrom-drop_after (suc (key e)) es at d r.1 (omega arith)

  pub IsAbove-take : (low : ℕ) (es : List E) (at : ℕ) (d : E) → RisesFrom key low es → at < length es → IsAbove key (key (get_or es at d)) (take at es)
  IsAbove-take low [] at d r h = absurd (omega arith)
  IsAbove-take low (e ∷ es) zero d r h = tt
  IsAbove-take low (e ∷ es) (suc at) d r h = (omega (arith, key_at (suc (key e)) es at d r.1 (omega arith)), IsAbove-take (suc (key e)) es at d r.1 (omega arith))

  pub RisesFrom-put : (low : ℕ) (x : E) (es : List E) → RisesFrom key low es → low ≤ key x → RisesFrom key low (put key x es)
  RisesFrom-put low x [] r h = (h, tt)
  RisesFrom-put low x (e ∷ es) r h = grind (arith, nat_tests, RisesFrom-put (suc (key e)) x es r.1)

  pub RisesFrom-filter : (low : ℕ) (p : E → Bool) (es : List E) → RisesFrom key low es → RisesFrom key low (filter p es)
  RisesFrom-filter low p [] r = tt
  RisesFrom-filter low p (e ∷ es) r = grind (arith, nat_tests, RisesFrom-filter (suc (key e)) p es r.1, RisesFrom-lower low (suc (key e)) (filter p es))

  pub RisesFrom-remove : (low k : ℕ) (es : List E) → RisesFrom key low es → RisesFrom key low (remove key k es)
  RisesFrom-remove low k es r = RisesFrom-filter low (λ e. not (key e == k)) es r

  pub RisesFrom-append : (low high : ℕ) (xs ys : List E) → RisesFrom key low xs → IsAbove key high xs → low ≤ high → RisesFrom key high ys → RisesFrom key low (xs ++ ys)
  RisesFrom-append low high [] ys r a h s = RisesFrom-lower low high ys s h
  RisesFrom-append low high (x ∷ xs) ys r a h s = (r.0, RisesFrom-append (suc (key x)) high xs ys r.1 a.1 (omega arith) s)

  pub RisesFrom-push : (low : ℕ) (es : List E) (x : E) → RisesFrom key low es → IsAbove key (key x) es → low ≤ key x → RisesFrom key low (es ++ x ∷ [])
  RisesFrom-push low es x r a h = RisesFrom-append low (key x) es (x ∷ []) r a h (omega arith, tt)

  pub IsAbove-higher : (high higher : ℕ) (es : List E) → IsAbove key high es → high ≤ higher → IsAbove key higher es
  IsAbove-higher high higher [] a h = tt
  IsAbove-higher high higher (e ∷ es) a h = (omega (arith, a.0), IsAbove-higher high higher es a.1 h)

  pub IsAbove-append : (high : ℕ) (xs ys : List E) → IsAbove key high xs → IsAbove key high ys → IsAbove key high (xs ++ ys)
  IsAbove-append high [] ys a b = b
  IsAbove-append high (x ∷ xs) ys a b = (a.0, IsAbove-append high xs ys a.1 b)

  pub IsAbove-put : (high : ℕ) (x : E) (es : List E) → IsAbove key high es → key x < high → IsAbove key high (put key x es)
  IsAbove-put high x [] a h = (h, tt)
  IsAbove-put high x (e ∷ es) a h = grind (arith, nat_tests, IsAbove-put high x es a.1 h)

  pub IsAbove-filter : (high : ℕ) (p : E → Bool) (es : List E) → IsAbove key high es → IsAbove key high (filter p es)
  IsAbove-filter high p [] a = tt
  IsAbove-filter high p (e ∷ es) a = grind (arith, nat_tests, IsAbove-filter high p es a.1)

  -- which list it is
  pub put-last : (x : E) (es : List E) → IsAbove key (key x) es → put key x es ≡ es ++ x ∷ []
  put-last x [] a = refl
  put-last x (e ∷ es) a = grind (arith, nat_tests, put-last x es a.1)

  pub put_found : (low : ℕ) (x : E) (es : List E) → RisesFrom key low es → find key (key x) es ≡ Some x → put key x es ≡ es
  put_found low x [] r h = cc
  put_found low x (e ∷ es) r h = grind (arith, nat_tests, find_below (suc (key e)) es (key x) r.1, put_found (suc (key e)) x es r.1)

  pub remove_missing : (k : ℕ) (es : List E) → find key k es ≡ None → remove key k es ≡ es
  remove_missing k [] h = refl
  remove_missing k (e ∷ es) h = grind (arith, nat_tests, remove_missing k es)

  pub length-put : (low : ℕ) (x : E) (es : List E) → RisesFrom key low es → length (put key x es) ≡ length es + cond (is_some (find key (key x) es)) 0 1
  length-put low x [] r = omega arith
  length-put low x (e ∷ es) r = grind (arith, nat_tests, find_below (suc (key e)) es (key x) r.1, length-put (suc (key e)) x es r.1)

  pub length-remove : (low k : ℕ) (es : List E) → RisesFrom key low es → length (remove key k es) + cond (is_some (find key k es)) 1 0 ≡ length es
  length-remove low k [] r = omega arith
  length-remove low k (e ∷ es) r = grind (arith, nat_tests, length-remove (suc (key e)) k es r.1, find_below (suc (key e)) es k r.1, remove_missing k es)

  same_first : (low high : ℕ) (x y : E) (xs ys : List E) → RisesFrom key low (x ∷ xs) → RisesFrom key high (y ∷ ys) → ((k : ℕ) → find key k (x ∷ xs) ≡ find key k (y ∷ ys)) → x ≡ y
  same_first low high x y xs ys r s h =
      let at_x = h (key x) in
      let at_y = h (key y) in
      let first_x = find_first x xs in
      let first_y = find_first y ys in
      grind (arith, nat_tests, find_below (suc (key x)) xs (key y) r.1, find_below (suc (key y)) ys (key x) s.1)

  same_rest : (x : E) (xs ys : List E) → RisesFrom key (suc (key x)) xs → RisesFrom key (suc (key x)) ys → (k : ℕ) → find key k (x ∷ xs) ≡ find key k (x ∷ ys) → find key k xs ≡ find key k ys
  same_rest x xs ys r s k h =
      grind (arith, nat_tests, find_below (suc (key x)) xs k r, find_below (suc (key x)) ys k s)

  -- two rising lists that answer every look-up alike are one
  pub same_rising : (low high : ℕ) (xs ys : List E) → RisesFrom key low xs → RisesFrom key high ys → ((k : ℕ) → find key k xs ≡ find key k ys) → xs ≡ ys
  same_rising low high [] [] r s h = refl
  same_rising low high [] (y ∷ ys) r s h = let at_y = h (key y) in let first_y = find_first y ys in cc
  same_rising low high (x ∷ xs) [] r s h = let at_x = h (key x) in let first_x = find_first x xs in cc
  same_rising low high (x ∷ xs) (y ∷ ys) r s h =
      let first : x ≡ y = same_first low high x y xs ys r s h in
      let rises : RisesFrom key (suc (key x)) ys = rw first s.1 in
      let rest : xs ≡ ys = same_rising (suc (key x)) (suc (key x)) xs ys r.1 rises (λ k. same_rest x xs ys r.1 rises k (h k ∙ ap (λ e. find key k (e ∷ ys)) (sym first))) in
      cc

-- the laws that rewrite a term, for `grind` and `simp`
pub ruleset rising_laws = (find-put, find-remove, find-append, list_any-keys)
