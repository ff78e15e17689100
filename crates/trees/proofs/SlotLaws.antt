-- Slots in which items stand: what is found, put and taken out of the items, by their slots.
use Rattle.std.proofs.Common.{◌≡◌, ℕ, zero, suc, ◌+◌, ◌<◌, ◌≤◌, Bool, true, false, cond, not, nat_lt, ◌==◌, List, [], ◌∷◌, ◌++◌, length, get_or, set, take, drop, filter, Option, Some, None, is_none, is_some, IfSome, option_and_then, append_assoc, append-nil, refl, sym, ap, ◌∙◌, arith}
use Rattle.std.specs.Option.{option_map, option_to_list}
use Rattle.std.specs.List.{slice_get}
use Rattle.std.proofs.lemmas.Bool.Decides.{nat_tests}
use Rattle.std.proofs.lemmas.Option.{same_Some}
use Rattle.lists.specs.Rising.{RisesFrom, IsAbove, after_key, find, put, remove}
use Rattle.lists.proofs.RisingLaws.{find_below, RisesFrom-lower, length-put, length-remove, remove_missing, key_at}
use Rattle.lists.proofs.Places.{find_here, find_missing}
use Rattle.trees.specs.declared.slot.Slot.{Slot}
use Rattle.trees.specs.Slots.{AreOwn, ends_with_hole, entry_of, item_of, read_all, slot_number}

module _ {X : Type 0} where
  -- the last slot tells whether it is a hole
  pub last_is : (ss : List (Slot X)) (at : ℕ) (s : Slot X) → suc at ≡ length ss → slice_get ss at ≡ Some s → ends_with_hole ss ≡ is_none s.item
  last_is [] at s n h = absurd (omega arith)
  last_is (t ∷ []) zero s n h = ap (λ (u : Slot X). is_none u.item) (same_Some t s h)
  last_is (t ∷ []) (suc at) s n h = absurd (omega (arith, n))
  last_is (t ∷ u ∷ ss) zero s n h = absurd (omega (arith, n))
  last_is (t ∷ u ∷ ss) (suc at) s n h = last_is (u ∷ ss) at s (omega (arith, n)) h

  pub none_or_some : (o : Option X) (b : Bool) → is_some o ≡ not b → is_none o ≡ b
  none_or_some None b h = grind (arith, h)
  none_or_some (Some x) b h = grind (arith, h)

  pub none_if : (o : Option X) (b : Bool) → is_some o ≡ not b → b ≡ true → o ≡ None
  none_if None b h t = refl
  none_if (Some x) b h t = grind (arith, h, t)

  pub not_empty : (ss : List (Slot X)) → ends_with_hole ss ≡ true → 1 ≤ length ss
  not_empty [] hole = cc
  not_empty (s ∷ ss) hole = omega arith

  -- a hole has no item, alone or with its number
  pub item_agrees : (s : Slot X) → is_none (item_of s) ≡ is_none s.item
  item_agrees s = refl

  pub entry_agrees : (s : Slot X) → is_none (entry_of s) ≡ is_none s.item
  entry_agrees s = of_item s.item
    where
      of_item : (o : Option X) → is_none {T = ℕ × X} (option_map (λ x. (s.number, x)) o) ≡ is_none o
      of_item None = refl
      of_item (Some x) = refl

  -- another slot at a place, of the same number
  pub rises-set : (low : ℕ) (ss : List (Slot X)) (at : ℕ) (t d : Slot X) → RisesFrom slot_number low ss → at < length ss → t.number ≡ (get_or ss at d).number → RisesFrom slot_number low (set ss at t)
  rises-set low [] at t d r l h = absurd (omega arith)
  rises-set low (s ∷ ss) zero t d r l h = (omega (arith, r.0, h), rw (← h) at r.1)
  rises-set low (s ∷ ss) (suc at) t d r l h = (r.0, rises-set (suc s.number) ss at t d r.1 (omega arith) h)

module _ {X Y : Type 0} (read : Slot X → Option Y) (agrees : (s : Slot X) → is_none (read s) ≡ is_none s.item) where
  no_item : (o : Option Y) → is_none o ≡ true → [] ≡ option_to_list o ++ []
  no_item None h = refl
  no_item (Some y) h = cc

  -- a hole at the end goes
  pub items-shorter : (ss : List (Slot X)) (at : ℕ) → suc at ≡ length ss → ends_with_hole ss ≡ true → read_all read (take at ss) ≡ read_all read ss
  items-shorter [] at n hole = absurd (omega (arith, n))
  items-shorter (s ∷ []) zero n hole = no_item (read s) (agrees s ∙ hole)
  items-shorter (s ∷ []) (suc at) n hole = absurd (omega (arith, n))
  items-shorter (s ∷ t ∷ ss) zero n hole = absurd (omega (arith, n))
  items-shorter (s ∷ t ∷ ss) (suc at) n hole = ap (λ xs. option_to_list (read s) ++ xs) (items-shorter (t ∷ ss) at (omega (arith, n)) hole)

  -- a slot more
  pub items-push : (ss : List (Slot X)) (t : Slot X) → read_all read (ss ++ t ∷ []) ≡ read_all read ss ++ option_to_list (read t)
  items-push [] t = append-nil (option_to_list (read t))
  items-push (s ∷ ss) t = ap (λ xs. option_to_list (read s) ++ xs) (items-push ss t) ∙ sym (append_assoc (option_to_list (read s)) (read_all read ss) (option_to_list (read t)))

  dropped : (i : Option Y) (b : Bool) (s : Slot X) (ss : List (Slot X)) (ys : List Y) → read s ≡ i → is_none i ≡ not b → read_all read ss ≡ ys → read_all read (cond b (s ∷ ss) ss) ≡ option_to_list i ++ ys
  dropped None true s ss ys is none rest = cc
  dropped None false s ss ys is none rest = rest
  dropped (Some y) true s ss ys is none rest = ap (λ o. option_to_list o ++ read_all read ss) is ∙ ap (λ l. y ∷ l) rest
  dropped (Some y) false s ss ys is none rest = cc

  not_none : (o : Option X) → is_none o ≡ not (is_some o)
  not_none None = refl
  not_none (Some x) = refl

  -- the holes go
  pub items-filter : (ss : List (Slot X)) → read_all read (filter (λ (s : Slot X). is_some s.item) ss) ≡ read_all read ss
  items-filter [] = refl
  items-filter (s ∷ ss) = dropped (read s) (is_some s.item) s (filter (λ (t : Slot X). is_some t.item) ss) (read_all read ss) refl (agrees s ∙ not_none s.item) (items-filter ss)

  fewer_with : (o : Option Y) (xs : List Y) (n : ℕ) → length xs ≤ n → length (option_to_list o ++ xs) ≤ suc n
  fewer_with None xs n l = omega (arith, l)
  fewer_with (Some x) xs n l = omega (arith, l)

  -- there are no more items than slots
  pub items_fewer : (ss : List (Slot X)) → length (read_all read ss) ≤ length ss
  items_fewer [] = omega arith
  items_fewer (s ∷ ss) = fewer_with (read s) (read_all read ss) (length ss) (items_fewer ss)

module _ {X Y : Type 0} (read : Slot X → Option Y) (agrees : (s : Slot X) → is_none (read s) ≡ is_none s.item) (key : Y → ℕ) where
  rise_with : (low number : ℕ) (i : Option Y) (xs : List Y) → low ≤ number → IfSome i (λ x. key x ≡ number) → RisesFrom key (suc number) xs → RisesFrom key low (option_to_list i ++ xs)
  rise_with low number None xs l own rest = RisesFrom-lower key low (suc number) xs rest (omega (arith, l))
  rise_with low number (Some x) xs l own rest = (omega (arith, l, own), rw (← own) at rest)

  -- the items rise as their slots do
  pub items_rise : (low : ℕ) (ss : List (Slot X)) → RisesFrom slot_number low ss → AreOwn read key ss → RisesFrom key low (read_all read ss)
  items_rise low [] r o = tt
  items_rise low (s ∷ ss) r o = rise_with low s.number (read s) (read_all read ss) r.0 o.0 (items_rise (suc s.number) ss r.1 o.1)

  find_with : (number k : ℕ) (i : Option Y) (xs : List Y) (behind : Option Y) → IfSome i (λ x. key x ≡ number) → RisesFrom key (suc number) xs → find key k xs ≡ behind →
      find key k (option_to_list i ++ xs) ≡ cond (number == k) i behind
  find_with number k None xs behind own rises rest = grind (arith, nat_tests, rest, find_below key (suc number) xs k rises)
  find_with number k (Some x) xs behind own rises rest = grind (arith, nat_tests, rest, own)

  held_if : (b : Bool) (s : Slot X) (o : Option (Slot X)) → cond b (read s) (option_and_then read o) ≡ option_and_then read (cond b (Some s) o)
  held_if true s o = refl
  held_if false s o = refl

  -- an item is found in the slot of its number
  pub find_item : (low k : ℕ) (ss : List (Slot X)) → RisesFrom slot_number low ss → AreOwn read key ss →
      find key k (read_all read ss) ≡ option_and_then read (find slot_number k ss)
  find_item low k [] r o = refl
  find_item low k (s ∷ ss) r o =
      find_with s.number k (read s) (read_all read ss) _ o.0 (items_rise (suc s.number) ss r.1 o.1) (find_item (suc s.number) k ss r.1 o.1)
      ∙ held_if (s.number == k) s (find slot_number k ss)

  -- at a slot of the number, and where none has it
  pub find_at_slot : (k : ℕ) (ss : List (Slot X)) (at : ℕ) (d : Slot X) → RisesFrom slot_number 0 ss → AreOwn read key ss → at < length ss → slot_number (get_or ss at d) ≡ k →
      find key k (read_all read ss) ≡ read (get_or ss at d)
  find_at_slot k ss at d r o l h = find_item 0 k ss r o ∙ ap (option_and_then read) (find_here slot_number 0 k ss at d r l h)

  pub find_no_slot : (k : ℕ) (ss : List (Slot X)) (at : ℕ) → RisesFrom slot_number 0 ss → AreOwn read key ss → IsAbove slot_number k (take at ss) → RisesFrom slot_number (suc k) (drop at ss) →
      find key k (read_all read ss) ≡ None
  find_no_slot k ss at r o above below = find_item 0 k ss r o ∙ ap (option_and_then read) (find_missing slot_number k ss at above below)

  -- ---- another slot at a place

  pub own-set : (ss : List (Slot X)) (at : ℕ) (t : Slot X) → AreOwn read key ss → IfSome (read t) (λ x. key x ≡ t.number) → AreOwn read key (set ss at t)
  own-set [] at t o h = tt
  own-set (s ∷ ss) zero t o h = (h, o.1)
  own-set (s ∷ ss) (suc at) t o h = (o.0, own-set ss at t o.1 h)

  none_left : (number k : ℕ) (i : Option Y) (xs : List Y) → number ≡ k → IfSome i (λ x. key x ≡ number) → RisesFrom key (suc number) xs → xs ≡ remove key k (option_to_list i ++ xs)
  none_left number k None xs same own rises = sym (remove_missing key k xs (find_below key (suc number) xs k rises (omega (arith, same))))
  none_left number k (Some x) xs same own rises =
      let gone : remove key k xs ≡ xs = remove_missing key k xs (find_below key (suc number) xs k rises (omega (arith, same))) in
      grind (arith, nat_tests, gone, same, own)

  stays : (number k : ℕ) (i : Option Y) (xs ys : List Y) → number < k → IfSome i (λ x. key x ≡ number) → xs ≡ remove key k ys → option_to_list i ++ xs ≡ remove key k (option_to_list i ++ ys)
  stays number k None xs ys less own rest = rest
  stays number k (Some x) xs ys less own rest = grind (arith, nat_tests, less, own, rest)

  nothing_more : (o : Option Y) (ys : List Y) → is_none o ≡ true → option_to_list o ++ ys ≡ ys
  nothing_more None ys h = refl
  nothing_more (Some y) ys h = cc

  -- a hole in the place of an item's slot
  pub items-hole : (low k : ℕ) (ss : List (Slot X)) (at : ℕ) (d : Slot X) → RisesFrom slot_number low ss → AreOwn read key ss → at < length ss → slot_number (get_or ss at d) ≡ k →
      read_all read (set ss at (record { number = k; item = None })) ≡ remove key k (read_all read ss)
  items-hole low k [] at d r o l h = absurd (omega arith)
  items-hole low k (s ∷ ss) zero d r o l h =
      let hole : Slot X = record { number = k; item = None } in
      let none : is_none (read hole) ≡ true = agrees hole in
      nothing_more (read hole) (read_all read ss) none ∙ none_left s.number k (read s) (read_all read ss) h o.0 (items_rise (suc s.number) ss r.1 o.1)
  items-hole low k (s ∷ ss) (suc at) d r o l h =
      stays s.number k (read s) _ (read_all read ss) (omega (arith, h, key_at slot_number (suc s.number) ss at d r.1 (omega arith))) o.0 (items-hole (suc s.number) k ss at d r.1 o.1 (omega arith) h)

  put_with : (number : ℕ) (i : Option Y) (xs : List Y) (x : Y) → is_some i ≡ true → IfSome i (λ y. key y ≡ number) → key x ≡ number → x ∷ xs ≡ put key x (option_to_list i ++ xs)
  put_with number None xs x there own same = cc
  put_with number (Some y) xs x there own same = grind (arith, nat_tests, own, same)

  put_behind : (number : ℕ) (i : Option Y) (xs ys : List Y) (x : Y) → number < key x → IfSome i (λ y. key y ≡ number) → xs ≡ put key x ys → option_to_list i ++ xs ≡ put key x (option_to_list i ++ ys)
  put_behind number None xs ys x less own rest = rest
  put_behind number (Some y) xs ys x less own rest = grind (arith, nat_tests, own, less, rest)

  -- another item in the place of one
  pub items-put : (low : ℕ) (x : Y) (t : Slot X) (ss : List (Slot X)) (at : ℕ) (d : Slot X) → read t ≡ Some x → RisesFrom slot_number low ss → AreOwn read key ss → at < length ss →
      slot_number (get_or ss at d) ≡ key x → is_some (read (get_or ss at d)) ≡ true → read_all read (set ss at t) ≡ put key x (read_all read ss)
  items-put low x t [] at d is r o l h there = absurd (omega arith)
  items-put low x t (s ∷ ss) zero d is r o l h there = ap (λ i. option_to_list i ++ read_all read ss) is ∙ put_with s.number (read s) (read_all read ss) x there o.0 (sym h)
  items-put low x t (s ∷ ss) (suc at) d is r o l h there =
      put_behind s.number (read s) _ (read_all read ss) x (omega (arith, h, key_at slot_number (suc s.number) ss at d r.1 (omega arith))) o.0 (items-put (suc s.number) x t ss at d is r.1 o.1 (omega arith) h there)

  -- ---- a slot more

  pub own-push : (ss : List (Slot X)) (t : Slot X) → AreOwn read key ss → IfSome (read t) (λ x. key x ≡ t.number) → AreOwn read key (ss ++ t ∷ [])
  own-push [] t o h = (h, tt)
  own-push (s ∷ ss) t o h = (o.0, own-push ss t o.1 h)

  above_last : (number k : ℕ) (i : Option Y) → is_none i ≡ false → IfSome i (λ x. key x ≡ number) → IsAbove key k (option_to_list i ++ []) → number < k
  above_last number k None full own above = cc
  above_last number k (Some x) full own above = omega (arith, own, above.0)

  behind : (k : ℕ) (i : Option Y) (xs : List Y) → IsAbove key k (option_to_list i ++ xs) → IsAbove key k xs
  behind k None xs above = above
  behind k (Some x) xs above = above.1

  -- where the last slot is no hole, the slots are below a number as the items are
  pub slots_above : (low k : ℕ) (ss : List (Slot X)) → RisesFrom slot_number low ss → AreOwn read key ss → ends_with_hole ss ≡ false → IsAbove key k (read_all read ss) → IsAbove slot_number k ss
  slots_above low k [] r o full above = tt
  slots_above low k (s ∷ []) r o full above = let last : is_none (read s) ≡ false = agrees s ∙ full in (above_last s.number k (read s) last o.0 above, tt)
  slots_above low k (s ∷ t ∷ ss) r o full above =
      let rest = slots_above (suc s.number) k (t ∷ ss) r.1 o.1 full (behind k (read s) (read_all read (t ∷ ss)) above) in
      (omega (arith, rest.0, r.1.0), rest)

  -- ---- fewer slots

  pub own-filter : (p : Slot X → Bool) (ss : List (Slot X)) → AreOwn read key ss → AreOwn read key (filter p ss)
  own-filter p [] o = tt
  own-filter p (s ∷ ss) o = by_test (p s) refl (own-filter p ss o.1)
    where
      by_test : (b : Bool) → p s ≡ b → AreOwn read key (filter p ss) → AreOwn read key (cond (p s) (s ∷ filter p ss) (filter p ss))
      by_test true is rest = rw is (o.0, rest)
      by_test false is rest = rw is rest

  pub own-take : (ss : List (Slot X)) (n : ℕ) → AreOwn read key ss → AreOwn read key (take n ss)
  own-take ss zero o = tt
  own-take [] (suc n) o = tt
  own-take (s ∷ ss) (suc n) o = (o.0, own-take ss n o.1)

  -- ---- the slots behind a number

  filter_with : (number k : ℕ) (i : Option Y) (xs : List Y) → IfSome i (λ x. key x ≡ number) →
      filter (λ x. nat_lt k (key x)) (option_to_list i ++ xs) ≡ cond (nat_lt k number) (option_to_list i ++ filter (λ x. nat_lt k (key x)) xs) (filter (λ x. nat_lt k (key x)) xs)
  filter_with number k None xs own = grind (arith, nat_tests)
  filter_with number k (Some x) xs own = grind (arith, nat_tests, own)

  items_if : (b : Bool) (s : Slot X) (ss : List (Slot X)) → read_all read (cond b (s ∷ ss) ss) ≡ cond b (option_to_list (read s) ++ read_all read ss) (read_all read ss)
  items_if true s ss = refl
  items_if false s ss = refl

  items-behind : (k : ℕ) (ss : List (Slot X)) → AreOwn read key ss → read_all read (filter (λ s. nat_lt k (slot_number s)) ss) ≡ filter (λ x. nat_lt k (key x)) (read_all read ss)
  items-behind k [] o = refl
  items-behind k (s ∷ ss) o =
      items_if (nat_lt k s.number) s (filter (λ t. nat_lt k (slot_number t)) ss)
      ∙ (ap (λ xs. cond (nat_lt k s.number) (option_to_list (read s) ++ xs) xs) (items-behind k ss o.1)
      ∙ sym (filter_with s.number k (read s) (read_all read ss) o.0))

  -- the items of the slots behind a number are the items behind it
  pub items-after : (from : Option ℕ) (ss : List (Slot X)) → AreOwn read key ss → read_all read (after_key slot_number from ss) ≡ after_key key from (read_all read ss)
  items-after None ss o = refl
  items-after (Some k) ss o = items-behind k ss o

  -- how many items there are after an edit
  pub length-exchanged : (low : ℕ) (x : Y) (xs : List Y) → RisesFrom key low xs → length (cond (is_some (find key (key x) xs)) (put key x xs) xs) ≡ length xs
  length-exchanged low x xs r = by_test (is_some (find key (key x) xs)) refl (length-put key low x xs r)
    where
      by_test : (b : Bool) → is_some (find key (key x) xs) ≡ b → length (put key x xs) ≡ length xs + cond (is_some (find key (key x) xs)) 0 1 → length (cond b (put key x xs) xs) ≡ length xs
      by_test true is law = omega (arith, rw is at law)
      by_test false is law = refl

  pub length-missed : (low k : ℕ) (xs : List Y) → RisesFrom key low xs → find key k xs ≡ None → length (remove key k xs) ≡ length xs
  length-missed low k xs r none = let law = length-remove key low k xs r in omega (arith, rw none at law)

  pub length-taken : (low k : ℕ) (xs : List Y) (x : Y) → RisesFrom key low xs → find key k xs ≡ Some x → length (remove key k xs) + 1 ≡ length xs
  length-taken low k xs x r found = let law = length-remove key low k xs r in omega (arith, rw found at law)
