-- The operations on the items of a map: where an item comes under a key, another number with that key is gone.
use Rattle.std.proofs.Common.{◌≡◌, ◌≢◌, ℕ, suc, Bool, true, false, cond, if◌then◌else◌, not, ◌||◌, ◌==◌, List, [], ◌∷◌, map, Option, Some, None, option_and_then, ◌⊎◌, inl, inr, refl, sym, ap, ◌∙◌, arith}
use Rattle.std.specs.List.{fold, list_any}
use Rattle.std.specs.Option.{option_map}
use Rattle.std.specs.Str.{bytes_eq}
use Rattle.std.proofs.lemmas.Bool.Decides.{nat_tests}
use Rattle.lists.proofs.SameBytes.{same_bytes, bytes_eq_self}
use Rattle.lists.specs.Rising.{RisesFrom, find, remove}
use Rattle.lists.proofs.RisingLaws.{find_key, find-put, find-remove, find-filter, RisesFrom-put, RisesFrom-filter, RisesFrom-remove}
use Rattle.schema_model.specs.Classes.{Schema}
use Rattle.schema_model.specs.declared.value.Value.{Value}
use Rattle.schema_model.specs.declared.place.Home.{Home}
use Rattle.state_model.specs.declared.row.RowEntry.{RowEntry}
use Rattle.state_model.specs.declared.row.MapItem.{MapItem}
use Rattle.state_model.specs.Values.{same_value, is_link}
use Rattle.state_model.specs.Sound.{keys_differ}
use Rattle.state_model.specs.Places.{item_expects}
use Rattle.state_model.specs.Reached.{is_among}
use Rattle.wire_model.specs.declared.op.OpKey.TheVariants.{Item, Named}
use Rattle.wire_model.specs.Edits.{Edit, carried_value}
use Rattle.wire_model.specs.Effect.{Items, effect, without_key, put_named, put_value}
use Rattle.wire_model.specs.Patch.{carried, changed_place, place_edit, map_item, item_key, item_value, map_edits}
use Rattle.state_laws.proofs.SameValues.{same_is}
use Rattle.wire_laws.proofs.Values.{carried_is}
use Rattle.wire_laws.proofs.Runs.{Between, Stepped, Waits, whole_run}

-- ---- rising lists whose items change and keep their keys

module _ {E : Type 0} (key : E → ℕ) (f : E → E) (keeps : (e : E) → key (f e) ≡ key e) where
  -- an item is found as it was, changed
  find-map : (es : List E) (k : ℕ) → find key k (map f es) ≡ option_map f (find key k es)
  find-map [] k = refl
  find-map (e ∷ es) k = grind (arith, nat_tests, keeps e, find-map es k)

  -- the list still rises
  RisesFrom-map : (low : ℕ) (es : List E) → RisesFrom key low es → RisesFrom key low (map f es)
  RisesFrom-map low [] r = tt
  RisesFrom-map low (e ∷ es) r = (rw (keeps e) r.0, rw (keeps e) (RisesFrom-map (suc (key e)) es r.1))

-- ---- keys

-- the number of an item
abbrev pub number : MapItem → ℕ
number i = i.number

-- the key of an item that is found is among the keys
key_among : (items : List MapItem) (n : ℕ) (x : MapItem) (k : List ℕ) → find number n items ≡ Some x → k ≡ x.key → list_any (bytes_eq k) (map (λ (i : MapItem). i.key) items) ≡ true
key_among [] n x k h e = cc
key_among (i ∷ items) n x k h e = grind (arith, nat_tests, key_among items n x k, bytes_eq_self k)

-- where keys differ, an item of one key has one number
pub one_number : (items : List MapItem) (n m : ℕ) (x y : MapItem) → keys_differ (map (λ (i : MapItem). i.key) items) ≡ true
    → find number n items ≡ Some x → find number m items ≡ Some y → x.key ≡ y.key → n ≡ m
one_number [] n m x y d h k e = cc
one_number (i ∷ items) n m x y d h k e =
    let others : keys_differ (map (λ (j : MapItem). j.key) items) ≡ true = grind (arith, nat_tests) in
    let apart : list_any (bytes_eq i.key) (map (λ (j : MapItem). j.key) items) ≡ false = grind (arith, nat_tests) in
    let go : (b c : Bool) → (i.number == n) ≡ b → (i.number == m) ≡ c → n ≡ m = elim [
      | true ↦ elim [
        | true ↦ λ s t. grind (arith, nat_tests)
        | false ↦ λ s t.
            let first : Some i ≡ Some x = rw s at h in
            let rest : find number m items ≡ Some y = rw t at k in
            let same : i.key ≡ y.key = cc in
            let there = key_among items m y i.key rest same in cc
      ]
      | false ↦ elim [
        | true ↦ λ s t.
            let first : Some i ≡ Some y = rw t at k in
            let rest : find number n items ≡ Some x = rw s at h in
            let same : i.key ≡ x.key = cc in
            let there = key_among items n x i.key rest same in cc
        | false ↦ λ s t. one_number items n m x y others (rw s at h) (rw t at k) e
      ]
    ] in
    go (i.number == n) (i.number == m) refl refl

-- ---- what one operation leaves

-- without a key
find-without_key : (n : ℕ) (key : List ℕ) (items : List MapItem) (k : ℕ) → RisesFrom number 0 items
    → find number k (without_key n key items) ≡ option_and_then (λ (i : MapItem). cond ((i.number == n) || not (bytes_eq i.key key)) (Some i) None) (find number k items)
find-without_key n key items k r = find-filter number 0 (λ (i : MapItem). (i.number == n) || not (bytes_eq i.key key)) items k r

-- an item with a new value, where it is of this number
abbrev revalued : ℕ → Value → MapItem → MapItem
revalued n v i = if i.number == n then record { number = i.number; key = i.key; value = v } else i

-- its number stays
number-revalued : (n : ℕ) (v : Value) (i : MapItem) → (revalued n v i).number ≡ i.number
number-revalued n v i = let go : (b : Bool) → (i.number == n) ≡ b → (revalued n v i).number ≡ i.number = elim [ true ↦ λ t. rw t refl | false ↦ λ t. rw t refl ] in go (i.number == n) refl

-- an item is found with the new value, where it is of this number
pub find-put_value : (n : ℕ) (v : Value) (items : List MapItem) (k : ℕ) → find number k (put_value n v items) ≡ option_map (revalued n v) (find number k items)
find-put_value n v items k = find-map number (revalued n v) (number-revalued n v) items k

-- an item that gets the value of another with its number and key is that one
revalued_is : (u : ℕ) (x y : MapItem) → x.number ≡ u → y.number ≡ u → x.key ≡ y.key → revalued u y.value x ≡ y
revalued_is u x y n m k =
    let at : (x.number == u) ≡ true = grind (arith, nat_tests) in
    let number_is : x.number ≡ y.number = n ∙ sym m in
    rw at (ap (λ j. let i : MapItem = record { number = j; key = x.key; value = y.value } in i) number_is ∙ ap (λ j. let i : MapItem = record { number = y.number; key = j; value = y.value } in i) k)

-- what is found under another number isn't changed
pub not_revalued : (u k : ℕ) (v : Value) (o : Option MapItem) → k ≢ u → ((z : MapItem) → o ≡ Some z → z.number ≡ k) → option_map (revalued u v) o ≡ o
not_revalued u k v None d n = refl
not_revalued u k v (Some z) d n = let at : z.number ≡ k = n z refl in let other : (z.number == u) ≡ false = grind (arith, nat_tests) in rw other refl

-- an item that is put under its number and key is found there
find_named : (u : ℕ) (y : MapItem) (items : List MapItem) → y.number ≡ u → find number u (put_named u y.key y.value items) ≡ Some y
find_named u y items n =
    let made : MapItem = record { number = u; key = y.key; value = y.value } in
    let same : Some made ≡ Some y = ap (λ m. let i : MapItem = record { number = m; key = y.key; value = y.value } in Some i) (sym n) in
    let base = find-put number made (without_key u y.key items) u in
    base ∙ grind (arith, nat_tests)

-- another number is found as without the key
pub find_other_named : (u : ℕ) (y : MapItem) (items : List MapItem) (k : ℕ) → k ≢ u → find number k (put_named u y.key y.value items) ≡ find number k (without_key u y.key items)
find_other_named u y items k d = find-put number (record { number = u; key = y.key; value = y.value }) (without_key u y.key items) k ∙ grind (arith, nat_tests)

module _ (old new : List MapItem) (differ : keys_differ (map (λ (i : MapItem). i.key) new) ≡ true)
    (same_keys : (n : ℕ) (x y : MapItem) → map_item old n ≡ Some x → map_item new n ≡ Some y → x.key ≡ y.key) where
  -- an item between old and new has the key that new has for its number
  new_key : (left : List ℕ) (items : List MapItem) (n : ℕ) (x y : MapItem) → Between number old new left items → find number n items ≡ Some x → find number n new ≡ Some y → x.key ≡ y.key
  new_key left items n x y b h k = new_key_if (is_among n left) refl
    where
      waiting : Waits number old new n items → x.key ≡ y.key
      waiting (inl w) = same_keys n x y (sym w ∙ h) k
      waiting (inr w) = cc

      new_key_if : (among : Bool) → is_among n left ≡ among → x.key ≡ y.key
      new_key_if true t = waiting (b.waits n t)
      new_key_if false f = let d = b.done n f in cc

  -- another number with the key of an item of new isn't in new
  taken_away : (left : List ℕ) (items : List MapItem) (u k : ℕ) (y z : MapItem) → Between number old new left items → find number u new ≡ Some y → find number k items ≡ Some z → k ≢ u → bytes_eq z.key y.key ≡ true
      → find number k new ≡ None
  taken_away left items u k y z b h f d t = absent (find number k new) refl
    where
      absent : (o : Option MapItem) → find number k new ≡ o → find number k new ≡ None
      absent None e = e
      absent (Some x) e = absurd (d (one_number new k u x y differ e h (sym (new_key left items k z x b f e) ∙ same_bytes z.key y.key t)))

  -- ---- one number

  -- another number after an item of new is put under its key
  put_elsewhere : (left : List ℕ) (items : List MapItem) (u k : ℕ) (y : MapItem) → Between number old new left items → find number u new ≡ Some y → k ≢ u → (o : Option MapItem) → find number k items ≡ o
      → (option_and_then (λ (i : MapItem). cond ((i.number == u) || not (bytes_eq i.key y.key)) (Some i) None) o ≡ o) ⊎
      ((option_and_then (λ (i : MapItem). cond ((i.number == u) || not (bytes_eq i.key y.key)) (Some i) None) o ≡ None) × (find number k new ≡ None))
  put_elsewhere left items u k y b h d None f = inl refl
  put_elsewhere left items u k y b h d (Some z) f = go (bytes_eq z.key y.key) refl
    where
      other : (z.number == u) ≡ false
      other = let n : z.number ≡ k = find_key number k items z f in grind (arith, nat_tests)

      go : (same : Bool) → bytes_eq z.key y.key ≡ same
          → (cond ((z.number == u) || not (bytes_eq z.key y.key)) (Some z) None ≡ Some z) ⊎ ((cond ((z.number == u) || not (bytes_eq z.key y.key)) (Some z) None ≡ None) × (find number k new ≡ None))
      go true t = inr (rw (other, t) refl, taken_away left items u k y z b h f d t)
      go false t = inl (rw (other, t) refl)

  -- the item of new is put under its key
  put_step : (left : List ℕ) (items : List MapItem) (u : ℕ) (y : MapItem) → Between number old new left items → find number u new ≡ Some y → Stepped number old new u items (put_named u y.key y.value items)
  put_step left items u y b h = record {
    rises = RisesFrom-put number 0 (record { number = u; key = y.key; value = y.value }) (without_key u y.key items) (RisesFrom-filter number 0 (λ (i : MapItem). (i.number == u) || not (bytes_eq i.key y.key)) items b.rises) (omega arith);
    here = find_named u y items (find_key number u new y h) ∙ sym h;
    elsewhere = λ k d.
        let base : find number k (put_named u y.key y.value items) ≡ option_and_then (λ (i : MapItem). cond ((i.number == u) || not (bytes_eq i.key y.key)) (Some i) None) (find number k items) =
        find_other_named u y items k d ∙ find-without_key u y.key items k b.rises in
        rw base (put_elsewhere left items u k y b h d (find number k items) refl);
  }

  -- the item gets the value of new
  revalue_step : (left : List ℕ) (items : List MapItem) (u : ℕ) (x y : MapItem) → Between number old new left items → find number u items ≡ Some x → find number u new ≡ Some y
      → Stepped number old new u items (put_value u y.value items)
  revalue_step left items u x y b f h = record {
    rises = RisesFrom-map number (revalued u y.value) (number-revalued u y.value) 0 items b.rises;
    here =
        let made : revalued u y.value x ≡ y = revalued_is u x y (find_key number u items x f) (find_key number u new y h) (new_key left items u x y b f h) in
        find-put_value u y.value items u ∙ ap (option_map (revalued u y.value)) f ∙ ap Some made ∙ sym h;
    elsewhere = λ k d. inl (find-put_value u y.value items k ∙ not_revalued u k y.value (find number k items) d (λ z e. find_key number k items z e));
  }

  -- an item that new lacks is removed
  remove_step : (left : List ℕ) (items : List MapItem) (u : ℕ) → Between number old new left items → find number u new ≡ None → Stepped number old new u items (remove number u items)
  remove_step left items u b h = record {
    rises = RisesFrom-remove number 0 u items b.rises;
    here = find-remove number u items u ∙ grind (arith, nat_tests);
    elsewhere = λ k d. inl (find-remove number u items k ∙ grind (arith, nat_tests));
  }

  -- an item is as it was
  same_step : (left : List ℕ) (items : List MapItem) (u : ℕ) → Between number old new left items → find number u items ≡ find number u new → Stepped number old new u items items
  same_step left items u b h = record { rises = b.rises; here = h; elsewhere = λ k d. inl refl }

  module _ (home declared : Home) (schema : Schema) (rows : List RowEntry) where
    -- the list after one number
    abbrev Next : List ℕ → ℕ → List MapItem → List Edit → Type 0
    Next left u items edits = (next : List MapItem) × (fold (λ body e. effect e body) (Items home items) edits ≡ Items home next) × Stepped number old new u items next

    -- the operations at a number
    abbrev edits_at : ℕ → Option MapItem → Option MapItem → List Edit
    edits_at u o n = place_edit (Item u) (Named u (item_key n)) rows (item_expects schema declared) (item_value o) (item_value n)

    -- a number that neither has looks up as in new
    waits_none : (u : ℕ) (items : List MapItem) → Waits number old new u items → find number u old ≡ None → find number u new ≡ None → find number u items ≡ find number u new
    waits_none u items (inl w) o n = cc
    waits_none u items (inr w) o n = cc

    -- a number that both have and that waits looks up as in old
    waits_old : (u : ℕ) (items : List MapItem) (x y : MapItem) → Waits number old new u items → find number u old ≡ Some x → find number u new ≡ Some y → find number u items ≡ Some x
    waits_old u items x y (inl w) o n = w ∙ o
    waits_old u items x y (inr w) o n = cc

    -- items of one number whose values are equal are equal
    same_item : (u : ℕ) (x y : MapItem) → find number u old ≡ Some x → find number u new ≡ Some y → same_value x.value y.value ≡ true → x ≡ y
    same_item u x y o n t =
        let numbers : x.number ≡ y.number = find_key number u old x o ∙ sym (find_key number u new y n) in
        let keys : x.key ≡ y.key = same_keys u x y o n in
        let values : x.value ≡ y.value = same_is x.value y.value t in
        ap (λ j. let i : MapItem = record { number = j; key = x.key; value = x.value } in i) numbers
        ∙ ap (λ j. let i : MapItem = record { number = y.number; key = j; value = x.value } in i) keys
        ∙ ap (λ j. let i : MapItem = record { number = y.number; key = y.key; value = j } in i) values

    -- the value that is carried is that of new
    carries : (v : Value) → carried_value (carried rows (item_expects schema declared) v) ≡ v
    carries v = carried_is rows (item_expects schema declared) v

    -- the operation on an item that has another value
    change_next : (left : List ℕ) (u : ℕ) (items : List MapItem) (x y : MapItem) → Between number old new left items → find number u items ≡ Some x → find number u new ≡ Some y → (link : Bool) → is_link y.value ≡ link
        → Next left u items (changed_place (Item u) (Named u y.key) y.value (carried rows (item_expects schema declared) y.value) ∷ [])
    change_next left u items x y b f n true t = rw t (put_named u y.key y.value items, ap (λ v. Items home (put_named u y.key v items)) (carries y.value), put_step left items u y b n)
    change_next left u items x y b f n false t = rw t (put_value u y.value items, ap (λ v. Items home (put_value u v items)) (carries y.value), revalue_step left items u x y b f n)

    -- a number that both have
    both_next : (left : List ℕ) (u : ℕ) (items : List MapItem) (x y : MapItem) → Between number old new left items → Waits number old new u items → find number u old ≡ Some x → find number u new ≡ Some y
        → (same : Bool) → same_value x.value y.value ≡ same → Next left u items (edits_at u (Some x) (Some y))
    both_next left u items x y b w o n true t = rw t (items, refl, same_step left items u b (waits_old u items x y w o n ∙ ap Some (same_item u x y o n t) ∙ sym n))
    both_next left u items x y b w o n false t = rw t (change_next left u items x y b (waits_old u items x y w o n) n (is_link y.value) refl)

    -- the operations at a number, by whether it is in old and in new
    next_at : (left : List ℕ) (u : ℕ) (items : List MapItem) (o n : Option MapItem) → Between number old new left items → Waits number old new u items → find number u old ≡ o → find number u new ≡ n → Next left u items (edits_at u o n)
    next_at left u items None None b w o n = (items, refl, same_step left items u b (waits_none u items w o n))
    next_at left u items None (Some y) b w o n = (put_named u y.key y.value items, ap (λ v. Items home (put_named u y.key v items)) (carries y.value), put_step left items u y b n)
    next_at left u items (Some x) None b w o n = (remove number u items, refl, remove_step left items u b n)
    next_at left u items (Some x) (Some y) b w o n = both_next left u items x y b w o n (same_value x.value y.value) refl

    -- the operations at the first number that is left
    step : (u : ℕ) (us : List ℕ) (items : List MapItem) → is_among u us ≡ false → Between number old new (u ∷ us) items → Next (u ∷ us) u items (edits_at u (find number u old) (find number u new))
    step u us items apart b = next_at (u ∷ us) u items (find number u old) (find number u new) b (b.waits u (grind (arith, nat_tests))) refl refl

    -- the operations at all numbers
    items_run : RisesFrom number 0 old → RisesFrom number 0 new → fold (λ body e. effect e body) (Items home old) (map_edits schema rows declared old new) ≡ Items home new
    items_run r s = whole_run number old new (λ body e. effect e body) (Items home) (λ u. edits_at u (find number u old) (find number u new)) step r s

-- the operations on a map lead from its old items to its new ones
pub map_run : (schema : Schema) (rows : List RowEntry) (home declared : Home) (old new : List MapItem) → RisesFrom number 0 old → RisesFrom number 0 new → keys_differ (map (λ (i : MapItem). i.key) new) ≡ true
    → ((n : ℕ) (x y : MapItem) → map_item old n ≡ Some x → map_item new n ≡ Some y → x.key ≡ y.key)
    → fold (λ body e. effect e body) (Items home old) (map_edits schema rows declared old new) ≡ Items home new
map_run schema rows home declared old new r s differ same_keys = items_run old new differ same_keys home declared schema rows r s
