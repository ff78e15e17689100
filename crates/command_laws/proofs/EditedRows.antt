-- The row that an accepted command changes, after the change: its kind, what it holds, its item numbers, and that its places fit.
use Rattle.std.proofs.Common.{◌≡◌, ℕ, ◌<◌, Bool, true, false, cond, not, ◌&&◌, ◌||◌, ◌==◌, List, [], ◌∷◌, ◌++◌, map, filter, set, Some, refl, sym, ap, ◌∙◌, arith, ◌⊎◌, inl, inr}
use Rattle.std.specs.List.{list_any, list_all, flat_map, remove}
use Rattle.std.specs.Str.{bytes_eq}
use Rattle.std.proofs.lemmas.Bool.{and_parts, and_from, or_cases, cond_both}
use Rattle.std.proofs.lemmas.Bool.Decides.{nat_tests}
use Rattle.std.proofs.lemmas.List.{map-append}
use Rattle.std.proofs.lemmas.List.Folds.{list_any-append, list_all-append}
use Rattle.lists.specs.Rising as rising
use Rattle.lists.proofs.RisingLaws.{RisesFrom-put, RisesFrom-filter, RisesFrom-push}
use Rattle.lists.proofs.Passing.{list_any_put, list_all_put, list_all_filtered, list_any_filtered, list_any-flat_map, list_any-map, list_any-made}
use Rattle.schema_model.specs.declared.value.Value.{Value}
use Rattle.schema_model.specs.declared.value.Value.TheVariants as value
use Rattle.schema_model.specs.Values.{same_value}
use Rattle.schema_model.specs.Classes.{Schema}
use Rattle.state_model.specs.declared.row.Row.{Row}
use Rattle.state_model.specs.declared.row.Row.TheVariants.{Struct, Map, Array, Set}
use Rattle.state_model.specs.declared.row.RowEntry.{RowEntry}
use Rattle.state_model.specs.declared.row.FieldValue.{FieldValue}
use Rattle.state_model.specs.declared.row.MapItem.{MapItem}
use Rattle.state_model.specs.declared.row.SetItem.{SetItem}
use Rattle.state_model.specs.declared.command.Command.{Command}
use Rattle.state_model.specs.declared.command.Command.TheVariants.{Put, Unset, PutKey, DelKey, Push, SetAt, DelAt, Add, Del, Clear}
use Rattle.state_model.specs.Values.{held_by}
use Rattle.state_model.specs.Rows.{held_in, emptied}
use Rattle.state_model.specs.Places.{field_expects, item_expects, is_filtered}
use Rattle.state_model.specs.Reached.{is_among}
use Rattle.state_model.specs.Sound.{rise, differ, keys_differ, fits_place, places_fit, set_differs}
use Rattle.state_model.specs.Commands.{value_put, expected_for, is_duplicate, has_key, has_value, put_key, gives_number, edited, counts_items}
use Rattle.state_laws.proofs.ShownRows.{holds}
use Rattle.state_laws.proofs.FittingRows.{rises_where, rise_where, keys_filtered}
use Rattle.state_laws.proofs.SameValues.{same_value_sym}
use Rattle.command_laws.specs.Kept.{item_numbers}
use Rattle.command_laws.proofs.ListEdits.{list_any_set, list_all_set, list_any_removed, list_all_removed, differ_pushed, differ_set, differ_removed, differ_kept}
use Rattle.command_laws.proofs.KeyedItems.{key_of, number_in, above_numbers, list_any_value_put, list_all_value_put, list_any_number-put_key, RisesFrom-put_key, keys_differ_put}

-- the parts of fields and of a set's items
abbrev pub field_in : FieldValue → ℕ
field_in f = f.field

abbrev pub field_value : FieldValue → Value
field_value f = f.value

abbrev pub item_value : MapItem → Value
item_value i = i.value

abbrev set_number : SetItem → ℕ
set_number i = i.number

abbrev pub set_value : SetItem → Value
set_value i = i.value

-- a new item of a set
abbrev pub set_item : ℕ → Value → SetItem
set_item number v = record { number = number; value = v }

-- its kind

-- the row is of the kind that it was of
pub edited_kind : (c : Command) (next : ℕ) (row : Row) → emptied (edited c next row) ≡ emptied row
edited_kind (Put r f v) next (Struct class fields) = refl
edited_kind (Unset r f) next (Struct class fields) = refl
edited_kind (PutKey r key v) next (Map home items) = refl
edited_kind (DelKey r key) next (Map home items) = refl
edited_kind (Push r v) next (Array home values) = refl
edited_kind (SetAt r at v) next (Array home values) = refl
edited_kind (DelAt r at) next (Array home values) = refl
edited_kind (Del r v) next (Set home items) = refl
edited_kind (Clear r) next (Map home items) = refl
edited_kind (Clear r) next (Array home values) = refl
edited_kind (Clear r) next (Set home items) = refl
edited_kind (Add r v) next (Set home items) =
    cond_both (has_value items v) (Set home items) (Set home (items ++ set_item next v ∷ [])) (λ (q : Row). emptied q ≡ Set home []) (λ t. refl) (λ f. refl)
edited_kind c next row = refl

-- what it holds

-- a value that holds a number links to it
holds_link : (m : ℕ) (v : Value) → holds m v ≡ true → v ≡ value.Link m
holds_link m (value.Whole z) h = cc
holds_link m (value.Str t) h = cc
holds_link m (value.Truth b) h = cc
holds_link m (value.Link n) h = let same : n ≡ m = grind (arith, nat_tests) in ap (λ k. value.Link k) same

-- a number that is held in places is held in earlier ones, or in a value that was put
held_or : {X : Type 0} (f : X → Value) (m : ℕ) (v : Value) (xs ys : List X) → (list_any (λ x. holds m (f x)) ys ≡ true → (holds m v || list_any (λ x. holds m (f x)) xs) ≡ true) → is_among m (flat_map held_by (map f ys)) ≡ true
    → (is_among m (flat_map held_by (map f xs)) ≡ true) ⊎ (Some v ≡ Some (value.Link m))
held_or f m v xs ys from h =
    elim (or_cases (holds m v) (list_any (λ x. holds m (f x)) xs) (from (sym (list_any-made (λ k. k == m) held_by f ys) ∙ h))) [
      | inl here ↦ inr (ap Some (holds_link m v here))
      | inr there ↦ inl (list_any-made (λ k. k == m) held_by f xs ∙ there)
    ]

held_less : {X : Type 0} (f : X → Value) (m : ℕ) (xs ys : List X) → (list_any (λ x. holds m (f x)) ys ≡ true → list_any (λ x. holds m (f x)) xs ≡ true) → is_among m (flat_map held_by (map f ys)) ≡ true
    → is_among m (flat_map held_by (map f xs)) ≡ true
held_less f m xs ys from h = list_any-made (λ k. k == m) held_by f xs ∙ from (sym (list_any-made (λ k. k == m) held_by f ys) ∙ h)

-- the same of values
values_or : (m : ℕ) (v : Value) (vs ws : List Value) → (list_any (holds m) ws ≡ true → (holds m v || list_any (holds m) vs) ≡ true) → is_among m (flat_map held_by ws) ≡ true → (is_among m (flat_map held_by vs) ≡ true) ⊎ (Some v ≡ Some (value.Link m))
values_or m v vs ws from h =
    elim (or_cases (holds m v) (list_any (holds m) vs) (from (sym (list_any-flat_map (λ k. k == m) held_by ws) ∙ h))) [
      | inl here ↦ inr (ap Some (holds_link m v here))
      | inr there ↦ inl (list_any-flat_map (λ k. k == m) held_by vs ∙ there)
    ]

values_less : (m : ℕ) (vs ws : List Value) → (list_any (holds m) ws ≡ true → list_any (holds m) vs ≡ true) → is_among m (flat_map held_by ws) ≡ true → is_among m (flat_map held_by vs) ≡ true
values_less m vs ws from h = list_any-flat_map (λ k. k == m) held_by vs ∙ from (sym (list_any-flat_map (λ k. k == m) held_by ws) ∙ h)

-- a test of a list with one more item at the end
list_any_pushed : {X : Type 0} (p : X → Bool) (x : X) (xs : List X) → list_any p (xs ++ x ∷ []) ≡ true → (p x || list_any p xs) ≡ true
list_any_pushed p x xs h = let both = list_any-append p xs (x ∷ []) in grind (arith, nat_tests)

pub list_all_pushed : {X : Type 0} (p : X → Bool) (x : X) (xs : List X) → p x ≡ true → list_all p xs ≡ true → list_all p (xs ++ x ∷ []) ≡ true
list_all_pushed p x xs t h = let both = list_all-append p xs (x ∷ []) in grind (arith, nat_tests)

-- what the row holds it held, or it is the row of the link that the command puts
pub edited_held : (c : Command) (next : ℕ) (row : Row) (m : ℕ) → is_among m (held_in (edited c next row)) ≡ true → (is_among m (held_in row) ≡ true) ⊎ (value_put c ≡ Some (value.Link m))
edited_held (Put r f v) next (Struct class fields) m h =
    let field : FieldValue = record { field = f; value = v } in
    held_or field_value m v fields (rising.put field_in field fields) (list_any_put field_in (λ x. holds m x.value) field fields) h
edited_held (Unset r f) next (Struct class fields) m h =
    inl (held_less field_value m fields (rising.remove field_in f fields) (list_any_filtered (λ x. holds m x.value) (λ x. not (x.field == f)) fields) h)
edited_held (PutKey r key v) next (Map home items) m h =
    held_or item_value m v items (put_key next key v items) (list_any_value_put (holds m) next key v items) h
edited_held (DelKey r key) next (Map home items) m h =
    let q = λ (i : MapItem). not (bytes_eq i.key key) in
    inl (held_less item_value m items (filter q items) (list_any_filtered (λ i. holds m i.value) q items) h)
edited_held (Push r v) next (Array home values) m h = values_or m v values (values ++ v ∷ []) (list_any_pushed (holds m) v values) h
edited_held (SetAt r at v) next (Array home values) m h = values_or m v values (set values at v) (list_any_set (holds m) v values at) h
edited_held (DelAt r at) next (Array home values) m h = inl (values_less m values (remove values at) (list_any_removed (holds m) values at) h)
edited_held (Add r v) next (Set home items) m h =
    cond_both (has_value items v) (Set home items) (Set home (items ++ set_item next v ∷ [])) (λ (q : Row). is_among m (held_in q) ≡ true → (is_among m (flat_map held_by (map set_value items)) ≡ true) ⊎ (Some v ≡ Some (value.Link m)))
    (λ t k. inl k)
    (λ f k. held_or set_value m v items (items ++ set_item next v ∷ []) (list_any_pushed (λ i. holds m i.value) (set_item next v) items) k)
    h
edited_held (Del r v) next (Set home items) m h =
    let q = λ (i : SetItem). not (same_value i.value v) in
    inl (held_less set_value m items (filter q items) (list_any_filtered (λ i. holds m i.value) q items) h)
edited_held (Clear r) next (Map home items) m h = cc
edited_held (Clear r) next (Array home values) m h = cc
edited_held (Clear r) next (Set home items) m h = cc
edited_held c next row m h = inl h

-- its item numbers

-- numbers of filtered items are numbers of the items
numbers_filtered : {X : Type 0} (f : X → ℕ) (q : X → Bool) (k : ℕ) (xs : List X) → is_among k (map f (filter q xs)) ≡ true → is_among k (map f xs) ≡ true
numbers_filtered f q k xs h =
    list_any-map (λ m. m == k) f xs ∙ list_any_filtered (λ x. f x == k) q xs (sym (list_any-map (λ m. m == k) f (filter q xs)) ∙ h)

numbers_pushed : {X : Type 0} (f : X → ℕ) (x : X) (k : ℕ) (xs : List X) → is_among k (map f (xs ++ x ∷ [])) ≡ true → (is_among k (map f xs) ≡ true) ⊎ (k ≡ f x)
numbers_pushed f x k xs h =
    elim (or_cases (f x == k) (list_any (λ y. f y == k) xs) (list_any_pushed (λ y. f y == k) x xs (sym (list_any-map (λ m. m == k) f (xs ++ x ∷ [])) ∙ h))) [
      | inl here ↦ inr (grind (arith, nat_tests))
      | inr there ↦ inl (list_any-map (λ m. m == k) f xs ∙ there)
    ]

-- an item number of the row was one, or is the next, where the command gives one
pub edited_numbers : (c : Command) (next : ℕ) (row : Row) (k : ℕ) → is_among k (item_numbers (edited c next row)) ≡ true → (is_among k (item_numbers row) ≡ true) ⊎ ((k ≡ next) × (gives_number c (Some row) ≡ true))
edited_numbers (PutKey r key v) next (Map home items) k h =
    let parts = list_any_number-put_key (λ n. n == k) next key v items in
    let both = sym parts ∙ sym (list_any-map (λ n. n == k) number_in (put_key next key v items)) ∙ h in
    elim (or_cases (list_any (λ (i : MapItem). i.number == k) items) (not (has_key items key) && next == k) both) [
      | inl old ↦ inl (list_any-map (λ n. n == k) number_in items ∙ old)
      | inr new ↦ let two = and_parts (not (has_key items key)) (next == k) new in inr (grind (arith, nat_tests, two.1), two.0)
    ]
edited_numbers (DelKey r key) next (Map home items) k h = inl (numbers_filtered number_in (λ i. not (bytes_eq i.key key)) k items h)
edited_numbers (Add r v) next (Set home items) k h = by_test (has_value items v) refl h
  where
    by_test : (b : Bool) → has_value items v ≡ b → is_among k (item_numbers (cond b (Set home items) (Set home (items ++ set_item next v ∷ [])))) ≡ true → (is_among k (map set_number items) ≡ true) ⊎ ((k ≡ next) × (not (has_value items v) ≡ true))
    by_test true t h = inl h
    by_test false f h = elim (numbers_pushed set_number (set_item next v) k items h) [ inl old ↦ inl old | inr new ↦ inr (new, ap not f) ]
edited_numbers (Del r v) next (Set home items) k h = inl (numbers_filtered set_number (λ i. not (same_value i.value v)) k items h)
edited_numbers (Clear r) next (Map home items) k h = cc
edited_numbers (Clear r) next (Array home values) k h = cc
edited_numbers (Clear r) next (Set home items) k h = cc
edited_numbers (Put r f v) next (Struct class fields) k h = inl h
edited_numbers (Unset r f) next (Struct class fields) k h = inl h
edited_numbers (Push r v) next (Array home values) k h = inl h
edited_numbers (SetAt r at v) next (Array home values) k h = inl h
edited_numbers (DelAt r at) next (Array home values) k h = inl h
edited_numbers c next row k h = inl h

-- a command that gives an item number gives it in a map or a set
pub counts_given : (c : Command) (row : Row) → gives_number c (Some row) ≡ true → counts_items row ≡ true
counts_given (PutKey r key v) (Map home items) h = refl
counts_given (Add r v) (Set home items) h = refl
counts_given c row h = cc

-- its values and places

-- a value that isn't in a set differs from each of its values
pub value_there : (v : Value) (items : List SetItem) → list_any (same_value v) (map set_value items) ≡ has_value items v
value_there v [] = refl
value_there v (i ∷ items) = grind (arith, nat_tests, same_value_sym v i.value, value_there v items)

-- the values of a set differ as they did
pub edited_differs : (c : Command) (next : ℕ) (row : Row) → set_differs row ≡ true → set_differs (edited c next row) ≡ true
edited_differs (Add r v) next (Set home items) h =
    cond_both (has_value items v) (Set home items) (Set home (items ++ set_item next v ∷ [])) (λ (q : Row). set_differs q ≡ true)
    (λ t. h)
    (λ f. ap differ (map-append set_value items (set_item next v ∷ [])) ∙ differ_pushed v (map set_value items) h (value_there v items ∙ f))
edited_differs (Del r v) next (Set home items) h = differ_kept set_value (λ i. not (same_value i.value v)) items h
edited_differs (Clear r) next (Set home items) h = refl
edited_differs (Clear r) next (Map home items) h = refl
edited_differs (Clear r) next (Array home values) h = refl
edited_differs (Put r f v) next (Struct class fields) h = h
edited_differs (Unset r f) next (Struct class fields) h = h
edited_differs (PutKey r key v) next (Map home items) h = h
edited_differs (DelKey r key) next (Map home items) h = h
edited_differs (Push r v) next (Array home values) h = h
edited_differs (SetAt r at v) next (Array home values) h = h
edited_differs (DelAt r at) next (Array home values) h = h
edited_differs c next row h = h

-- values that differ where their array is filtered

unfiltered_push : (f : Bool) (v : Value) (vs : List Value) → (not f || differ vs) ≡ true → (f && list_any (same_value v) vs) ≡ false → (not f || differ (vs ++ v ∷ [])) ≡ true
unfiltered_push true v vs h d = differ_pushed v vs h d
unfiltered_push false v vs h d = refl

unfiltered_set : (f : Bool) (v : Value) (vs : List Value) (at : ℕ) → (not f || differ vs) ≡ true → (f && list_any (same_value v) (remove vs at)) ≡ false → (not f || differ (set vs at v)) ≡ true
unfiltered_set true v vs at h d = differ_set v vs at h d
unfiltered_set false v vs at h d = refl

unfiltered_remove : (f : Bool) (vs : List Value) (at : ℕ) → (not f || differ vs) ≡ true → (not f || differ (remove vs at)) ≡ true
unfiltered_remove true vs at h = differ_removed vs at h
unfiltered_remove false vs at h = refl

unfiltered_none : (f : Bool) → (not f || true) ≡ true
unfiltered_none true = refl
unfiltered_none false = refl

-- numbers that rise by the test do so in another list that rises
rise_again : {X : Type 0} (f : X → ℕ) (xs ys : List X) → (rising.RisesFrom f 0 xs → rising.RisesFrom f 0 ys) → rise (map f xs) ≡ true → rise (map f ys) ≡ true
rise_again f xs ys from h = rise_where f 0 ys (from (rises_where f xs h))

-- the places of the row fit after the change
pub edited_fits : (schema : Schema) (rows : List RowEntry) (c : Command) (next : ℕ) (row : Row) → ((v : Value) → value_put c ≡ Some v → fits_place schema rows v (expected_for schema c (Some row)) ≡ true)
    → is_duplicate schema c (Some row) ≡ false → ((k : ℕ) → is_among k (item_numbers row) ≡ true → k < next)
    → places_fit schema rows row ≡ true → places_fit schema rows (edited c next row) ≡ true
edited_fits schema rows (Put r f v) next (Struct class fields) put d n h =
    let p = λ (x : FieldValue). fits_place schema rows x.value (field_expects schema class x.field) in
    let field : FieldValue = record { field = f; value = v } in
    let two = and_parts (rise (map field_in fields)) (list_all p fields) h in
    and_from (rise (map field_in (rising.put field_in field fields))) (list_all p (rising.put field_in field fields))
    (rise_again field_in fields (rising.put field_in field fields) (λ r. RisesFrom-put field_in 0 field fields r (omega arith)) two.0)
    (list_all_put field_in p field fields (put v refl) two.1)
edited_fits schema rows (Unset r f) next (Struct class fields) put d n h =
    let p = λ (x : FieldValue). fits_place schema rows x.value (field_expects schema class x.field) in
    let q = λ (x : FieldValue). not (x.field == f) in
    let two = and_parts (rise (map field_in fields)) (list_all p fields) h in
    and_from (rise (map field_in (filter q fields))) (list_all p (filter q fields)) (rise_again field_in fields (filter q fields) (RisesFrom-filter field_in 0 q fields) two.0) (list_all_filtered p q fields two.1)
edited_fits schema rows (PutKey r key v) next (Map home items) put d n h =
    let q = λ (u : Value). fits_place schema rows u (item_expects schema home) in
    let p = λ (i : MapItem). q i.value in
    let two = and_parts (rise (map number_in items) && keys_differ (map key_of items)) (list_all p items) h in
    let own = and_parts (rise (map number_in items)) (keys_differ (map key_of items)) two.0 in
    let new = put_key next key v items in
    and_from (rise (map number_in new) && keys_differ (map key_of new)) (list_all p new)
    (and_from (rise (map number_in new)) (keys_differ (map key_of new))
    (rise_again number_in items new (λ r. RisesFrom-put_key 0 next key v items r (above_numbers number_in next items n) (omega arith)) own.0)
    (keys_differ_put next key v items own.1))
    (list_all_value_put q next key v items (put v refl) two.1)
edited_fits schema rows (DelKey r key) next (Map home items) put d n h =
    let p = λ (i : MapItem). fits_place schema rows i.value (item_expects schema home) in
    let q = λ (i : MapItem). not (bytes_eq i.key key) in
    let two = and_parts (rise (map number_in items) && keys_differ (map key_of items)) (list_all p items) h in
    let own = and_parts (rise (map number_in items)) (keys_differ (map key_of items)) two.0 in
    and_from (rise (map number_in (filter q items)) && keys_differ (map key_of (filter q items))) (list_all p (filter q items))
    (and_from (rise (map number_in (filter q items))) (keys_differ (map key_of (filter q items))) (rise_again number_in items (filter q items) (RisesFrom-filter number_in 0 q items) own.0) (keys_filtered key_of q items own.1))
    (list_all_filtered p q items two.1)
edited_fits schema rows (Push r v) next (Array home values) put d n h =
    let p = λ (u : Value). fits_place schema rows u (item_expects schema home) in
    let two = and_parts (not (is_filtered schema home) || differ values) (list_all p values) h in
    and_from (not (is_filtered schema home) || differ (values ++ v ∷ [])) (list_all p (values ++ v ∷ [])) (unfiltered_push (is_filtered schema home) v values two.0 d) (list_all_pushed p v values (put v refl) two.1)
edited_fits schema rows (SetAt r at v) next (Array home values) put d n h =
    let p = λ (u : Value). fits_place schema rows u (item_expects schema home) in
    let two = and_parts (not (is_filtered schema home) || differ values) (list_all p values) h in
    and_from (not (is_filtered schema home) || differ (set values at v)) (list_all p (set values at v)) (unfiltered_set (is_filtered schema home) v values at two.0 d) (list_all_set p v values at (put v refl) two.1)
edited_fits schema rows (DelAt r at) next (Array home values) put d n h =
    let p = λ (u : Value). fits_place schema rows u (item_expects schema home) in
    let two = and_parts (not (is_filtered schema home) || differ values) (list_all p values) h in
    and_from (not (is_filtered schema home) || differ (remove values at)) (list_all p (remove values at)) (unfiltered_remove (is_filtered schema home) values at two.0) (list_all_removed p values at two.1)
edited_fits schema rows (Add r v) next (Set home items) put d n h =
    let p = λ (i : SetItem). fits_place schema rows i.value (item_expects schema home) in
    let two = and_parts (rise (map set_number items)) (list_all p items) h in
    let new = items ++ set_item next v ∷ [] in
    cond_both (has_value items v) (Set home items) (Set home new) (λ (q : Row). places_fit schema rows q ≡ true)
    (λ t. h)
    (λ f. and_from (rise (map set_number new)) (list_all p new)
    (rise_again set_number items new (λ r. RisesFrom-push set_number 0 items (set_item next v) r (above_numbers set_number next items n) (omega arith)) two.0)
    (list_all_pushed p (set_item next v) items (put v refl) two.1))
edited_fits schema rows (Del r v) next (Set home items) put d n h =
    let p = λ (i : SetItem). fits_place schema rows i.value (item_expects schema home) in
    let q = λ (i : SetItem). not (same_value i.value v) in
    let two = and_parts (rise (map set_number items)) (list_all p items) h in
    and_from (rise (map set_number (filter q items))) (list_all p (filter q items)) (rise_again set_number items (filter q items) (RisesFrom-filter set_number 0 q items) two.0) (list_all_filtered p q items two.1)
edited_fits schema rows (Clear r) next (Map home items) put d n h = refl
edited_fits schema rows (Clear r) next (Array home values) put d n h = and_from (not (is_filtered schema home) || true) true (unfiltered_none (is_filtered schema home)) refl
edited_fits schema rows (Clear r) next (Set home items) put d n h = refl
edited_fits schema rows c next row put d n h = h
