-- Sums over the items of a map and of a set after an edit by key or by value.
use Rattle.std.proofs.Common.{◌≡◌, ℕ, ◌+◌, Bool, true, false, cond, not, List, [], ◌∷◌, length, map, filter, Some, None, refl, sym, ap, ◌∙◌, arith}
use Rattle.std.specs.List.{sum_by, list_any, find}
use Rattle.std.specs.Option.{option_map_or}
use Rattle.std.specs.Str.{bytes_eq}
use Rattle.std.proofs.lemmas.Bool.{and_parts, not-true}
use Rattle.std.proofs.lemmas.Bool.Decides.{nat_tests}
use Rattle.std.proofs.lemmas.List.Sums.{sum_by-cons}
use Rattle.lists.proofs.SameBytes.{same_bytes, bytes_eq_sym}
use Rattle.schema_model.specs.declared.value.Value.{Value}
use Rattle.schema_model.specs.Values.{same_value}
use Rattle.state_model.specs.declared.row.MapItem.{MapItem}
use Rattle.state_model.specs.declared.row.SetItem.{SetItem}
use Rattle.state_model.specs.Sound.{differ, keys_differ}
use Rattle.state_model.specs.Commands.{has_key, has_value, put_key}
use Rattle.state_laws.proofs.SameValues.{same_is}
use Rattle.command_laws.proofs.KeyedItems.{key_of}
use Rattle.command_laws.proofs.EditedRows.{set_value, value_there}
use Rattle.command_laws.proofs.ListSums.{IsSingle, sum_by-single}

-- ---- items of a map

-- the item of a number, a key and a value
abbrev map_item : ℕ → List ℕ → Value → MapItem
map_item number key v = record { number = number; key = key; value = v }

-- a value put under a key
pub sum_by_value_put : (w : Value → ℕ) (next : ℕ) (key : List ℕ) (v : Value) (items : List MapItem)
    → sum_by (λ (i : MapItem). w i.value) (put_key next key v items) + option_map_or (λ (i : MapItem). w i.value) (find (λ (i : MapItem). bytes_eq i.key key) items) 0 ≡ sum_by (λ (i : MapItem). w i.value) items + w v
sum_by_value_put w next key v [] = omega (arith, sum_by-cons (λ (i : MapItem). w i.value) (map_item next key v) [])
sum_by_value_put w next key v (i ∷ items) =
    let of_value = λ (j : MapItem). w j.value in
    grind (arith, nat_tests, sum_by-cons of_value i items, sum_by-cons of_value (map_item i.number i.key v) items, sum_by-cons of_value i (put_key next key v items), sum_by_value_put w next key v items)

-- the bytes of keys, where a value is put under a key
pub sum_by_key_put : (next : ℕ) (key : List ℕ) (v : Value) (items : List MapItem)
    → sum_by (λ (i : MapItem). length i.key) (put_key next key v items) ≡ sum_by (λ (i : MapItem). length i.key) items + cond (has_key items key) 0 (length key)
sum_by_key_put next key v [] = omega (arith, sum_by-cons (λ (i : MapItem). length i.key) (map_item next key v) [])
sum_by_key_put next key v (i ∷ items) =
    let of_key = λ (j : MapItem). length j.key in
    grind (arith, nat_tests, sum_by-cons of_key i items, sum_by-cons of_key (map_item i.number i.key v) items, sum_by-cons of_key i (put_key next key v items), sum_by_key_put next key v items)

-- no key like this one is among other keys
other_keys : (k key : List ℕ) (items : List MapItem) → bytes_eq k key ≡ true → list_any (bytes_eq k) (map key_of items) ≡ false → has_key items key ≡ false
other_keys k key items t h =
    let same = same_bytes k key t in
    list_any_sym items ∙ ap (λ (b : List ℕ). list_any (bytes_eq b) (map key_of items)) (sym same) ∙ h
  where
    list_any_sym : (is : List MapItem) → has_key is key ≡ list_any (bytes_eq key) (map key_of is)
    list_any_sym [] = refl
    list_any_sym (i ∷ is) = grind (arith, nat_tests, bytes_eq_sym i.key key, list_any_sym is)

-- at most one item has a key, where keys differ
single_key : (key : List ℕ) (items : List MapItem) → keys_differ (map key_of items) ≡ true → IsSingle (λ (i : MapItem). bytes_eq i.key key) items
single_key key [] h = tt
single_key key (i ∷ items) h =
    let two = and_parts (not (list_any (bytes_eq i.key) (map key_of items))) (keys_differ (map key_of items)) h in
    (λ t. other_keys i.key key items t (not-true (list_any (bytes_eq i.key) (map key_of items)) two.0), single_key key items two.1)

-- the item of a key taken out
pub sum_by_key_removed : (w : MapItem → ℕ) (key : List ℕ) (items : List MapItem) → keys_differ (map key_of items) ≡ true
    → sum_by w (filter (λ (i : MapItem). not (bytes_eq i.key key)) items) + option_map_or w (find (λ (i : MapItem). bytes_eq i.key key) items) 0 ≡ sum_by w items
sum_by_key_removed w key items h = sum_by-single (λ (i : MapItem). bytes_eq i.key key) w items (single_key key items h)

-- the bytes of the key of an item that has this key
pub key_found : (key : List ℕ) (items : List MapItem) → option_map_or (λ (i : MapItem). length i.key) (find (λ (i : MapItem). bytes_eq i.key key) items) 0 ≡ cond (has_key items key) (length key) 0
key_found key [] = refl
key_found key (i ∷ items) =
    let go : (b : Bool) → bytes_eq i.key key ≡ b → option_map_or (λ (j : MapItem). length j.key) (find (λ (j : MapItem). bytes_eq j.key key) (i ∷ items)) 0 ≡ cond (has_key (i ∷ items) key) (length key) 0 = elim [
      | true ↦ λ t. rw t (ap length (same_bytes i.key key t))
      | false ↦ λ f. rw f (key_found key items)
    ] in
    go (bytes_eq i.key key) refl

-- ---- items of a set

-- no value like this one is among other values
other_values : (u v : Value) (items : List SetItem) → same_value u v ≡ true → list_any (same_value u) (map set_value items) ≡ false → has_value items v ≡ false
other_values u v items t h =
    let same = same_is u v t in
    sym (value_there v items) ∙ ap (λ (b : Value). list_any (same_value b) (map set_value items)) (sym same) ∙ h

-- at most one item has a value, where values differ
single_value : (v : Value) (items : List SetItem) → differ (map set_value items) ≡ true → IsSingle (λ (i : SetItem). same_value i.value v) items
single_value v [] h = tt
single_value v (i ∷ items) h =
    let two = and_parts (not (list_any (same_value i.value) (map set_value items))) (differ (map set_value items)) h in
    (λ t. other_values i.value v items t (not-true (list_any (same_value i.value) (map set_value items)) two.0), single_value v items two.1)

-- the weight of the value of an item that has this value
value_found : (w : Value → ℕ) (v : Value) (items : List SetItem) → option_map_or (λ (i : SetItem). w i.value) (find (λ (i : SetItem). same_value i.value v) items) 0 ≡ option_map_or w (cond (has_value items v) (Some v) None) 0
value_found w v [] = refl
value_found w v (i ∷ items) =
    let go : (b : Bool) → same_value i.value v ≡ b → option_map_or (λ (j : SetItem). w j.value) (find (λ (j : SetItem). same_value j.value v) (i ∷ items)) 0 ≡ option_map_or w (cond (has_value (i ∷ items) v) (Some v) None) 0 = elim [
      | true ↦ λ t. rw t (ap w (same_is i.value v t))
      | false ↦ λ f. rw f (value_found w v items)
    ] in
    go (same_value i.value v) refl

-- a value taken out
pub sum_by_value_removed : (w : Value → ℕ) (v : Value) (items : List SetItem) → differ (map set_value items) ≡ true
    → sum_by (λ (i : SetItem). w i.value) (filter (λ (i : SetItem). not (same_value i.value v)) items) + option_map_or w (cond (has_value items v) (Some v) None) 0 ≡ sum_by (λ (i : SetItem). w i.value) items
sum_by_value_removed w v items h =
    let of_value = λ (i : SetItem). w i.value in
    ap (λ n. sum_by of_value (filter (λ (i : SetItem). not (same_value i.value v)) items) + n) (sym (value_found w v items)) ∙ sum_by-single (λ (i : SetItem). same_value i.value v) of_value items (single_value v items h)
