-- The items of a map after a value was put under a key, and numbers below the next one.
use Rattle.std.proofs.Common.{◌≡◌, ℕ, suc, ◌<◌, ◌≤◌, Bool, true, false, cond, not, ◌&&◌, ◌||◌, ◌==◌, List, [], ◌∷◌, map, Some, refl, ap, ◌∙◌, arith}
use Rattle.std.specs.List.{list_any, list_all}
use Rattle.std.specs.Str.{bytes_eq}
use Rattle.std.proofs.lemmas.Bool.{and_parts, and_from, or_right, not-true}
use Rattle.std.proofs.lemmas.Bool.Decides.{nat_tests}
use Rattle.lists.specs.Rising.{RisesFrom, IsAbove, find}
use Rattle.schema_model.specs.declared.value.Value.{Value}
use Rattle.state_model.specs.declared.row.MapItem.{MapItem}
use Rattle.state_model.specs.Reached.{is_among}
use Rattle.state_model.specs.Sound.{keys_differ}
use Rattle.state_model.specs.Commands.{has_key, put_key}

-- the key and the number of an item
abbrev pub key_of : MapItem → List ℕ
key_of i = i.key

abbrev pub number_in : MapItem → ℕ
number_in i = i.number

-- the item of a number, a key and a value
abbrev item : ℕ → List ℕ → Value → MapItem
item number key v = record { number = number; key = key; value = v }

-- numbers that are below the next one
pub above_numbers : {X : Type 0} (f : X → ℕ) (next : ℕ) (xs : List X) → ((k : ℕ) → is_among k (map f xs) ≡ true → k < next) → IsAbove f next xs
above_numbers f next [] h = tt
above_numbers f next (x ∷ xs) h =
    (h (f x) (grind (arith, nat_tests)), above_numbers f next xs (λ k t. h k (or_right (f x == k) (is_among k (map f xs)) t)))

-- the item that has the key, with the value under its number
kept_item : (next : ℕ) (key : List ℕ) (v : Value) (i : MapItem) (items : List MapItem) → bytes_eq i.key key ≡ true → put_key next key v (i ∷ items) ≡ item i.number i.key v ∷ items
kept_item next key v i items t = ap (λ b. cond b (item i.number i.key v ∷ items) (i ∷ put_key next key v items)) t

other_item : (next : ℕ) (key : List ℕ) (v : Value) (i : MapItem) (items : List MapItem) → bytes_eq i.key key ≡ false → put_key next key v (i ∷ items) ≡ i ∷ put_key next key v items
other_item next key v i items f = ap (λ b. cond b (item i.number i.key v ∷ items) (i ∷ put_key next key v items)) f

-- a test of values
pub list_any_value_put : (q : Value → Bool) (next : ℕ) (key : List ℕ) (v : Value) (items : List MapItem) → list_any (λ (i : MapItem). q i.value) (put_key next key v items) ≡ true → (q v || list_any (λ (i : MapItem). q i.value) items) ≡ true
list_any_value_put q next key v [] h = h
list_any_value_put q next key v (i ∷ items) h = grind (arith, nat_tests, list_any_value_put q next key v items)

pub list_all_value_put : (q : Value → Bool) (next : ℕ) (key : List ℕ) (v : Value) (items : List MapItem) → q v ≡ true → list_all (λ (i : MapItem). q i.value) items ≡ true → list_all (λ (i : MapItem). q i.value) (put_key next key v items) ≡ true
list_all_value_put q next key v [] t h = grind (arith, nat_tests)
list_all_value_put q next key v (i ∷ items) t h = grind (arith, nat_tests, list_all_value_put q next key v items)

-- a test of numbers
pub list_any_number-put_key : (q : ℕ → Bool) (next : ℕ) (key : List ℕ) (v : Value) (items : List MapItem)
    → list_any (λ (i : MapItem). q i.number) (put_key next key v items) ≡ (list_any (λ (i : MapItem). q i.number) items || (not (has_key items key) && q next))
list_any_number-put_key q next key v [] = grind (arith, nat_tests)
list_any_number-put_key q next key v (i ∷ items) = grind (arith, nat_tests, list_any_number-put_key q next key v items)

-- numbers rise where the next one is above them
pub RisesFrom-put_key : (low next : ℕ) (key : List ℕ) (v : Value) (items : List MapItem) → RisesFrom number_in low items → IsAbove number_in next items → low ≤ next → RisesFrom number_in low (put_key next key v items)
RisesFrom-put_key low next key v [] r a h = (h, tt)
RisesFrom-put_key low next key v (i ∷ items) r a h = grind (arith, nat_tests, RisesFrom-put_key (suc i.number) next key v items r.1 a.1)

-- keys

other_key : (k : List ℕ) (next : ℕ) (key : List ℕ) (v : Value) (items : List MapItem) → bytes_eq k key ≡ false → list_any (bytes_eq k) (map key_of items) ≡ false → list_any (bytes_eq k) (map key_of (put_key next key v items)) ≡ false
other_key k next key v [] f h = grind (arith, nat_tests)
other_key k next key v (i ∷ items) f h = grind (arith, nat_tests, other_key k next key v items)

-- keys that differ do so with a value put under one
pub keys_differ_put : (next : ℕ) (key : List ℕ) (v : Value) (items : List MapItem) → keys_differ (map key_of items) ≡ true → keys_differ (map key_of (put_key next key v items)) ≡ true
keys_differ_put next key v [] h = refl
keys_differ_put next key v (i ∷ items) h =
    let two = and_parts (not (list_any (bytes_eq i.key) (map key_of items))) (keys_differ (map key_of items)) h in
    let go : (b : Bool) → bytes_eq i.key key ≡ b → keys_differ (map key_of (put_key next key v (i ∷ items))) ≡ true = elim [
      | true ↦ λ t. ap (λ is. keys_differ (map key_of is)) (kept_item next key v i items t) ∙ h
      | false ↦ λ f.
          let off = other_key i.key next key v items f (not-true (list_any (bytes_eq i.key) (map key_of items)) two.0) in
          ap (λ is. keys_differ (map key_of is)) (other_item next key v i items f)
          ∙ and_from (not (list_any (bytes_eq i.key) (map key_of (put_key next key v items)))) (keys_differ (map key_of (put_key next key v items))) (ap not off) (keys_differ_put next key v items two.1)
    ] in
    go (bytes_eq i.key key) refl

-- an item that was there has its key
pub key_stays : (next : ℕ) (key : List ℕ) (v : Value) (items : List MapItem) (k : ℕ) (i j : MapItem) → find number_in k items ≡ Some i → find number_in k (put_key next key v items) ≡ Some j → j.key ≡ i.key
key_stays next key v [] k i j h t = cc
key_stays next key v (x ∷ items) k i j h t = grind (arith, nat_tests, key_stays next key v items k i j)
