-- The items of a map while values are put under keys and taken out.
use Rattle.std.proofs.Common.{◌≡◌, ℕ, suc, ◌+◌, ◌<◌, ◌≤◌, Bool, List, [], ◌∷◌, ◌++◌, map, Option, Some, None, Ok, Err, IsSome, true, false, not, filter, is_some, if◌then◌else◌, option_map, refl, sym, ap, subst, ◌∙◌, zero-le, arith}
use Rattle.std.specs.Bool.{nat_lt}
use Rattle.std.specs.Map.{update}
use Rattle.std.specs.Str.{bytes_eq}
use Rattle.std.proofs.lemmas.Bool.Decides.{nat_tests}
use Rattle.std.proofs.lemmas.Option.{same_Some}
use Rattle.lists.specs.Rising as rising
use Rattle.lists.specs.Rising.{RisesFrom, IsAbove}
use Rattle.lists.proofs.RisingLaws.{find_key, find-put, RisesFrom-put, RisesFrom-push, RisesFrom-filter, IsAbove-put, IsAbove-higher, IsAbove-append, IsAbove-filter}
use Rattle.lists.proofs.SameBytes.{same_bytes, bytes_eq_self}
use Rattle.schema_model.specs.declared.value.Value.{Value}
use Rattle.state_model.specs.declared.row.MapItem.{MapItem}
use Rattle.state_model.specs.Sound.{keys_differ}
use Rattle.state_model.specs.Commands.{put_key}
use Rattle.collection_ops.specs.declared.fault.ItemFault.TheVariants.{NumbersSpent}
use Rattle.trees.specs.declared.text_index.TextIndex.{TextIndex}
use Rattle.trees.specs.Texts.{leads, IsWith, IsWithout}
use Rattle.collection_ops.specs.Bodies.{MapState, map_number, key_item, if_there, map_put, map_put_over, map_remove, IsMapKept, LeadsKeys}
use Rattle.collection_ops.specs.Indexes.{key_texts, IsKeyIndex}
use Rattle.collection_ops.proofs.MapIndex.{index_by, again_index, more_index, less_index}
use Rattle.collection_ops.proofs.Indexed.{all_differ, item_has, item_found, found_item, item_there, leads-push, differ-push, item_out, leads-out, differ-filter}

-- the key of an item
abbrev key_in : MapItem → List ℕ
key_in i = i.key

-- keys differ where nothing stands twice
keys_apart : (ks : List (List ℕ)) → keys_differ ks ≡ all_differ bytes_eq ks
keys_apart [] = refl
keys_apart (k ∷ ks) = grind (arith, nat_tests, keys_apart ks)

-- the item of a key has a number from the least on
pub number_from : (low : ℕ) (items : List MapItem) (key : List ℕ) (i : MapItem) → RisesFrom map_number low items → key_item items key ≡ Some i → low ≤ i.number
number_from low [] key i r h = cc
number_from low (x ∷ items) key i r h = grind (arith, nat_tests, r.0, number_from (suc x.number) items key i r.1)

-- and below the greatest
number_below : (high : ℕ) (items : List MapItem) (key : List ℕ) (i : MapItem) → IsAbove map_number high items → key_item items key ≡ Some i → i.number < high
number_below high [] key i a h = cc
number_below high (x ∷ items) key i a h = grind (arith, nat_tests, a.0, number_below high items key i a.1)

-- ---- a new value under a key that is there

-- the new value stands under the number of the key
put_key_again : (low next : ℕ) (key : List ℕ) (v : Value) (items : List MapItem) (i : MapItem) → RisesFrom map_number low items → key_item items key ≡ Some i →
    put_key next key v items ≡ rising.put map_number (record { number = i.number; key = key; value = v }) items
put_key_again low next key v [] i r h = cc
put_key_again low next key v (x ∷ items) i r h =
    grind (arith, nat_tests, same_bytes x.key key, number_from (suc x.number) items key i r.1, put_key_again (suc x.number) next key v items i r.1)

-- the keys stay
keys_again : (next : ℕ) (key : List ℕ) (v : Value) (items : List MapItem) (i : MapItem) → key_item items key ≡ Some i → map key_in (put_key next key v items) ≡ map key_in items
keys_again next key v [] i h = cc
keys_again next key v (x ∷ items) i h = grind (arith, nat_tests, keys_again next key v items i)

-- each key leads to the number that it led to
leads_again : (next : ℕ) (key : List ℕ) (v : Value) (items : List MapItem) (i : MapItem) (q : List ℕ) → key_item items key ≡ Some i →
    option_map map_number (key_item (put_key next key v items) q) ≡ option_map map_number (key_item items q)
leads_again next key v [] i q h = cc
leads_again next key v (x ∷ items) i q h = grind (arith, nat_tests, leads_again next key v items i q)

-- what a state keeps, where its keys lead and the answer of a call
abbrev AfterPut : MapState → List ℕ → Value → List MapItem → ℕ → (List ℕ → Option ℕ) → ℕ → Option Value → Type 0
AfterPut s key v after given f n old =
    IsMapKept (record { items = after; given = given }) × LeadsKeys after f × (map_put s key v ≡ Ok (record { items = after; given = given }, (n, old)))

-- the item of the key is replaced
put_at : (s : MapState) (key : List ℕ) (v : Value) (f : List ℕ → Option ℕ) (i : MapItem) → IsMapKept s → LeadsKeys s.items f → key_item s.items key ≡ Some i →
    AfterPut s key v (rising.put map_number (record { number = i.number; key = key; value = v }) s.items) s.given f i.number (Some i.value)
put_at s key v f i kept leads at =
    let x : MapItem = record { number = i.number; key = key; value = v } in
    let same = put_key_again 0 s.given key v s.items i kept.rises at in
    let below : i.number < s.given = number_below s.given s.items key i kept.below at in
    let keys = ap keys_differ (keys_again s.given key v s.items i at) ∙ kept.differ in (
      record { rises = RisesFrom-put map_number 0 x s.items kept.rises zero-le; below = IsAbove-put map_number s.given x s.items kept.below below; differ = rw (← same) keys; few = kept.few },
      (λ q. leads q ∙ sym (rw (← same) (leads_again s.given key v s.items i q at))),
      ap (map_put_over s key v) at ∙ ap (λ items. Ok (record { items = items; given = s.given }, (i.number, Some i.value))) same,
    )

-- an item that is put over one of its number, which was put in
put_twice : (x b : MapItem) (items : List MapItem) → b.number ≡ x.number → rising.put map_number x (rising.put map_number b items) ≡ rising.put map_number x items
put_twice x b [] h = grind (arith, nat_tests)
put_twice x b (e ∷ items) h = grind (arith, nat_tests, put_twice x b items)

-- what a state keeps, its index and the answer of a put, where the number of the item is known
abbrev pub AfterAgain : MapState → ℕ → Value → List MapItem → TextIndex → Value → Type 0
AfterAgain s n v after index old =
    IsMapKept (record { items = after; given = s.given }) × IsKeyIndex after index
    × ((key : List ℕ) → option_map map_number (key_item s.items key) ≡ Some n → map_put s key v ≡ Ok (record { items = after; given = s.given }, (n, Some old)))

-- an item is put over another one, which was put over that of the number
pub put_again : (s : MapState) (n : ℕ) (v : Value) (index : TextIndex) (blank old : MapItem) (between after : List MapItem) →
    IsMapKept s → IsKeyIndex s.items index → blank.number ≡ n → rising.find map_number n s.items ≡ Some old →
    between ≡ (if is_some (rising.find map_number n s.items) then rising.put map_number blank s.items else s.items) →
    after ≡ (if is_some (rising.find map_number n between) then rising.put map_number (record { number = n; key = old.key; value = v }) between else between) →
    AfterAgain s n v after index old.value
put_again s n v index blank old between after kept is same at first second =
    rw whole (own.0, index_by _ index f (again_index s.items index is x old at refl) own.1, λ key led. of_key key (item_there map_number key_in bytes_eq same_bytes bytes_eq_self s.items key n led))
  where
    f : List ℕ → Option ℕ
    f = leads (key_texts s.items) index

    number : old.number ≡ n
    number = find_key map_number n s.items old at

    x : MapItem
    x = record { number = n; key = old.key; value = v }

    middle : between ≡ rising.put map_number blank s.items
    middle = first ∙ ap (λ o. if is_some o then rising.put map_number blank s.items else s.items) at

    there : is_some (rising.find map_number n between) ≡ true
    there = grind (arith, nat_tests, ap (rising.find map_number n) middle, find-put map_number blank s.items n)

    whole : after ≡ rising.put map_number x s.items
    whole = second ∙ (ap (λ b. if b then rising.put map_number x between else between) there ∙ (ap (rising.put map_number x) middle ∙ put_twice x blank s.items same))

    own_item : key_item s.items old.key ≡ Some old
    own_item = found_item map_number key_in bytes_eq same_bytes bytes_eq_self n s.items old (sym (keys_apart (map key_in s.items)) ∙ kept.differ) at

    own : AfterPut s old.key v (rising.put map_number x s.items) s.given f n (Some old.value)
    own = subst (λ m. AfterPut s old.key v (rising.put map_number (record { number = m; key = old.key; value = v }) s.items) s.given f m (Some old.value)) number (put_at s old.key v f old kept is.keys own_item)

    of_key : (key : List ℕ) → ((e : MapItem) × (key_item s.items key ≡ Some e) × (e.number ≡ n)) → map_put s key v ≡ Ok (record { items = rising.put map_number x s.items; given = s.given }, (n, Some old.value))
    of_key key (e, found, is_n) =
        let one : e ≡ old = same_Some e old (sym (item_found map_number key_in bytes_eq same_bytes bytes_eq_self 0 s.items key e kept.rises found) ∙ (ap (λ m. rising.find map_number m s.items) is_n ∙ at)) in
        let has : old.key ≡ key = rw one at (same_bytes e.key key (item_has map_number key_in bytes_eq same_bytes bytes_eq_self s.items key e found)) in
        subst (λ k. map_put s k v ≡ Ok (record { items = rising.put map_number x s.items; given = s.given }, (n, Some old.value))) has own.2

-- ---- a new key

-- the new item stands behind the others
put_key_new : (next : ℕ) (key : List ℕ) (v : Value) (items : List MapItem) → key_item items key ≡ None →
    put_key next key v items ≡ items ++ record { number = next; key = key; value = v } ∷ []
put_key_new next key v [] h = refl
put_key_new next key v (x ∷ items) h = grind (arith, nat_tests, put_key_new next key v items)

-- a number is left
pub left_over : (given : ℕ) → given ≤ 2147483647 → nat_lt 2147483647 given ≡ false
left_over given few = grind (arith, nat_tests)

-- what a state keeps, its index and the answer of a put of a key that isn't there
abbrev pub AfterNew : MapState → List ℕ → Value → TextIndex → Type 0
AfterNew s key v index =
    let after : MapState = record { items = s.items ++ record { number = s.given; key = key; value = v } ∷ []; given = s.given + 1 } in
    IsMapKept after × IsKeyIndex after.items index × (map_put s key v ≡ Ok (after, (s.given, None)))

-- a put of a key that isn't there
pub put_new : (s : MapState) (key : List ℕ) (v : Value) (old new : TextIndex) → IsMapKept s → IsKeyIndex s.items old → key_item s.items key ≡ None → s.given ≤ 2147483647 → IsWith old new key s.given → AfterNew s key v new
put_new s key v old new kept is absent few more =
    let x : MapItem = record { number = s.given; key = key; value = v } in
    let f = leads (key_texts s.items) old in
    let g = update bytes_eq f key (Some s.given) in
    let same = put_key_new s.given key v s.items absent in
    let apart = keys_apart (map key_in s.items) in
    let differ = differ-push map_number key_in bytes_eq same_bytes bytes_eq_self s.items x absent (sym apart ∙ kept.differ) in (
      record {
        rises = RisesFrom-push map_number 0 s.items x kept.rises kept.below zero-le;
        below = IsAbove-append map_number (s.given + 1) s.items (x ∷ []) (IsAbove-higher map_number s.given (s.given + 1) s.items kept.below (omega arith)) (omega arith, tt);
        differ = keys_apart (map key_in (s.items ++ x ∷ [])) ∙ differ;
        few = omega arith;
      },
      index_by (s.items ++ x ∷ []) new g (more_index s.items old is new x kept.below absent more) (leads-push map_number key_in bytes_eq same_bytes bytes_eq_self s.items x f g absent is.keys (λ q. refl)),
      ap (map_put_over s key v) absent
          ∙ ap (λ b. if b then Err NumbersSpent else Ok (record { items = put_key s.given key v s.items; given = s.given + 1 }, (s.given, None))) (left_over s.given few)
          ∙ ap (λ items. Ok (record { items = items; given = s.given + 1 }, (s.given, None))) same,
    )

-- ---- an item is taken out

-- the item of a key that leads somewhere is there
pub item_held : (s : MapState) (key : List ℕ) (n : ℕ) (held : Option MapItem) → IsMapKept s → option_map map_number (key_item s.items key) ≡ Some n → held ≡ rising.find map_number n s.items → IsSome held
item_held s key n held kept led found =
    let there = item_there map_number key_in bytes_eq same_bytes bytes_eq_self s.items key n led in
    let at = item_found map_number key_in bytes_eq same_bytes bytes_eq_self 0 s.items key there.0 kept.rises there.1 in
    let same : held ≡ Some there.0 = found ∙ rw there.2 at at in
    rw same refl

-- what a state keeps, its index and the answer, where an item is taken out
abbrev pub AfterRemove : MapState → List ℕ → List MapItem → TextIndex → ℕ → Value → Type 0
AfterRemove s key after index n v =
    IsMapKept (record { items = after; given = s.given }) × IsKeyIndex after index × (map_remove s key ≡ Ok (record { items = after; given = s.given }, (n, v)))

-- the items without that of a key
abbrev without : List ℕ → List MapItem → List MapItem
without key items = filter (λ (x : MapItem). not (bytes_eq x.key key)) items

-- what is kept without the item of the key
kept_without : (s : MapState) (key : List ℕ) → IsMapKept s → IsMapKept (record { items = without key s.items; given = s.given })
kept_without s key kept =
    let stays : MapItem → Bool = λ x. not (bytes_eq x.key key) in
    let differ = differ-filter map_number key_in bytes_eq same_bytes bytes_eq_self s.items stays (sym (keys_apart (map key_in s.items)) ∙ kept.differ) in
    record {
      rises = RisesFrom-filter map_number 0 stays s.items kept.rises;
      below = IsAbove-filter map_number s.given stays s.items kept.below;
      differ = keys_apart (map key_in (filter stays s.items)) ∙ differ;
      few = kept.few;
    }

-- a removal by the number that the index tells
pub taken_out : (s : MapState) (key : List ℕ) (old new : TextIndex) (n : ℕ) (i : MapItem) (after : List MapItem) →
    IsMapKept s → IsKeyIndex s.items old → option_map map_number (key_item s.items key) ≡ Some n → Some i ≡ rising.find map_number n s.items →
    after ≡ rising.remove map_number n s.items → IsWithout old new key n → AfterRemove s key after new n i.value
taken_out s key old new n i after kept is led found made less = rw whole (kept_without s key kept, index, answer)
  where
    f : List ℕ → Option ℕ
    f = leads (key_texts s.items) old

    there : (e : MapItem) × (key_item s.items key ≡ Some e) × (e.number ≡ n)
    there = item_there map_number key_in bytes_eq same_bytes bytes_eq_self s.items key n led

    at : rising.find map_number n s.items ≡ Some there.0
    at = rw there.2 at (item_found map_number key_in bytes_eq same_bytes bytes_eq_self 0 s.items key there.0 kept.rises there.1)

    out : rising.remove map_number n s.items ≡ without key s.items
    out = rw there.2 at (item_out map_number key_in bytes_eq same_bytes bytes_eq_self 0 s.items key there.0 kept.rises (sym (keys_apart (map key_in s.items)) ∙ kept.differ) there.1)

    whole : after ≡ without key s.items
    whole = made ∙ out

    index : IsKeyIndex (without key s.items) new
    index =
        let g = update bytes_eq f key None in
        index_by (without key s.items) new g (rw out at (less_index s.items old is new key n led less)) (leads-out map_number key_in bytes_eq same_bytes bytes_eq_self s.items key f g is.keys (λ q. refl))

    answer : map_remove s key ≡ Ok (record { items = without key s.items; given = s.given }, (n, i.value))
    answer =
        ap (λ o. if_there (record { items = without key s.items; given = s.given }) (option_map (λ (x : MapItem). (x.number, x.value)) o)) (there.1 ∙ (sym at ∙ sym found))
        ∙ ap (λ m. Ok (record { items = without key s.items; given = s.given }, (m, i.value))) (find_key map_number n s.items i (sym found))
