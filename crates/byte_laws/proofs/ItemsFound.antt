-- The operations on a map and on a set find their items, where the holder has those of the old row.
use Rattle.std.proofs.Common.{◌≡◌, ◌≢◌, ℕ, true, false, not, ◌||◌, ◌==◌, List, map, Some, refl, sym, ap, ◌∙◌, bytes_eq, arith}
use Rattle.std.specs.List.{list_any}
use Rattle.std.proofs.lemmas.Bool.{and_from, or_right, false_from_ne_true}
use Rattle.std.proofs.lemmas.Bool.Decides.{nat_tests}
use Rattle.lists.proofs.SameBytes.{same_bytes}
use Rattle.lists.specs.Rising.{RisesFrom, find, put, remove}
use Rattle.lists.proofs.RisingLaws.{find_key, find-put, find-remove, find-filter_kept}
use Rattle.lists.proofs.Passing.{list_any-found}
use Rattle.schema_model.specs.Classes.{Schema}
use Rattle.schema_model.specs.declared.value.Value.{Value}
use Rattle.schema_model.specs.declared.place.Home.{Home}
use Rattle.state_model.specs.declared.row.RowEntry.{RowEntry}
use Rattle.state_model.specs.declared.row.MapItem.{MapItem}
use Rattle.state_model.specs.declared.row.SetItem.{SetItem}
use Rattle.state_model.specs.Sound.{keys_differ}
use Rattle.state_model.specs.Places.{item_expects}
use Rattle.wire_model.specs.declared.op.OpKey.{OpKey}
use Rattle.wire_model.specs.declared.op.OpKey.TheVariants.{Item, Named}
use Rattle.wire_model.specs.Edits.{carried_value}
use Rattle.wire_model.specs.Effect.{Items, Elements, put_named, put_value, put_element}
use Rattle.wire_model.specs.Patch.{map_item, item_key, map_edits, set_edits}
use Rattle.wire_laws.proofs.MapRuns.{number, one_number, find-put_value, not_revalued, find_other_named}
use Rattle.byte_laws.proofs.Found.{all_found}
use Rattle.byte_laws.proofs.NumbersFound.{Keyed, others_wait, places_found}

-- where an item has a number, an operation in its place finds it
number_found : {E : Type 0} (key : E → ℕ) (es : List E) (u : ℕ) (x : E) → find key u es ≡ Some x → list_any (λ i. key i == u) es ≡ true
number_found key es u x h = list_any-found key (λ i. key i == u) es u x h (let k = find_key key u es x h in grind (arith, nat_tests))

-- after a number is removed, another one is found as before
removed_stays : {E : Type 0} (key : E → ℕ) (u k : ℕ) (es : List E) (x : E) → k ≢ u → find key k es ≡ Some x → find key k (remove key u es) ≡ Some x
removed_stays key u k es x d h = find-remove key u es k ∙ grind (arith, nat_tests)

-- and so it is after one is put
put_stays : {E : Type 0} (key : E → ℕ) (made : E) (k : ℕ) (es : List E) (x : E) → k ≢ key made → find key k es ≡ Some x → find key k (put key made es) ≡ Some x
put_stays key made k es x d h = find-put key made es k ∙ grind (arith, nat_tests)

-- ---- sets

-- the number of an item
abbrev element_number : SetItem → ℕ
element_number i = i.number

-- the operations on a set keep what waits
set_keyed : (home : Home) (old new : List SetItem) → Keyed element_number (Elements home) old new Item Item
set_keyed home old new = record {
  adds = λ u us es y c apart w n. record {
    found = refl;
    next = put_element u (carried_value c) es;
    leads = refl;
    waits = others_wait element_number (Elements home) old new u us es (put_element u (carried_value c) es) apart w (λ k x z d e o m. put_stays element_number (record { number = u; value = carried_value c }) k es x d e);
  };
  changes = λ u us es y c apart w n. record {
    found = refl;
    next = put_element u (carried_value c) es;
    leads = refl;
    waits = others_wait element_number (Elements home) old new u us es (put_element u (carried_value c) es) apart w (λ k x z d e o m. put_stays element_number (record { number = u; value = carried_value c }) k es x d e);
  };
  replaces = λ u us es x c apart w h. record {
    found = and_from _ _ (number_found element_number es u x h) refl;
    next = put_element u (carried_value c) es;
    leads = refl;
    waits = others_wait element_number (Elements home) old new u us es (put_element u (carried_value c) es) apart w (λ k z y d e o m. put_stays element_number (record { number = u; value = carried_value c }) k es z d e);
  };
  deletes = λ u us es apart w. record {
    found = refl;
    next = remove element_number u es;
    leads = refl;
    waits = others_wait element_number (Elements home) old new u us es (remove element_number u es) apart w (λ k x y d e o m. removed_stays element_number u k es x d e);
  };
}

-- the operations on a set find their items in one that has the old items
pub set_found : (schema : Schema) (rows : List RowEntry) (home declared : Home) (old new items : List SetItem) → RisesFrom (λ (i : SetItem). i.number) 0 old
    → ((k : ℕ) (x : SetItem) → find (λ (i : SetItem). i.number) k old ≡ Some x → find (λ (i : SetItem). i.number) k items ≡ Some x)
    → all_found (set_edits schema rows declared old new) (Elements home items) ≡ true
set_found schema rows home declared old new items rises there =
    places_found element_number (Elements home) old new Item Item (set_keyed home old new) (λ (i : SetItem). i.value) rows (λ n. item_expects schema declared) items rises there

-- ---- maps

module _ (old new : List MapItem) (differ : keys_differ (map (λ (i : MapItem). i.key) new) ≡ true)
    (same_keys : (n : ℕ) (x y : MapItem) → map_item old n ≡ Some x → map_item new n ≡ Some y → x.key ≡ y.key) where
  -- the key that new has for a number
  abbrev new_key : ℕ → OpKey
  new_key u = Named u (item_key (map_item new u))

  -- an item of another number has another key than new has for a number
  other_key : (u k : ℕ) (x y z : MapItem) → k ≢ u → map_item new u ≡ Some y → map_item old k ≡ Some x → map_item new k ≡ Some z → bytes_eq x.key (item_key (map_item new u)) ≡ false
  other_key u k x y z d n o m = false_from_ne_true (bytes_eq x.key (item_key (map_item new u))) (λ t.
      let key : item_key (map_item new u) ≡ y.key = ap item_key n in
      d (one_number new k u z y differ m n (sym (same_keys k x z o m) ∙ (same_bytes x.key (item_key (map_item new u)) t ∙ key))))

  -- after an item of new is put under its key, another number is found as before
  named_stays : (u k : ℕ) (v : Value) (items : List MapItem) (x y z : MapItem) → k ≢ u → map_item new u ≡ Some y → map_item items k ≡ Some x → map_item old k ≡ Some x → map_item new k ≡ Some z
      → map_item (put_named u (item_key (map_item new u)) v items) k ≡ Some x
  named_stays u k v items x y z d n e o m =
      let key = item_key (map_item new u) in
      let keeps : ((x.number == u) || not (bytes_eq x.key key)) ≡ true = or_right (x.number == u) (not (bytes_eq x.key key)) (ap not (other_key u k x y z d n o m)) in
      find_other_named u (record { number = u; key = key; value = v }) items k d
      ∙ find-filter_kept number (λ (i : MapItem). (i.number == u) || not (bytes_eq i.key key)) items k x e keeps

  -- after an item has a new value, another number is found as before
  valued_stays : (u k : ℕ) (v : Value) (items : List MapItem) (x : MapItem) → k ≢ u → map_item items k ≡ Some x → map_item (put_value u v items) k ≡ Some x
  valued_stays u k v items x d e = find-put_value u v items k ∙ (not_revalued u k v (map_item items k) d (λ z h. find_key number k items z h) ∙ e)

  -- the operations on a map keep what waits
  map_keyed : (home : Home) → Keyed number (Items home) old new Item new_key
  map_keyed home = record {
    adds = λ u us es y c apart w n. record {
      found = refl;
      next = put_named u (item_key (map_item new u)) (carried_value c) es;
      leads = refl;
      waits = others_wait number (Items home) old new u us es (put_named u (item_key (map_item new u)) (carried_value c) es) apart w (λ k x z d e o m. named_stays u k (carried_value c) es x y z d n e o m);
    };
    changes = λ u us es y c apart w n. record {
      found = refl;
      next = put_named u (item_key (map_item new u)) (carried_value c) es;
      leads = refl;
      waits = others_wait number (Items home) old new u us es (put_named u (item_key (map_item new u)) (carried_value c) es) apart w (λ k x z d e o m. named_stays u k (carried_value c) es x y z d n e o m);
    };
    replaces = λ u us es x c apart w h. record {
      found = and_from _ _ (number_found number es u x h) refl;
      next = put_value u (carried_value c) es;
      leads = refl;
      waits = others_wait number (Items home) old new u us es (put_value u (carried_value c) es) apart w (λ k z y d e o m. valued_stays u k (carried_value c) es z d e);
    };
    deletes = λ u us es apart w. record {
      found = refl;
      next = remove number u es;
      leads = refl;
      waits = others_wait number (Items home) old new u us es (remove number u es) apart w (λ k x y d e o m. removed_stays number u k es x d e);
    };
  }

-- the operations on a map find their items in one that has the old items
pub map_found : (schema : Schema) (rows : List RowEntry) (home declared : Home) (old new items : List MapItem) → RisesFrom number 0 old → keys_differ (map (λ (i : MapItem). i.key) new) ≡ true
    → ((n : ℕ) (x y : MapItem) → map_item old n ≡ Some x → map_item new n ≡ Some y → x.key ≡ y.key) → ((k : ℕ) (x : MapItem) → map_item old k ≡ Some x → map_item items k ≡ Some x)
    → all_found (map_edits schema rows declared old new) (Items home items) ≡ true
map_found schema rows home declared old new items rises differ same_keys there =
    places_found number (Items home) old new Item (new_key old new differ same_keys) (map_keyed old new differ same_keys home) (λ (i : MapItem). i.value) rows (λ n. item_expects schema declared) items rises there
