-- What holds of rows whose places are each as in one row or as in another: what they hold, their keys, and what operations leave of them.
use Rattle.std.proofs.Common.{◌≡◌, ℕ, Bool, true, false, ◌||◌, ◌&&◌, ◌==◌, List, map, Option, Some, None, refl, sym, ap, ◌∙◌, subst, bytes_eq}
use Rattle.std.specs.List.{list_all, list_any, flat_map}
use Rattle.std.proofs.lemmas.Bool.{eqb-true, or_left, or_right}
use Rattle.lists.proofs.RisingLaws.{find_key}
use Rattle.schema_model.specs.Classes.{Schema}
use Rattle.schema_model.specs.declared.value.Value.{Value}
use Rattle.schema_model.specs.declared.place.Home.{Home}
use Rattle.state_model.specs.declared.row.Row.{Row}
use Rattle.state_model.specs.declared.row.Row.TheVariants.{Struct, Map, Array, Set}
use Rattle.state_model.specs.declared.row.RowEntry.{RowEntry}
use Rattle.state_model.specs.declared.row.FieldValue.{FieldValue}
use Rattle.state_model.specs.declared.row.MapItem.{MapItem}
use Rattle.state_model.specs.declared.row.SetItem.{SetItem}
use Rattle.state_model.specs.Values.{same_value, held_by}
use Rattle.state_model.specs.Rows.{held_in, emptied}
use Rattle.state_model.specs.Places.{same_kind}
use Rattle.state_model.specs.Reached.{is_among}
use Rattle.std.proofs.lemmas.Bool.{and_parts, and_from}
use Rattle.lists.proofs.SameBytes.{same_bytes, bytes_eq_self}
use Rattle.lists.proofs.Numbers.{same_number}
use Rattle.lists.proofs.Passing.{found_passing, all_and_any, list_all_wider, list_any_narrower, list_any-flat_map, list_any-map, StandsIn, all-found}
use Rattle.wire_model.specs.Effect.{edited_row}
use Rattle.wire_model.specs.Patch.{row_edits, whole_edits, map_item}
use Rattle.wire_laws.proofs.Forms.{IsFormed}
use Rattle.state_laws.proofs.SameValues.{same_is, same_self}
use Rattle.wire_laws.proofs.EditSteps.{all_each}
use Rattle.wire_laws.proofs.EditedPlaces.{all_places, edited_places, whole_places}
use Rattle.wire_laws.proofs.Origins.{has_field, has_value, has_key, some_row, IsFrom}

-- ---- tests

-- one of two wider tests holds where one of two does
either_wider : (x y u v : Bool) → (x ≡ true → u ≡ true) → (y ≡ true → v ≡ true) → (x || y) ≡ true → (u || v) ≡ true
either_wider true y u v f g h = or_left u v (f refl)
either_wider false y u v f g h = or_right u v (g h)

-- a row that passes a test passes a wider one
some_wider : (p q : Row → Bool) → ((r : Row) → p r ≡ true → q r ≡ true) → (o : Option Row) → some_row p o ≡ true → some_row q o ≡ true
some_wider p q n None h = h
some_wider p q n (Some r) h = n r h

-- all pass, where each that stands there does
all_own : {X : Type 0} (q : X → Bool) (xs : List X) → ((x : X) → StandsIn x xs → q x ≡ true) → list_all q xs ≡ true
all_own q xs n = list_all_wider (λ x. true) q xs (λ x s t. n x s) (all_each (λ x. true) (λ x. refl) xs)

-- ---- a row's own places

-- places pass where all fields, values and keys that the row has do
own_places : (p : ℕ → Value → Bool) (q : Value → Bool) (k : ℕ → List ℕ → Bool) (r : Row) → ((i : ℕ) (v : Value) → has_field i v r ≡ true → p i v ≡ true)
    → ((v : Value) → has_value v r ≡ true → q v ≡ true) → ((n : ℕ) (key : List ℕ) → has_key n key r ≡ true → k n key ≡ true) → all_places p q k r ≡ true
own_places p q k (Struct class fields) f g h =
    all_own (λ (x : FieldValue). p x.field x.value) fields
    (λ x s. f x.field x.value (s (λ (y : FieldValue). (y.field == x.field) && same_value y.value x.value) (and_from _ _ (same_number x.field) (same_self x.value))))
own_places p q k (Map home items) f g h =
    all_own (λ (x : MapItem). q x.value && k x.number x.key) items
    (λ x s. and_from (q x.value) (k x.number x.key)
    (g x.value (list_any-map (λ u. same_value u x.value) (λ (y : MapItem). y.value) items ∙ s (λ (y : MapItem). same_value y.value x.value) (same_self x.value)))
    (h x.number x.key (s (λ (y : MapItem). (y.number == x.number) && bytes_eq y.key x.key) (and_from _ _ (same_number x.number) (bytes_eq_self x.key)))))
own_places p q k (Array home values) f g h = all_own q values (λ v s. g v (s (λ u. same_value u v) (same_self v)))
own_places p q k (Set home items) f g h =
    all_own (λ (x : SetItem). q x.value) items
    (λ x s. g x.value (list_any-map (λ u. same_value u x.value) (λ (y : SetItem). y.value) items ∙ s (λ (y : SetItem). same_value y.value x.value) (same_self x.value)))

-- each place of the first row is one of its own
pub from_client : (b : Option Row) (r : Row) → IsFrom (Some r) b r
from_client b r =
    own_places (λ i v. has_field i v r || some_row (has_field i v) b) (λ v. has_value v r || some_row (has_value v) b) (λ n key. has_key n key r || some_row (has_key n key) b) r
    (λ i v t. or_left (has_field i v r) (some_row (has_field i v) b) t)
    (λ v t. or_left (has_value v r) (some_row (has_value v) b) t)
    (λ n key t. or_left (has_key n key r) (some_row (has_key n key) b) t)

-- each place of the second row is one of its own
pub from_goal : (a : Option Row) (r : Row) → IsFrom a (Some r) r
from_goal a r =
    own_places (λ i v. some_row (has_field i v) a || has_field i v r) (λ v. some_row (has_value v) a || has_value v r) (λ n key. some_row (has_key n key) a || has_key n key r) r
    (λ i v t. or_right (some_row (has_field i v) a) (has_field i v r) t)
    (λ v t. or_right (some_row (has_value v) a) (has_value v r) t)
    (λ n key t. or_right (some_row (has_key n key) a) (has_key n key r) t)

-- an empty row has no place that is of neither
pub from_emptied : (a b : Option Row) (r : Row) → IsFrom a b (emptied r)
from_emptied a b (Struct class fields) = refl
from_emptied a b (Map home items) = refl
from_emptied a b (Array home values) = refl
from_emptied a b (Set home items) = refl

-- ---- operations

-- the operations that lead to the second row leave places of the two alone
pub from_edited : (schema : Schema) (rows : List RowEntry) (x b c : Row) (a : Option Row) → same_kind x b ≡ true → same_kind b c ≡ true → IsFrom a (Some b) c → IsFrom a (Some b) (edited_row (row_edits schema rows x b) c)
from_edited schema rows x b c a k l h =
    edited_places (λ i v. some_row (has_field i v) a || has_field i v b) (λ v. some_row (has_value v) a || has_value v b) (λ n key. some_row (has_key n key) a || has_key n key b)
    schema rows x b c k l (from_goal a b) h

-- so do the operations of the second row as a whole
pub from_whole : (schema : Schema) (rows : List RowEntry) (b c : Row) (a : Option Row) → same_kind b c ≡ true → IsFrom a (Some b) c → IsFrom a (Some b) (edited_row (whole_edits schema rows b) c)
from_whole schema rows b c a l h =
    whole_places (λ i v. some_row (has_field i v) a || has_field i v b) (λ v. some_row (has_value v) a || has_value v b) (λ n key. some_row (has_key n key) a || has_key n key b)
    schema rows b c l (from_goal a b) h

-- ---- what a row holds

-- values with one that holds a number hold it
value_holds : (v : Value) (m : ℕ) → is_among m (held_by v) ≡ true → (vs : List Value) → list_any (λ u. same_value u v) vs ≡ true → is_among m (flat_map held_by vs) ≡ true
value_holds v m t vs h =
    list_any-flat_map (λ n. n == m) held_by vs
    ∙ list_any_narrower (λ u. same_value u v) (λ u. is_among m (held_by u)) vs (λ u e. ap (λ w. is_among m (held_by w)) (same_is u v e) ∙ t) h

-- a row with a value that holds a number holds it
row_holds : (v : Value) (m : ℕ) → is_among m (held_by v) ≡ true → (r : Row) → has_value v r ≡ true → is_among m (held_in r) ≡ true
row_holds v m t (Struct class fields) h = absurd cc
row_holds v m t (Map home items) h = value_holds v m t (map (λ (i : MapItem). i.value) items) h
row_holds v m t (Array home values) h = value_holds v m t values h
row_holds v m t (Set home items) h = value_holds v m t (map (λ (i : SetItem). i.value) items) h

-- a row with a field that holds a number holds it
field_holds : (i : ℕ) (v : Value) (m : ℕ) → is_among m (held_by v) ≡ true → (r : Row) → has_field i v r ≡ true → is_among m (held_in r) ≡ true
field_holds i v m t (Struct class fields) h =
    value_holds v m t (map (λ (f : FieldValue). f.value) fields)
    (list_any-map (λ u. same_value u v) (λ (f : FieldValue). f.value) fields
    ∙ list_any_narrower (λ (f : FieldValue). (f.field == i) && same_value f.value v) (λ (f : FieldValue). same_value f.value v) fields (λ f e. (and_parts (f.field == i) (same_value f.value v) e).1) h)
field_holds i v m t (Map home items) h = absurd cc
field_holds i v m t (Array home values) h = absurd cc
field_holds i v m t (Set home items) h = absurd cc

-- what the values of items hold one item's value holds
item_holding : {X : Type 0} (value : X → Value) (m : ℕ) (xs : List X) → is_among m (flat_map held_by (map value xs)) ≡ true → list_any (λ x. is_among m (held_by (value x))) xs ≡ true
item_holding value m xs h = sym (list_any-map (λ v. is_among m (held_by v)) value xs) ∙ sym (list_any-flat_map (λ n. n == m) held_by (map value xs)) ∙ h

module _ (a b : Option Row) (m : ℕ) where
  -- one of the two rows holds the number
  abbrev either_holds : Bool
  either_holds = some_row (λ x. is_among m (held_in x)) a || some_row (λ x. is_among m (held_in x)) b

  -- one of them does, where one has a field of a value that does
  either_field : (i : ℕ) (v : Value) → (some_row (has_field i v) a || some_row (has_field i v) b) ≡ true → is_among m (held_by v) ≡ true → either_holds ≡ true
  either_field i v h t =
      either_wider (some_row (has_field i v) a) (some_row (has_field i v) b) (some_row (λ x. is_among m (held_in x)) a) (some_row (λ x. is_among m (held_in x)) b)
      (some_wider (has_field i v) (λ x. is_among m (held_in x)) (field_holds i v m t) a) (some_wider (has_field i v) (λ x. is_among m (held_in x)) (field_holds i v m t) b) h

  -- or an item of such a value
  either_value : (v : Value) → (some_row (has_value v) a || some_row (has_value v) b) ≡ true → is_among m (held_by v) ≡ true → either_holds ≡ true
  either_value v h t =
      either_wider (some_row (has_value v) a) (some_row (has_value v) b) (some_row (λ x. is_among m (held_in x)) a) (some_row (λ x. is_among m (held_in x)) b)
      (some_wider (has_value v) (λ x. is_among m (held_in x)) (row_holds v m t) a) (some_wider (has_value v) (λ x. is_among m (held_in x)) (row_holds v m t) b) h

  -- what the row holds one of the two holds
  held_from : (r : Row) → IsFrom a b r → is_among m (held_in r) ≡ true → either_holds ≡ true
  held_from (Struct class fields) h t =
      all_and_any (λ (f : FieldValue). some_row (has_field f.field f.value) a || some_row (has_field f.field f.value) b) (λ (f : FieldValue). is_among m (held_by f.value)) fields either_holds
      (λ f p q. either_field f.field f.value p q) h (item_holding (λ (f : FieldValue). f.value) m fields t)
  held_from (Map home items) h t =
      all_and_any
      (λ (i : MapItem). (some_row (has_value i.value) a || some_row (has_value i.value) b) && (some_row (has_key i.number i.key) a || some_row (has_key i.number i.key) b))
      (λ (i : MapItem). is_among m (held_by i.value)) items either_holds
      (λ i p q. either_value i.value (and_parts (some_row (has_value i.value) a || some_row (has_value i.value) b) (some_row (has_key i.number i.key) a || some_row (has_key i.number i.key) b) p).0 q)
      h (item_holding (λ (i : MapItem). i.value) m items t)
  held_from (Array home values) h t =
      all_and_any (λ v. some_row (has_value v) a || some_row (has_value v) b) (λ v. is_among m (held_by v)) values either_holds either_value h
      (sym (list_any-flat_map (λ n. n == m) held_by values) ∙ t)
  held_from (Set home items) h t =
      all_and_any (λ (i : SetItem). some_row (has_value i.value) a || some_row (has_value i.value) b) (λ (i : SetItem). is_among m (held_by i.value)) items either_holds
      (λ i p q. either_value i.value p q) h (item_holding (λ (i : SetItem). i.value) m items t)

-- what a row with places of two others alone holds one of the two holds
pub from_held : (a b : Option Row) (r : Row) (m : ℕ) → IsFrom a b r → is_among m (held_in r) ≡ true → (some_row (λ x. is_among m (held_in x)) a || some_row (λ x. is_among m (held_in x)) b) ≡ true
from_held a b r m h t = held_from a b m r h t

-- ---- keys

-- the key of an item of a map one of the two has under its number
pub from_key : (a b : Option Row) (home : Home) (items : List MapItem) (n : ℕ) (i : MapItem) → IsFrom a b (Map home items) → map_item items n ≡ Some i → (some_row (has_key n i.key) a || some_row (has_key n i.key) b) ≡ true
from_key a b home items n i h f =
    let passes = all-found (λ (j : MapItem). j.number)
    (λ (j : MapItem). (some_row (has_value j.value) a || some_row (has_value j.value) b) && (some_row (has_key j.number j.key) a || some_row (has_key j.number j.key) b)) items n i h f in
    let two = and_parts (some_row (has_value i.value) a || some_row (has_value i.value) b) (some_row (has_key i.number i.key) a || some_row (has_key i.number i.key) b) passes in
    let number : i.number ≡ n = find_key (λ (j : MapItem). j.number) n items i f in
    subst (λ k. (some_row (has_key k i.key) a || some_row (has_key k i.key) b) ≡ true) number two.1

-- a well formed row that has an item of this number and key is a map, and this is the item of this number
pub has_key_item : (n : ℕ) (key : List ℕ) (r : Row) (schema : Schema) → IsFormed schema r → has_key n key r ≡ true
    → (home : Home) × (items : List MapItem) × (i : MapItem) × (r ≡ Map home items) × (map_item items n ≡ Some i) × (i.key ≡ key)
has_key_item n key (Struct class fields) schema f h = absurd cc
has_key_item n key (Map home items) schema f h =
    let found = found_passing (λ (i : MapItem). i.number) (λ (i : MapItem). (i.number == n) && bytes_eq i.key key) 0 items f.0 h in
    let two = and_parts (found.0.number == n) (bytes_eq found.0.key key) found.2 in
    let number : found.0.number ≡ n = eqb-true found.0.number n two.0 in
    (home, items, found.0, refl, subst (λ k. map_item items k ≡ Some found.0) number found.1, same_bytes found.0.key key two.1)
has_key_item n key (Array home values) schema f h = absurd cc
has_key_item n key (Set home items) schema f h = absurd cc
