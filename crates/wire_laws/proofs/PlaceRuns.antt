-- The operations on places that are told apart by number alone: fields, and the items of a set.
use Rattle.std.proofs.Common.{◌≡◌, ℕ, Bool, true, false, List, [], ◌∷◌, map, Option, Some, None, inl, inr, refl, sym, ap, ◌∙◌, arith}
use Rattle.std.specs.List.{fold, flat_map}
use Rattle.std.specs.Option.{option_map}
use Rattle.std.proofs.lemmas.Bool.Decides.{nat_tests}
use Rattle.lists.specs.Rising.{RisesFrom, find, put, remove}
use Rattle.lists.proofs.RisingLaws.{find_key, find-put, find-remove, RisesFrom-put, RisesFrom-remove}
use Rattle.schema_model.specs.Classes.{Schema}
use Rattle.schema_model.specs.declared.value.Value.{Value}
use Rattle.schema_model.specs.declared.place.Home.{Home}
use Rattle.state_model.specs.declared.row.RowEntry.{RowEntry}
use Rattle.state_model.specs.declared.row.FieldValue.{FieldValue}
use Rattle.state_model.specs.declared.row.SetItem.{SetItem}
use Rattle.state_model.specs.Values.{same_value, is_link}
use Rattle.state_model.specs.declared.place.Expected.{Expected}
use Rattle.state_model.specs.Places.{field_expects, item_expects}
use Rattle.state_model.specs.Reached.{is_among}
use Rattle.wire_model.specs.declared.op.OpKey.{OpKey}
use Rattle.wire_model.specs.declared.op.OpKey.TheVariants.{Field, Item}
use Rattle.wire_model.specs.Edits.{Edit, Add, Replace, DeleteAdd, Delete, Carried, carried_value}
use Rattle.wire_model.specs.Effect.{Body, Fields, Elements, effect}
use Rattle.wire_model.specs.Patch.{carried, changed_place, place_edit, either_number, field_edits, set_edits}
use Rattle.state_laws.proofs.SameValues.{same_is}
use Rattle.wire_laws.proofs.Values.{carried_is}
use Rattle.wire_laws.proofs.Runs.{Between, Stepped, Waits, whole_run}

module _ {E : Type 0} (key : E → ℕ) (value : E → Value) (made : ℕ → Value → E) (wrap : List E → Body) (place : ℕ → OpKey) where
  -- an item is made of its number and its value, and these are what operations change
  record PlainPlaces : Type 0 where
    key_of : (n : ℕ) (v : Value) → key (made n v) ≡ n
    remade : (e : E) → made (key e) (value e) ≡ e
    added : (n : ℕ) (c : Carried) (es : List E) → effect (Add (place n) c) (wrap es) ≡ wrap (put key (made n (carried_value c)) es)
    replaced : (n : ℕ) (c : Carried) (es : List E) → effect (Replace (place n) c) (wrap es) ≡ wrap (put key (made n (carried_value c)) es)
    changed : (n : ℕ) (c : Carried) (es : List E) → effect (DeleteAdd (place n) c) (wrap es) ≡ wrap (put key (made n (carried_value c)) es)
    deleted : (n : ℕ) (es : List E) → effect (Delete (place n)) (wrap es) ≡ wrap (remove key n es)

module _ {E : Type 0} (key : E → ℕ) (value : E → Value) (made : ℕ → Value → E) (wrap : List E → Body) (place : ℕ → OpKey) (laws : PlainPlaces key value made wrap place)
    (rows : List RowEntry) (expected : ℕ → Option Expected) (old new : List E) where
  -- the list after one number
  abbrev Next : ℕ → List E → List Edit → Type 0
  Next u es edits = (next : List E) × (fold (λ body e. effect e body) (wrap es) edits ≡ wrap next) × Stepped key old new u es next

  -- a place that is found is what is made of its number and value
  found_made : (u : ℕ) (es : List E) (y : E) → find key u es ≡ Some y → made u (value y) ≡ y
  found_made u es y h = ap (λ n. made n (value y)) (sym (find_key key u es y h)) ∙ laws.remade y

  -- the item of new is put
  put_step : (u : ℕ) (es : List E) (y : E) → RisesFrom key 0 es → find key u new ≡ Some y → Stepped key old new u es (put key (made u (value y)) es)
  put_step u es y r h =
      let k = laws.key_of u (value y) in
      let m = found_made u new y h in
      record {
        rises = RisesFrom-put key 0 (made u (value y)) es r (omega arith);
        here = find-put key (made u (value y)) es u ∙ grind (arith, nat_tests);
        elsewhere = λ n d. inl (find-put key (made u (value y)) es n ∙ grind (arith, nat_tests));
      }

  -- an item that new lacks is removed
  remove_step : (u : ℕ) (es : List E) → RisesFrom key 0 es → find key u new ≡ None → Stepped key old new u es (remove key u es)
  remove_step u es r h = record {
    rises = RisesFrom-remove key 0 u es r;
    here = find-remove key u es u ∙ grind (arith, nat_tests);
    elsewhere = λ n d. inl (find-remove key u es n ∙ grind (arith, nat_tests));
  }

  -- an item is as it was
  same_step : (u : ℕ) (es : List E) → RisesFrom key 0 es → find key u es ≡ find key u new → Stepped key old new u es es
  same_step u es r h = record { rises = r; here = h; elsewhere = λ n d. inl refl }

  -- a number that waits is as in new, where new has nothing or old and new agree
  waits_none : (u : ℕ) (es : List E) → Waits key old new u es → find key u old ≡ None → find key u new ≡ None → find key u es ≡ find key u new
  waits_none u es (inl w) o n = cc
  waits_none u es (inr w) o n = cc

  -- a number at which old and new have the same looks up as in new
  waits_same : (u : ℕ) (es : List E) (x y : E) → Waits key old new u es → find key u old ≡ Some x → find key u new ≡ Some y → x ≡ y → find key u es ≡ find key u new
  waits_same u es x y (inl w) o n e = cc
  waits_same u es x y (inr w) o n e = cc

  -- items of one number whose values are equal are equal
  same_item : (u : ℕ) (x y : E) → find key u old ≡ Some x → find key u new ≡ Some y → same_value (value x) (value y) ≡ true → x ≡ y
  same_item u x y o n t = sym (found_made u old x o) ∙ ap (made u) (same_is (value x) (value y) t) ∙ found_made u new y n

  -- an operation that puts what it carries
  put_next : (u : ℕ) (es : List E) (y : E) (e : Edit) → RisesFrom key 0 es → find key u new ≡ Some y
      → effect e (wrap es) ≡ wrap (put key (made u (carried_value (carried rows (expected u) (value y)))) es) → Next u es (e ∷ [])
  put_next u es y e r h k = (put key (made u (value y)) es, k ∙ ap (λ v. wrap (put key (made u v) es)) (carried_is rows (expected u) (value y)), put_step u es y r h)

  -- the operation on a place that has another value
  change_next : (u : ℕ) (es : List E) (y : E) → RisesFrom key 0 es → find key u new ≡ Some y → (link : Bool) → is_link (value y) ≡ link
      → Next u es (changed_place (place u) (place u) (value y) (carried rows (expected u) (value y)) ∷ [])
  change_next u es y r h true t = rw t (put_next u es y (DeleteAdd (place u) (carried rows (expected u) (value y))) r h (laws.changed u (carried rows (expected u) (value y)) es))
  change_next u es y r h false t = rw t (put_next u es y (Replace (place u) (carried rows (expected u) (value y))) r h (laws.replaced u (carried rows (expected u) (value y)) es))

  -- a number that both have
  both_next : (u : ℕ) (es : List E) (x y : E) → RisesFrom key 0 es → Waits key old new u es → find key u old ≡ Some x → find key u new ≡ Some y → (same : Bool) → same_value (value x) (value y) ≡ same
      → Next u es (place_edit (place u) (place u) rows (expected u) (Some (value x)) (Some (value y)))
  both_next u es x y r w o n true t = rw t (es, refl, same_step u es r (waits_same u es x y w o n (same_item u x y o n t)))
  both_next u es x y r w o n false t = rw t (change_next u es y r n (is_link (value y)) refl)

  -- the operations at a number, by whether it is in old and in new
  next_at : (u : ℕ) (es : List E) (o n : Option E) → RisesFrom key 0 es → Waits key old new u es → find key u old ≡ o → find key u new ≡ n
      → Next u es (place_edit (place u) (place u) rows (expected u) (option_map value o) (option_map value n))
  next_at u es None None r w o n = (es, refl, same_step u es r (waits_none u es w o n))
  next_at u es None (Some y) r w o n = put_next u es y (Add (place u) (carried rows (expected u) (value y))) r n (laws.added u (carried rows (expected u) (value y)) es)
  next_at u es (Some x) None r w o n = (remove key u es, laws.deleted u es, remove_step u es r n)
  next_at u es (Some x) (Some y) r w o n = both_next u es x y r w o n (same_value (value x) (value y)) refl

  -- the operations at the first number that is left
  step : (u : ℕ) (us : List ℕ) (es : List E) → is_among u us ≡ false → Between key old new (u ∷ us) es
      → Next u es (place_edit (place u) (place u) rows (expected u) (option_map value (find key u old)) (option_map value (find key u new)))
  step u us es apart b = next_at u es (find key u old) (find key u new) b.rises (b.waits u (grind (arith, nat_tests))) refl refl

  -- the operations lead from the old places to the new ones
  plain_run : RisesFrom key 0 old → RisesFrom key 0 new
      → fold (λ body e. effect e body) (wrap old) (flat_map (λ u. place_edit (place u) (place u) rows (expected u) (option_map value (find key u old)) (option_map value (find key u new))) (either_number (map key old) (map key new)))
      ≡ wrap new
  plain_run r s = whole_run key old new (λ body e. effect e body) wrap (λ u. place_edit (place u) (place u) rows (expected u) (option_map value (find key u old)) (option_map value (find key u new))) step r s

-- the fields of an instance
field_places : (class : ℕ) → PlainPlaces (λ (f : FieldValue). f.field) (λ (f : FieldValue). f.value) (λ n v. let f : FieldValue = record { field = n; value = v } in f) (Fields class) Field
field_places class = record {
  key_of = λ n v. refl;
  remade = λ e. refl;
  added = λ n c es. refl;
  replaced = λ n c es. refl;
  changed = λ n c es. refl;
  deleted = λ n es. refl;
}

-- the operations on an instance lead from its old fields to its new ones
pub field_run : (schema : Schema) (rows : List RowEntry) (class declared : ℕ) (old new : List FieldValue) → RisesFrom (λ (f : FieldValue). f.field) 0 old → RisesFrom (λ (f : FieldValue). f.field) 0 new
    → fold (λ body e. effect e body) (Fields class old) (field_edits schema rows declared old new) ≡ Fields class new
field_run schema rows class declared old new r s = plain_run (λ (f : FieldValue). f.field) (λ (f : FieldValue). f.value) (λ n v. let f : FieldValue = record { field = n; value = v } in f) (Fields class) Field (field_places class)
    rows (field_expects schema declared) old new r s

-- the items of a set
set_places : (home : Home) → PlainPlaces (λ (i : SetItem). i.number) (λ (i : SetItem). i.value) (λ n v. let i : SetItem = record { number = n; value = v } in i) (Elements home) Item
set_places home = record {
  key_of = λ n v. refl;
  remade = λ e. refl;
  added = λ n c es. refl;
  replaced = λ n c es. refl;
  changed = λ n c es. refl;
  deleted = λ n es. refl;
}

-- the operations on a set lead from its old items to its new ones
pub set_run : (schema : Schema) (rows : List RowEntry) (home declared : Home) (old new : List SetItem) → RisesFrom (λ (i : SetItem). i.number) 0 old → RisesFrom (λ (i : SetItem). i.number) 0 new
    → fold (λ body e. effect e body) (Elements home old) (set_edits schema rows declared old new) ≡ Elements home new
set_run schema rows home declared old new r s = plain_run (λ (i : SetItem). i.number) (λ (i : SetItem). i.value) (λ n v. let i : SetItem = record { number = n; value = v } in i) (Elements home) Item (set_places home)
    rows (λ n. item_expects schema declared) old new r s
