-- What an edited row holds it held before, or the operations name it.
use Rattle.std.proofs.Common.{◌≡◌, ℕ, Bool, true, false, not, cond, ◌||◌, ◌==◌, List, [], ◌∷◌, map, filter, Option, Some, None, refl, sym, ap, ◌∙◌, arith}
use Rattle.std.specs.List.{list_all, flat_map}
use Rattle.std.specs.Option.{option_map_or}
use Rattle.std.proofs.lemmas.Bool.{and_parts, and_from}
use Rattle.std.proofs.lemmas.Bool.Decides.{nat_tests}
use Rattle.std.proofs.lemmas.List.Folds.{list_any-append}
use Rattle.lists.specs.Rising.{put}
use Rattle.schema_model.specs.declared.value.Value.{Value}
use Rattle.state_model.specs.declared.row.Row.{Row}
use Rattle.state_model.specs.declared.row.FieldValue.{FieldValue}
use Rattle.state_model.specs.declared.row.MapItem.{MapItem}
use Rattle.state_model.specs.declared.row.SetItem.{SetItem}
use Rattle.state_model.specs.Values.{held_by}
use Rattle.state_model.specs.Rows.{values_in, held_in}
use Rattle.state_model.specs.Reached.{is_among}
use Rattle.wire_model.specs.declared.op.OpKey.TheVariants.{Field, Item, Named}
use Rattle.wire_model.specs.Edits.{Edit, Add, Replace, DeleteAdd, Delete, Clear, AddByRef, DeleteByRef, Carried, Plain, Linked, AWhole, AText, ATruth, carried_value}
use Rattle.wire_model.specs.Effect.{Body, Fields, Items, Slots, Elements, closed, effect, edited_row, put_value, without_key, carried_by}
use Rattle.wire_model.specs.Patch.{named_in, linked_number}
use Rattle.wire_laws.proofs.EditSteps.{edited_keeps, all-drop_link}
use Rattle.wire_laws.proofs.EditedPlaces.{all-set, all-put_slot, all-add_slot, all-push_link}

-- ---- values that pass

module _ (t : Value → Bool) where
  module _ {E : Type 0} (value : E → Value) where
    -- where the values of a new item and of the others pass, all pass
    values-put : (key : E → ℕ) (x : E) (es : List E) → t (value x) ≡ true → list_all t (map value es) ≡ true → list_all t (map value (put key x es)) ≡ true
    values-put key x [] h a = grind arith
    values-put key x (e ∷ es) h a = grind (arith, nat_tests, values-put key x es h)

    -- the values of some items pass where all do
    values-filter : (kept : E → Bool) (es : List E) → list_all t (map value es) ≡ true → list_all t (map value (filter kept es)) ≡ true
    values-filter kept [] a = refl
    values-filter kept (e ∷ es) a = grind (arith, nat_tests, values-filter kept es)

  -- with a new value that passes under a number, all values of a map pass
  values-put_value : (n : ℕ) (v : Value) (items : List MapItem) → t v ≡ true → list_all t (map (λ (i : MapItem). i.value) items) ≡ true → list_all t (map (λ (i : MapItem). i.value) (put_value n v items)) ≡ true
  values-put_value n v [] h a = refl
  values-put_value n v (i ∷ is) h a =
      let two = and_parts (t i.value) (list_all t (map (λ (j : MapItem). j.value) is)) a in
      by (i.number == n) two.0 (values-put_value n v is h two.1)
    where
      by : (b : Bool) → t i.value ≡ true → list_all t (map (λ (j : MapItem). j.value) (put_value n v is)) ≡ true
          → list_all t (map (λ (j : MapItem). j.value) (cond b (record { number = i.number; key = i.key; value = v }) i ∷ put_value n v is)) ≡ true
      by true here rest = and_from _ _ h rest
      by false here rest = and_from _ _ here rest

  -- what an operation carries passes
  abbrev carries : Edit → Bool
  carries e = option_map_or (λ c. t (carried_value c)) (carried_by e) true

  -- where what it carries passes, an operation leaves values that pass
  values_effect : (e : Edit) (b : Body) → carries e ≡ true → list_all t (values_in (closed b)) ≡ true → list_all t (values_in (closed (effect e b))) ≡ true
  values_effect (Add (Field i) v) (Fields class fields) h a = values-put (λ (f : FieldValue). f.value) (λ f. f.field) (record { field = i; value = carried_value v }) fields h a
  values_effect (Replace (Field i) v) (Fields class fields) h a = values-put (λ (f : FieldValue). f.value) (λ f. f.field) (record { field = i; value = carried_value v }) fields h a
  values_effect (DeleteAdd (Field i) v) (Fields class fields) h a = values-put (λ (f : FieldValue). f.value) (λ f. f.field) (record { field = i; value = carried_value v }) fields h a
  values_effect (Delete (Field i)) (Fields class fields) h a = values-filter (λ (f : FieldValue). f.value) _ fields a
  values_effect (Add (Named n key) v) (Items home items) h a =
      values-put (λ (i : MapItem). i.value) (λ i. i.number) (record { number = n; key = key; value = carried_value v }) (without_key n key items) h (values-filter (λ (i : MapItem). i.value) _ items a)
  values_effect (DeleteAdd (Named n key) v) (Items home items) h a =
      values-put (λ (i : MapItem). i.value) (λ i. i.number) (record { number = n; key = key; value = carried_value v }) (without_key n key items) h (values-filter (λ (i : MapItem). i.value) _ items a)
  values_effect (Replace (Item n) v) (Items home items) h a = values-put_value n (carried_value v) items h a
  values_effect (Delete (Item n)) (Items home items) h a = values-filter (λ (i : MapItem). i.value) _ items a
  values_effect Clear (Items home items) h a = refl
  values_effect (Add (Item at) v) (Slots home slots) h a = all-add_slot t at (carried_value v) slots h a
  values_effect (Replace (Item at) v) (Slots home slots) h a = all-put_slot t at (carried_value v) slots h a
  values_effect (DeleteAdd (Item at) v) (Slots home slots) h a = all-put_slot t at (carried_value v) slots h a
  values_effect (Delete (Item at)) (Slots home slots) h a = all-set t slots at None refl a
  values_effect (AddByRef v) (Slots home slots) h a = all-push_link t (carried_value v) slots h a
  values_effect (DeleteByRef n) (Slots home slots) h a = all-drop_link t n slots a
  values_effect Clear (Slots home slots) h a = refl
  values_effect (Add (Item n) v) (Elements home items) h a = values-put (λ (i : SetItem). i.value) (λ i. i.number) (record { number = n; value = carried_value v }) items h a
  values_effect (DeleteAdd (Item n) v) (Elements home items) h a = values-put (λ (i : SetItem). i.value) (λ i. i.number) (record { number = n; value = carried_value v }) items h a
  values_effect (Replace (Item n) v) (Elements home items) h a = values-put (λ (i : SetItem). i.value) (λ i. i.number) (record { number = n; value = carried_value v }) items h a
  values_effect (Delete (Item n)) (Elements home items) h a = values-filter (λ (i : SetItem). i.value) _ items a
  values_effect Clear (Elements home items) h a = refl
  values_effect e b h a = a

  -- operations that carry what passes leave values that pass
  values_kept : (es : List Edit) (c : Row) → list_all carries es ≡ true → list_all t (values_in c) ≡ true → list_all t (values_in (edited_row es c)) ≡ true
  values_kept es c h a = edited_keeps (λ r. list_all t (values_in r) ≡ true) carries values_effect es c h a

-- ---- numbers

-- a value doesn't hold this number
abbrev is_apart : ℕ → Value → Bool
is_apart m v = not (is_among m (held_by v))

-- values are all apart from a number where it isn't among what they hold
apart_values : (m : ℕ) (vs : List Value) → list_all (is_apart m) vs ≡ not (is_among m (flat_map held_by vs))
apart_values m [] = refl
apart_values m (v ∷ vs) = grind (arith, apart_values m vs, list_any-append (λ n. n == m) (held_by v) (flat_map held_by vs))

-- what is carried holds as a value what it is linked to
carried_holds : (c : Carried) → held_by (carried_value c) ≡ linked_number c
carried_holds (Plain kind (AWhole z)) = refl
carried_holds (Plain kind (AText s)) = refl
carried_holds (Plain kind (ATruth b)) = refl
carried_holds (Linked n empty) = refl

-- what an operation carries is apart from a number where the operation doesn't name it
carries_apart : (m : ℕ) (o : Option Carried) → option_map_or (λ c. is_apart m (carried_value c)) o true ≡ not (is_among m (option_map_or linked_number o []))
carries_apart m None = refl
carries_apart m (Some c) = ap (λ ns. not (is_among m ns)) (carried_holds c)

-- what operations carry is apart from a number where they don't name it
edits_apart : (m : ℕ) (es : List Edit) → list_all (carries (is_apart m)) es ≡ not (is_among m (named_in es))
edits_apart m [] = refl
edits_apart m (e ∷ es) =
    grind (arith, carries_apart m (carried_by e), edits_apart m es, list_any-append (λ n. n == m) (option_map_or linked_number (carried_by e) []) (named_in es))

-- a test that is false where two others are is one of them
one_of : (x y z : Bool) → (not y ≡ true → not x ≡ true → not z ≡ true) → z ≡ true → (x || y) ≡ true
one_of true y z h t = refl
one_of false true z h t = refl
one_of false false z h t = let n : not z ≡ true = h refl refl in cc

-- what operations leave held by a row, it held, or they name it
pub edited_names : (es : List Edit) (c : Row) (m : ℕ) → is_among m (held_in (edited_row es c)) ≡ true → (is_among m (held_in c) || is_among m (named_in es)) ≡ true
edited_names es c m =
    one_of (is_among m (held_in c)) (is_among m (named_in es)) (is_among m (held_in (edited_row es c)))
    (λ h a. sym (apart_values m (values_in (edited_row es c))) ∙ values_kept (is_apart m) es c (edits_apart m es ∙ h) (apart_values m (values_in c) ∙ a))
