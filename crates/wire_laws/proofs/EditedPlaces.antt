-- Each place of an edited row is as it was or as in the row that the operations lead to.
use Rattle.std.proofs.Common.{◌≡◌, ℕ, zero, suc, Bool, true, false, ◌&&◌, ◌==◌, List, [], ◌∷◌, ◌++◌, map, set, Option, Some, None, cond, refl, sym, subst, arith}
use Rattle.std.specs.List.{list_all, list_any, range_with_len}
use Rattle.std.specs.Prelude.{slice_get, length, nat_lt, max}
use Rattle.std.proofs.lemmas.Bool.{and_parts, and_from}
use Rattle.std.proofs.lemmas.Bool.Decides.{nat_tests}
use Rattle.lists.specs.Rising.{find, put}
use Rattle.lists.proofs.RisingLaws.{find_key}
use Rattle.lists.proofs.Options.{mapped_some}
use Rattle.schema_model.specs.Classes.{Schema}
use Rattle.schema_model.specs.declared.value.Value.{Value}
use Rattle.schema_model.specs.declared.value.Value.TheVariants.{Link, Whole, Str, Truth}
use Rattle.schema_model.specs.declared.place.Home.{Home}
use Rattle.state_model.specs.declared.row.Row.{Row}
use Rattle.state_model.specs.declared.row.Row.TheVariants.{Struct, Map, Array, Set}
use Rattle.state_model.specs.declared.row.RowEntry.{RowEntry}
use Rattle.state_model.specs.declared.row.FieldValue.{FieldValue}
use Rattle.state_model.specs.declared.row.MapItem.{MapItem}
use Rattle.state_model.specs.declared.row.SetItem.{SetItem}
use Rattle.state_model.specs.Rows.{emptied}
use Rattle.state_model.specs.declared.place.Expected.{Expected}
use Rattle.state_model.specs.Places.{field_expects, item_expects, is_filtered, same_kind}
use Rattle.wire_model.specs.declared.op.OpKey.TheVariants.{Field, Item, Named}
use Rattle.wire_model.specs.Edits.{Edit, Add, Replace, DeleteAdd, Delete, Clear, AddByRef, DeleteByRef, carried_value}
use Rattle.wire_model.specs.Effect.{Body, Fields, Items, Slots, Elements, closed, closed_slots, effect, edited_row, put_named, put_value, without_key, push_link, has_link, put_slot, add_slot, is_present_at}
use Rattle.wire_model.specs.Patch.{carried, field_value, map_item, item_value, item_key, set_value, row_edits, whole_edits, whole_start, ref_edits, slot_edits, either_number}
use Rattle.wire_laws.proofs.EditSteps.{PutsPass, edited_keeps, all-filter, all-append, closed_slots-push, all-drop_link, places_pass, ref_edits_pass, start_passes}
use Rattle.wire_laws.proofs.Values.{carried_is}

-- p of the number and value of each field, q of the value of each item, and k of the number and key of each item of a map
abbrev pub all_places : (ℕ → Value → Bool) → (Value → Bool) → (ℕ → List ℕ → Bool) → Row → Bool
all_places p q k (Struct class fields) = list_all (λ (f : FieldValue). p f.field f.value) fields
all_places p q k (Map home items) = list_all (λ (i : MapItem). q i.value && k i.number i.key) items
all_places p q k (Array home values) = list_all q values
all_places p q k (Set home items) = list_all (λ (i : SetItem). q i.value) items

-- ---- lists

module _ {E : Type 0} (key : E → ℕ) (t : E → Bool) where
  -- where the new item and the others pass, all pass
  pub all-put : (x : E) (es : List E) → t x ≡ true → list_all t es ≡ true → list_all t (put key x es) ≡ true
  all-put x [] h a = grind arith
  all-put x (e ∷ es) h a = grind (arith, nat_tests, all-put x es h)

  -- an item that is found passes
  all-find : (k : ℕ) (es : List E) (e : E) → list_all t es ≡ true → find key k es ≡ Some e → t e ≡ true
  all-find k [] e a h = cc
  all-find k (x ∷ xs) e a h = let two = and_parts (t x) (list_all t xs) a in by (key x == k) (λ f. all-find k xs e two.1 f) h
    where
      by : (b : Bool) → (find key k xs ≡ Some e → t e ≡ true) → cond b (Some x) (find key k xs) ≡ Some e → t e ≡ true
      by true later f = let same : x ≡ e = cc in subst (λ y. t y ≡ true) same (and_parts (t x) (list_all t xs) a).0
      by false later f = later f

-- a value that is looked up by its position passes
pub all-slice_get : (t : Value → Bool) (vs : List Value) (at : ℕ) (v : Value) → list_all t vs ≡ true → slice_get vs at ≡ Some v → t v ≡ true
all-slice_get t [] at v a h = cc
all-slice_get t (u ∷ us) zero v a h = let same : u ≡ v = cc in subst (λ y. t y ≡ true) same (and_parts (t u) (list_all t us) a).0
all-slice_get t (u ∷ us) (suc at) v a h = all-slice_get t us at v (and_parts (t u) (list_all t us) a).1 h

-- ---- slots

module _ (t : Value → Bool) where
  -- where a new slot and the others pass, all pass with it in its place
  pub all-set : (slots : List (Option Value)) (at : ℕ) (s : Option Value) → list_all t (closed_slots (s ∷ [])) ≡ true → list_all t (closed_slots slots) ≡ true → list_all t (closed_slots (set slots at s)) ≡ true
  all-set [] at s h a = refl
  all-set (None ∷ ss) zero None h a = a
  all-set (Some u ∷ ss) zero None h a = (and_parts (t u) (list_all t (closed_slots ss)) a).1
  all-set (None ∷ ss) zero (Some v) h a = grind arith
  all-set (Some u ∷ ss) zero (Some v) h a = grind arith
  all-set (None ∷ ss) (suc at) s h a = all-set ss at s h a
  all-set (Some u ∷ ss) (suc at) s h a = grind (arith, all-set ss at s h)

  -- the same for a value put in a slot
  pub all-put_slot : (at : ℕ) (v : Value) (slots : List (Option Value)) → t v ≡ true → list_all t (closed_slots slots) ≡ true → list_all t (closed_slots (put_slot at v slots)) ≡ true
  all-put_slot at v slots h a = by (nat_lt at (length slots)) (at == length slots)
    where
      by : (b c : Bool) → list_all t (closed_slots (cond b (set slots at (Some v)) (cond c (slots ++ Some v ∷ []) slots))) ≡ true
      by true c = all-set slots at (Some v) (and_from _ _ h refl) a
      by false true = rw (closed_slots-push slots v) (all-append t (closed_slots slots) (v ∷ []) a (and_from _ _ h refl))
      by false false = a

  -- the same for a value added at a slot
  pub all-add_slot : (at : ℕ) (v : Value) (slots : List (Option Value)) → t v ≡ true → list_all t (closed_slots slots) ≡ true → list_all t (closed_slots (add_slot at v slots)) ≡ true
  all-add_slot at v slots h a = by ((at == 0) && is_present_at slots 0)
    where
      by : (b : Bool) → list_all t (closed_slots (cond b (Some v ∷ slots) (put_slot at v slots))) ≡ true
      by true = and_from _ _ h a
      by false = all-put_slot at v slots h a

  -- the same for a link pushed
  pub all-push_link : (v : Value) (slots : List (Option Value)) → t v ≡ true → list_all t (closed_slots slots) ≡ true → list_all t (closed_slots (push_link v slots)) ≡ true
  all-push_link (Whole z) slots h a = a
  all-push_link (Str s) slots h a = a
  all-push_link (Truth b) slots h a = a
  all-push_link (Link n) slots h a = by (list_any (has_link n) slots)
    where
      by : (b : Bool) → list_all t (closed_slots (cond b slots (slots ++ Some (Link n) ∷ []))) ≡ true
      by true = a
      by false = rw (closed_slots-push slots (Link n)) (all-append t (closed_slots slots) (Link n ∷ []) a (and_from _ _ h refl))

-- ---- one operation

module _ (p : ℕ → Value → Bool) (q : Value → Bool) (k : ℕ → List ℕ → Bool) where
  -- p of a field
  abbrev field_passes : FieldValue → Bool
  field_passes f = p f.field f.value

  -- q and k of an item of a map
  abbrev item_passes : MapItem → Bool
  item_passes i = q i.value && k i.number i.key

  -- q of an item of a set
  abbrev element_passes : SetItem → Bool
  element_passes i = q i.value

  -- what an operation puts passes
  abbrev passes : Edit → Bool
  passes (Add (Field i) v) = p i (carried_value v)
  passes (Replace (Field i) v) = p i (carried_value v)
  passes (DeleteAdd (Field i) v) = p i (carried_value v)
  passes (Add (Named n key) v) = q (carried_value v) && k n key
  passes (DeleteAdd (Named n key) v) = q (carried_value v) && k n key
  passes (Add (Item n) v) = q (carried_value v)
  passes (Replace (Item n) v) = q (carried_value v)
  passes (DeleteAdd (Item n) v) = q (carried_value v)
  passes (AddByRef v) = q (carried_value v)
  passes e = true

  -- with a new value that passes under a number, all items of a map pass
  all-put_value : (n : ℕ) (v : Value) (items : List MapItem) → q v ≡ true → list_all item_passes items ≡ true → list_all item_passes (put_value n v items) ≡ true
  all-put_value n v [] h a = refl
  all-put_value n v (i ∷ is) h a =
      let two = and_parts (q i.value && k i.number i.key) (list_all item_passes is) a in
      by (i.number == n) (and_parts (q i.value) (k i.number i.key) two.0) (all-put_value n v is h two.1)
    where
      by : (b : Bool) → (q i.value ≡ true) × (k i.number i.key ≡ true) → list_all item_passes (put_value n v is) ≡ true → list_all item_passes (cond b (record { number = i.number; key = i.key; value = v }) i ∷ put_value n v is) ≡ true
      by true two rest = and_from _ _ (and_from _ _ h two.1) rest
      by false two rest = and_from _ _ (and_from _ _ two.0 two.1) rest

  -- with a field put that passes, all fields pass
  put_field_passes : (i : ℕ) (v : Value) (fields : List FieldValue) → p i v ≡ true → list_all field_passes fields ≡ true → list_all field_passes (put (λ (f : FieldValue). f.field) (record { field = i; value = v }) fields) ≡ true
  put_field_passes i v fields h a = all-put (λ (f : FieldValue). f.field) field_passes (record { field = i; value = v }) fields h a

  -- with an item put that passes, all items of a set pass
  put_element_passes : (n : ℕ) (v : Value) (items : List SetItem) → q v ≡ true → list_all element_passes items ≡ true → list_all element_passes (put (λ (i : SetItem). i.number) (record { number = n; value = v }) items) ≡ true
  put_element_passes n v items h a = all-put (λ (i : SetItem). i.number) element_passes (record { number = n; value = v }) items h a

  -- with an item put under a key that passes, all items of a map pass
  put_named_passes : (n : ℕ) (key : List ℕ) (v : Value) (items : List MapItem) → (q v && k n key) ≡ true → list_all item_passes items ≡ true → list_all item_passes (put_named n key v items) ≡ true
  put_named_passes n key v items h a = all-put (λ (i : MapItem). i.number) item_passes (record { number = n; key = key; value = v }) (without_key n key items) h (all-filter item_passes _ items a)

  -- where what it puts passes, an operation leaves places that pass
  places_effect : (e : Edit) (b : Body) → passes e ≡ true → all_places p q k (closed b) ≡ true → all_places p q k (closed (effect e b)) ≡ true
  places_effect (Add (Field i) v) (Fields class fields) h a = put_field_passes i (carried_value v) fields h a
  places_effect (Replace (Field i) v) (Fields class fields) h a = put_field_passes i (carried_value v) fields h a
  places_effect (DeleteAdd (Field i) v) (Fields class fields) h a = put_field_passes i (carried_value v) fields h a
  places_effect (Delete (Field i)) (Fields class fields) h a = all-filter field_passes _ fields a
  places_effect (Add (Named n key) v) (Items home items) h a = put_named_passes n key (carried_value v) items h a
  places_effect (DeleteAdd (Named n key) v) (Items home items) h a = put_named_passes n key (carried_value v) items h a
  places_effect (Replace (Item n) v) (Items home items) h a = all-put_value n (carried_value v) items h a
  places_effect (Delete (Item n)) (Items home items) h a = all-filter item_passes _ items a
  places_effect Clear (Items home items) h a = refl
  places_effect (Add (Item at) v) (Slots home slots) h a = all-add_slot q at (carried_value v) slots h a
  places_effect (Replace (Item at) v) (Slots home slots) h a = all-put_slot q at (carried_value v) slots h a
  places_effect (DeleteAdd (Item at) v) (Slots home slots) h a = all-put_slot q at (carried_value v) slots h a
  places_effect (Delete (Item at)) (Slots home slots) h a = all-set q slots at None refl a
  places_effect (AddByRef v) (Slots home slots) h a = all-push_link q (carried_value v) slots h a
  places_effect (DeleteByRef n) (Slots home slots) h a = all-drop_link q n slots a
  places_effect Clear (Slots home slots) h a = refl
  places_effect (Add (Item n) v) (Elements home items) h a = put_element_passes n (carried_value v) items h a
  places_effect (DeleteAdd (Item n) v) (Elements home items) h a = put_element_passes n (carried_value v) items h a
  places_effect (Replace (Item n) v) (Elements home items) h a = put_element_passes n (carried_value v) items h a
  places_effect (Delete (Item n)) (Elements home items) h a = all-filter element_passes _ items a
  places_effect Clear (Elements home items) h a = refl
  places_effect e b h a = a

  -- ---- all operations

  -- the ways to put a value that passes pass
  field_puts : (i : ℕ) (rows : List RowEntry) (expected : Option Expected) (v : Value) → p i v ≡ true → PutsPass passes (Field i) (Field i) (carried rows expected v)
  field_puts i rows expected v h = let t : p i (carried_value (carried rows expected v)) ≡ true = rw (carried_is rows expected v) h in (t, t, t)

  -- the same for an item of an array or a set
  item_puts : (n : ℕ) (rows : List RowEntry) (expected : Option Expected) (v : Value) → q v ≡ true → PutsPass passes (Item n) (Item n) (carried rows expected v)
  item_puts n rows expected v h = let t : q (carried_value (carried rows expected v)) ≡ true = rw (carried_is rows expected v) h in (t, t, t)

  -- the same for an item of a map
  named_puts : (n : ℕ) (key : List ℕ) (rows : List RowEntry) (expected : Option Expected) (v : Value) → q v ≡ true → k n key ≡ true → PutsPass passes (Item n) (Named n key) (carried rows expected v)
  named_puts n key rows expected v h l = let t : q (carried_value (carried rows expected v)) ≡ true = rw (carried_is rows expected v) h in (and_from _ _ t l, and_from _ _ t l, t)

  -- the value of a field passes
  field_found : (i : ℕ) (fields : List FieldValue) (v : Value) → list_all field_passes fields ≡ true → field_value fields i ≡ Some v → p i v ≡ true
  field_found i fields v a h =
      let x = mapped_some (λ (f : FieldValue). f.value) (find (λ (f : FieldValue). f.field) i fields) v h in
      let t : p x.0.field x.0.value ≡ true = all-find (λ (f : FieldValue). f.field) field_passes i fields x.0 a x.1 in
      let e : x.0.field ≡ i = find_key (λ (f : FieldValue). f.field) i fields x.0 x.1 in
      subst (λ j. p j v ≡ true) e (subst (λ u. p x.0.field u ≡ true) x.2 t)

  -- the value of an item of a set passes
  element_found : (n : ℕ) (items : List SetItem) (v : Value) → list_all element_passes items ≡ true → set_value items n ≡ Some v → q v ≡ true
  element_found n items v a h =
      let x = mapped_some (λ (i : SetItem). i.value) (find (λ (i : SetItem). i.number) n items) v h in
      subst (λ u. q u ≡ true) x.2 (all-find (λ (i : SetItem). i.number) element_passes n items x.0 a x.1)

  -- the value of an item of a map passes, and its key
  item_found : (n : ℕ) (items : List MapItem) (v : Value) → list_all item_passes items ≡ true → item_value (map_item items n) ≡ Some v → (q v ≡ true) × (k n (item_key (map_item items n)) ≡ true)
  item_found n items v a h =
      let x = mapped_some (λ (i : MapItem). i.value) (map_item items n) v h in
      let two = and_parts (q x.0.value) (k x.0.number x.0.key) (all-find (λ (i : MapItem). i.number) item_passes n items x.0 a x.1) in
      let e : x.0.number ≡ n = find_key (λ (i : MapItem). i.number) n items x.0 x.1 in
      (subst (λ u. q u ≡ true) x.2 two.0, subst (λ o. k n (item_key o) ≡ true) (sym x.1) (subst (λ j. k j x.0.key ≡ true) e two.1))

  -- values that pass pass as an operation carries them
  pushes_pass : (schema : Schema) (rows : List RowEntry) (home : Home) (values : List Value) → list_all q values ≡ true → list_all (λ v. q (carried_value (carried rows (item_expects schema home) v))) values ≡ true
  pushes_pass schema rows home [] a = refl
  pushes_pass schema rows home (v ∷ vs) a =
      let two = and_parts (q v) (list_all q vs) a in
      and_from _ _ (rw (carried_is rows (item_expects schema home) v) two.0) (pushes_pass schema rows home vs two.1)

  -- what the operations put that lead to an array passes, where its values do
  array_passes : (schema : Schema) (rows : List RowEntry) (home : Home) (old new : List Value) (filtered : Bool) → list_all q new ≡ true
      → list_all passes (cond filtered (ref_edits schema rows home old new) (slot_edits schema rows home old new)) ≡ true
  array_passes schema rows home old new true a = ref_edits_pass passes schema rows home old new refl (λ n. refl) (pushes_pass schema rows home new a)
  array_passes schema rows home old new false a =
      places_pass passes Item Item rows (λ at. item_expects schema home) (slice_get old) (slice_get new) (range_with_len 0 (max (length old) (length new)))
      (λ at. refl) (λ at v e. item_puts at rows (item_expects schema home) v (all-slice_get q new at v a e))

  -- what the operations put that lead to a row passes, where the places of the row do
  row_passes : (schema : Schema) (rows : List RowEntry) (a b : Row) → all_places p q k b ≡ true → list_all passes (row_edits schema rows a b) ≡ true
  row_passes schema rows (Struct first old) (Struct class new) h =
      places_pass passes Field Field rows (field_expects schema class) (field_value old) (field_value new) (either_number (map (λ (f : FieldValue). f.field) old) (map (λ (f : FieldValue). f.field) new))
      (λ i. refl) (λ i v e. field_puts i rows (field_expects schema class i) v (field_found i new v h e))
  row_passes schema rows (Map first old) (Map home new) h =
      places_pass passes Item (λ n. Named n (item_key (map_item new n))) rows (λ n. item_expects schema home) (λ n. item_value (map_item old n)) (λ n. item_value (map_item new n))
      (either_number (map (λ (i : MapItem). i.number) old) (map (λ (i : MapItem). i.number) new))
      (λ n. refl) (λ n v e. let two = item_found n new v h e in named_puts n (item_key (map_item new n)) rows (item_expects schema home) v two.0 two.1)
  row_passes schema rows (Array first old) (Array home new) h = array_passes schema rows home old new (is_filtered schema home) h
  row_passes schema rows (Set first old) (Set home new) h =
      places_pass passes Item Item rows (λ n. item_expects schema home) (set_value old) (set_value new) (either_number (map (λ (i : SetItem). i.number) old) (map (λ (i : SetItem). i.number) new))
      (λ n. refl) (λ n v e. item_puts n rows (item_expects schema home) v (element_found n new v h e))
  row_passes schema rows a b h = refl

  -- operations that pass leave places that pass
  places_kept : (es : List Edit) (c : Row) → list_all passes es ≡ true → all_places p q k c ≡ true → all_places p q k (edited_row es c) ≡ true
  places_kept es c h a = edited_keeps (λ r. all_places p q k r ≡ true) passes places_effect es c h a

-- each place that the operations from a row to another leave of a row is as it was or as in the other
pub edited_places : (p : ℕ → Value → Bool) (q : Value → Bool) (k : ℕ → List ℕ → Bool) (schema : Schema) (rows : List RowEntry) (a b c : Row) → same_kind a b ≡ true → same_kind b c ≡ true
    → all_places p q k b ≡ true → all_places p q k c ≡ true → all_places p q k (edited_row (row_edits schema rows a b) c) ≡ true
edited_places p q k schema rows a b c l m h g = places_kept p q k (row_edits schema rows a b) c (row_passes p q k schema rows a b h) g

-- each place that the operations of a whole row leave of a row is as it was or as in the whole row
pub whole_places : (p : ℕ → Value → Bool) (q : Value → Bool) (k : ℕ → List ℕ → Bool) (schema : Schema) (rows : List RowEntry) (b c : Row) → same_kind b c ≡ true
    → all_places p q k b ≡ true → all_places p q k c ≡ true → all_places p q k (edited_row (whole_edits schema rows b) c) ≡ true
whole_places p q k schema rows b c m h g =
    places_kept p q k (whole_edits schema rows b) c
    (all-append (passes p q k) (whole_start b) (row_edits schema rows (emptied b) b) (start_passes (passes p q k) refl b) (row_passes p q k schema rows (emptied b) b h)) g
