-- Operations keep the kind of a row; and the operations between rows of its kind keep it well formed.
use Rattle.std.proofs.Common.{◌≡◌, ℕ, suc, ◌<◌, Bool, true, false, not, ◌||◌, ◌==◌, List, [], ◌∷◌, ◌++◌, map, filter, Option, Some, None, cond, refl, sym, ap, ◌∙◌, subst, arith}
use Rattle.std.specs.List.{list_all, list_any}
use Rattle.std.specs.Str.{bytes_eq}
use Rattle.std.proofs.lemmas.Bool.Decides.{nat_tests}
use Rattle.lists.proofs.SameBytes.{bytes_eq_sym}
use Rattle.lists.specs.Rising.{RisesFrom, put}
use Rattle.lists.proofs.RisingLaws.{RisesFrom-put, RisesFrom-filter, RisesFrom-remove}
use Rattle.schema_model.specs.Classes.{Schema}
use Rattle.schema_model.specs.declared.value.Value.{Value}
use Rattle.schema_model.specs.declared.value.Value.TheVariants.{Link, Whole, Str, Truth}
use Rattle.schema_model.specs.declared.place.Home.{Home}
use Rattle.state_model.specs.declared.row.Row.{Row}
use Rattle.state_model.specs.declared.row.Row.TheVariants.{Struct, Map, Array, Set}
use Rattle.state_model.specs.declared.row.RowEntry.{RowEntry}
use Rattle.state_model.specs.declared.row.FieldValue.{FieldValue}
use Rattle.state_model.specs.declared.row.MapItem.{MapItem}
use Rattle.state_model.specs.declared.row.SetItem.{SetItem}
use Rattle.state_model.specs.Values.{same_value, is_link}
use Rattle.state_model.specs.Rows.{emptied}
use Rattle.state_model.specs.Sound.{differ, keys_differ}
use Rattle.state_model.specs.Places.{is_filtered, same_kind}
use Rattle.wire_model.specs.declared.op.OpKey.TheVariants.{Field, Item, Named}
use Rattle.wire_model.specs.Edits.{Edit, Add, Replace, DeleteAdd, Delete, Clear, AddByRef, DeleteByRef, carried_value}
use Rattle.wire_model.specs.Effect.{Body, Fields, Items, Slots, Elements, closed, closed_slots, effect, edited_row, put_named, put_value, without_key, push_link, drop_link, has_link}
use Rattle.wire_model.specs.Patch.{row_edits, whole_edits, whole_start, ref_edits, slot_edits}
use Rattle.wire_laws.proofs.Forms.{IsFormed}
use Rattle.wire_laws.proofs.EditSteps.{edited_keeps, all_each, all-append, closed_slots-push, all-drop_link, ref_edits_pass, start_passes}
use Rattle.wire_laws.proofs.KindLaws.{home_is}

-- ---- the kind of a row

-- an operation keeps the class or the home
effect_kind : (e : Edit) (b : Body) → emptied (closed (effect e b)) ≡ emptied (closed b)
effect_kind (Add (Field i) v) (Fields class fields) = refl
effect_kind (Replace (Field i) v) (Fields class fields) = refl
effect_kind (DeleteAdd (Field i) v) (Fields class fields) = refl
effect_kind (Delete (Field i)) (Fields class fields) = refl
effect_kind (Add (Named n key) v) (Items home items) = refl
effect_kind (DeleteAdd (Named n key) v) (Items home items) = refl
effect_kind (Replace (Item n) v) (Items home items) = refl
effect_kind (Delete (Item n)) (Items home items) = refl
effect_kind Clear (Items home items) = refl
effect_kind (Add (Item at) v) (Slots home slots) = refl
effect_kind (Replace (Item at) v) (Slots home slots) = refl
effect_kind (DeleteAdd (Item at) v) (Slots home slots) = refl
effect_kind (Delete (Item at)) (Slots home slots) = refl
effect_kind (AddByRef v) (Slots home slots) = refl
effect_kind (DeleteByRef n) (Slots home slots) = refl
effect_kind Clear (Slots home slots) = refl
effect_kind (Add (Item n) v) (Elements home items) = refl
effect_kind (DeleteAdd (Item n) v) (Elements home items) = refl
effect_kind (Replace (Item n) v) (Elements home items) = refl
effect_kind (Delete (Item n)) (Elements home items) = refl
effect_kind Clear (Elements home items) = refl
effect_kind e b = refl

-- operations keep the class or the home
pub edited_kind : (es : List Edit) (c : Row) → emptied (edited_row es c) ≡ emptied c
edited_kind es c = edited_keeps (λ r. emptied r ≡ emptied c) (λ e. true) (λ e b h same. effect_kind e b ∙ same) es c (all_each (λ e. true) (λ e. refl) es) refl

-- ---- the items of a map

-- the number of an item
abbrev number : MapItem → ℕ
number i = i.number

-- the keys of items
abbrev item_keys : List MapItem → List (List ℕ)
item_keys items = map (λ (i : MapItem). i.key) items

-- a key that isn't among items isn't among some of them
key_filter : (k : List ℕ) (kept : MapItem → Bool) (items : List MapItem) → list_any (bytes_eq k) (item_keys items) ≡ false → list_any (bytes_eq k) (item_keys (filter kept items)) ≡ false
key_filter k kept [] h = refl
key_filter k kept (i ∷ is) h = grind (arith, key_filter k kept is)

-- some of the items whose keys differ have keys that differ
keys_differ-filter : (kept : MapItem → Bool) (items : List MapItem) → keys_differ (item_keys items) ≡ true → keys_differ (item_keys (filter kept items)) ≡ true
keys_differ-filter kept [] h = refl
keys_differ-filter kept (i ∷ is) h = grind (arith, key_filter i.key kept is, keys_differ-filter kept is)

-- an item has this number or another key
abbrev is_clear : ℕ → List ℕ → MapItem → Bool
is_clear n k i = (i.number == n) || not (bytes_eq i.key k)

-- what a filter leaves passes its test
clear_filter : (t : MapItem → Bool) (items : List MapItem) → list_all t (filter t items) ≡ true
clear_filter t [] = refl
clear_filter t (i ∷ is) = grind (arith, clear_filter t is)

-- items above a number that have it or another key have another key
clear_above : (n : ℕ) (k : List ℕ) (low : ℕ) (items : List MapItem) → RisesFrom number low items → n < low → list_all (is_clear n k) items ≡ true → list_any (bytes_eq k) (item_keys items) ≡ false
clear_above n k low [] r h c = refl
clear_above n k low (i ∷ is) r h c = grind (arith, nat_tests, bytes_eq_sym k i.key, clear_above n k (suc i.number) is r.1)

-- a key that isn't among items nor the new one's isn't among them with the new one
key_put : (k : List ℕ) (x : MapItem) (items : List MapItem) → bytes_eq k x.key ≡ false → list_any (bytes_eq k) (item_keys items) ≡ false → list_any (bytes_eq k) (item_keys (put number x items)) ≡ false
key_put k x [] f h = grind arith
key_put k x (i ∷ is) f h = grind (arith, nat_tests, key_put k x is)

-- where the others have another key, the keys differ with the new item
keys_differ-put : (x : MapItem) (low : ℕ) (items : List MapItem) → RisesFrom number low items → list_all (is_clear x.number x.key) items ≡ true → keys_differ (item_keys items) ≡ true → keys_differ (item_keys (put number x items)) ≡ true
keys_differ-put x low [] r c d = refl
keys_differ-put x low (i ∷ is) r c d = grind (arith, nat_tests, keys_differ-put x (suc i.number) is r.1, key_put i.key x is, clear_above x.number x.key (suc i.number) is r.1, clear_above x.number x.key i.number (i ∷ is))

-- an item put under a key leaves keys that differ
keys_differ-put_named : (n : ℕ) (k : List ℕ) (v : Value) (items : List MapItem) → RisesFrom number 0 items → keys_differ (item_keys items) ≡ true → keys_differ (item_keys (put_named n k v items)) ≡ true
keys_differ-put_named n k v items r d =
    let x : MapItem = record { number = n; key = k; value = v } in
    keys_differ-put x 0 (without_key n k items) (RisesFrom-filter number 0 (is_clear n k) items r) (clear_filter (is_clear n k) items) (keys_differ-filter (is_clear n k) items d)

-- an item put under a key leaves numbers that rise
RisesFrom-put_named : (n : ℕ) (k : List ℕ) (v : Value) (items : List MapItem) → RisesFrom number 0 items → RisesFrom number 0 (put_named n k v items)
RisesFrom-put_named n k v items r =
    RisesFrom-put number 0 (record { number = n; key = k; value = v }) (without_key n k items) (RisesFrom-filter number 0 (is_clear n k) items r) (omega arith)

-- a new value under a number keeps numbers and keys
RisesFrom-put_value : (n : ℕ) (v : Value) (low : ℕ) (items : List MapItem) → RisesFrom number low items → RisesFrom number low (put_value n v items)
RisesFrom-put_value n v low [] r = tt
RisesFrom-put_value n v low (i ∷ is) r = by (i.number == n) (RisesFrom-put_value n v (suc i.number) is r.1)
  where
    by : (b : Bool) → RisesFrom number (suc i.number) (put_value n v is) → RisesFrom number low (cond b (record { number = i.number; key = i.key; value = v }) i ∷ put_value n v is)
    by true rest = (r.0, rest)
    by false rest = (r.0, rest)

-- a new value under a number keeps the keys
keys-put_value : (n : ℕ) (v : Value) (items : List MapItem) → item_keys (put_value n v items) ≡ item_keys items
keys-put_value n v [] = refl
keys-put_value n v (i ∷ is) = by (i.number == n) (keys-put_value n v is)
  where
    by : (b : Bool) → item_keys (put_value n v is) ≡ item_keys is → item_keys (cond b (record { number = i.number; key = i.key; value = v }) i ∷ put_value n v is) ≡ i.key ∷ item_keys is
    by true rest = ap (λ ks. i.key ∷ ks) rest
    by false rest = ap (λ ks. i.key ∷ ks) rest

-- ---- the slots of a filtered array

-- a slot has a link where a value without holes is that link
has_link_closed : (n : ℕ) (slots : List (Option Value)) → list_any (has_link n) slots ≡ list_any (same_value (Link n)) (closed_slots slots)
has_link_closed n [] = refl
has_link_closed n (None ∷ ss) = has_link_closed n ss
has_link_closed n (Some v ∷ ss) = ap (λ b. same_value (Link n) v || b) (has_link_closed n ss)

-- which of a value and a link comes first makes no difference
same_link-sym : (n : ℕ) (v : Value) → same_value v (Link n) ≡ same_value (Link n) v
same_link-sym n (Whole z) = refl
same_link-sym n (Str t) = refl
same_link-sym n (Truth b) = refl
same_link-sym n (Link m) = grind (arith, nat_tests)

-- where no value passes and a new one does not, none passes with it
any-push : (t : Value → Bool) (vs : List Value) (v : Value) → t v ≡ false → list_any t vs ≡ false → list_any t (vs ++ v ∷ []) ≡ false
any-push t [] v f h = grind arith
any-push t (u ∷ us) v f h = grind (arith, any-push t us v)

-- values that differ differ with a link that isn't among them
differ-push : (n : ℕ) (vs : List Value) → list_any (same_value (Link n)) vs ≡ false → differ vs ≡ true → differ (vs ++ Link n ∷ []) ≡ true
differ-push n [] h d = refl
differ-push n (v ∷ vs) h d = grind (arith, same_link-sym n v, any-push (same_value v) vs (Link n), differ-push n vs)

-- where no value passes, none passes without a link
any-drop_link : (t : Value → Bool) (n : ℕ) (slots : List (Option Value)) → list_any t (closed_slots slots) ≡ false → list_any t (closed_slots (drop_link n slots)) ≡ false
any-drop_link t n [] h = refl
any-drop_link t n (None ∷ ss) h = any-drop_link t n ss h
any-drop_link t n (Some v ∷ ss) h = by (same_value (Link n) v) (any-drop_link t n ss)
  where
    by : (b : Bool) → (list_any t (closed_slots ss) ≡ false → list_any t (closed_slots (drop_link n ss)) ≡ false) → list_any t (closed_slots (cond b (None ∷ ss) (Some v ∷ drop_link n ss))) ≡ false
    by true rest = grind arith
    by false rest = grind arith

-- values that differ differ without a link
differ-drop_link : (n : ℕ) (slots : List (Option Value)) → differ (closed_slots slots) ≡ true → differ (closed_slots (drop_link n slots)) ≡ true
differ-drop_link n [] h = refl
differ-drop_link n (None ∷ ss) h = differ-drop_link n ss h
differ-drop_link n (Some v ∷ ss) h = by (same_value (Link n) v) (any-drop_link (same_value v) n ss) (differ-drop_link n ss)
  where
    by : (b : Bool) → (list_any (same_value v) (closed_slots ss) ≡ false → list_any (same_value v) (closed_slots (drop_link n ss)) ≡ false)
        → (differ (closed_slots ss) ≡ true → differ (closed_slots (drop_link n ss)) ≡ true) → differ (closed_slots (cond b (None ∷ ss) (Some v ∷ drop_link n ss))) ≡ true
    by true absent rest = grind arith
    by false absent rest = grind arith

-- ---- one operation

-- the items of a filtered array: links that differ
abbrev AreLinks : List Value → Type 0
AreLinks vs = (differ vs ≡ true) × (list_all is_link vs ≡ true)

-- with a link pushed, links that differ are links that differ
push_link-keeps : (v : Value) (slots : List (Option Value)) → AreLinks (closed_slots slots) → AreLinks (closed_slots (push_link v slots))
push_link-keeps (Whole z) slots h = h
push_link-keeps (Str t) slots h = h
push_link-keeps (Truth b) slots h = h
push_link-keeps (Link n) slots h = by (list_any (has_link n) slots) (sym (has_link_closed n slots))
  where
    by : (b : Bool) → list_any (same_value (Link n)) (closed_slots slots) ≡ b → AreLinks (closed_slots (cond b slots (slots ++ Some (Link n) ∷ [])))
    by true e = h
    by false e = rw (closed_slots-push slots (Link n)) (differ-push n (closed_slots slots) e h.0, all-append is_link (closed_slots slots) (Link n ∷ []) h.1 refl)

-- with a link dropped, links that differ are links that differ
drop_link-keeps : (n : ℕ) (slots : List (Option Value)) → AreLinks (closed_slots slots) → AreLinks (closed_slots (drop_link n slots))
drop_link-keeps n slots h = (differ-drop_link n slots h.0, all-drop_link is_link n slots h.1)

-- an operation names no place of an array by its position
abbrev goes_by_link : Edit → Bool
goes_by_link (AddByRef v) = true
goes_by_link (DeleteByRef n) = true
goes_by_link Clear = true
goes_by_link e = false

-- an operation suits a holder: a filtered array has operations by links alone
abbrev suits : Schema → Row → Edit → Bool
suits schema (Array home values) e = not (is_filtered schema home) || goes_by_link e
suits schema r e = true

-- an operation by position suits no filtered array
unsuited : {P : Type 0} (filtered : Bool) → (not filtered || false) ≡ true → filtered ≡ true → P
unsuited true s f = cc
unsuited false s f = cc

-- an operation that suits its holder keeps it well formed
formed_effect : (schema : Schema) (e : Edit) (b : Body) → suits schema (emptied (closed b)) e ≡ true → IsFormed schema (closed b) → IsFormed schema (closed (effect e b))
formed_effect schema (Add (Field i) v) (Fields class fields) s f = RisesFrom-put (λ (x : FieldValue). x.field) 0 (record { field = i; value = carried_value v }) fields f (omega arith)
formed_effect schema (Replace (Field i) v) (Fields class fields) s f = RisesFrom-put (λ (x : FieldValue). x.field) 0 (record { field = i; value = carried_value v }) fields f (omega arith)
formed_effect schema (DeleteAdd (Field i) v) (Fields class fields) s f = RisesFrom-put (λ (x : FieldValue). x.field) 0 (record { field = i; value = carried_value v }) fields f (omega arith)
formed_effect schema (Delete (Field i)) (Fields class fields) s f = RisesFrom-remove (λ (x : FieldValue). x.field) 0 i fields f
formed_effect schema (Add (Named n key) v) (Items home items) s f = (RisesFrom-put_named n key (carried_value v) items f.0, keys_differ-put_named n key (carried_value v) items f.0 f.1)
formed_effect schema (DeleteAdd (Named n key) v) (Items home items) s f = (RisesFrom-put_named n key (carried_value v) items f.0, keys_differ-put_named n key (carried_value v) items f.0 f.1)
formed_effect schema (Replace (Item n) v) (Items home items) s f = (RisesFrom-put_value n (carried_value v) 0 items f.0, ap keys_differ (keys-put_value n (carried_value v) items) ∙ f.1)
formed_effect schema (Delete (Item n)) (Items home items) s f = (RisesFrom-remove number 0 n items f.0, keys_differ-filter (λ (i : MapItem). not (i.number == n)) items f.1)
formed_effect schema Clear (Items home items) s f = (tt, refl)
formed_effect schema (Add (Item at) v) (Slots home slots) s f = λ filtered. unsuited (is_filtered schema home) s filtered
formed_effect schema (Replace (Item at) v) (Slots home slots) s f = λ filtered. unsuited (is_filtered schema home) s filtered
formed_effect schema (DeleteAdd (Item at) v) (Slots home slots) s f = λ filtered. unsuited (is_filtered schema home) s filtered
formed_effect schema (Delete (Item at)) (Slots home slots) s f = λ filtered. unsuited (is_filtered schema home) s filtered
formed_effect schema (AddByRef v) (Slots home slots) s f = λ filtered. push_link-keeps (carried_value v) slots (f filtered)
formed_effect schema (DeleteByRef n) (Slots home slots) s f = λ filtered. drop_link-keeps n slots (f filtered)
formed_effect schema Clear (Slots home slots) s f = λ filtered. (refl, refl)
formed_effect schema (Add (Item n) v) (Elements home items) s f = RisesFrom-put (λ (x : SetItem). x.number) 0 (record { number = n; value = carried_value v }) items f (omega arith)
formed_effect schema (DeleteAdd (Item n) v) (Elements home items) s f = RisesFrom-put (λ (x : SetItem). x.number) 0 (record { number = n; value = carried_value v }) items f (omega arith)
formed_effect schema (Replace (Item n) v) (Elements home items) s f = RisesFrom-put (λ (x : SetItem). x.number) 0 (record { number = n; value = carried_value v }) items f (omega arith)
formed_effect schema (Delete (Item n)) (Elements home items) s f = RisesFrom-remove (λ (x : SetItem). x.number) 0 n items f
formed_effect schema Clear (Elements home items) s f = tt
formed_effect schema e b s f = f

-- ---- all operations

-- operations that suit a row keep it well formed
suited_formed : (schema : Schema) (es : List Edit) (c : Row) → list_all (suits schema (emptied c)) es ≡ true → IsFormed schema c → IsFormed schema (edited_row es c)
suited_formed schema es c s f =
    (edited_keeps (λ r. (emptied r ≡ emptied c) × IsFormed schema r) (suits schema (emptied c))
    (λ e b t p. (effect_kind e b ∙ p.0, formed_effect schema e b (ap (λ r. suits schema r e) p.0 ∙ t) p.1)) es c s (refl, f)).1

-- the operations on an array suit arrays of its home
array_suits : (schema : Schema) (rows : List RowEntry) (home : Home) (old new : List Value) (filtered : Bool)
    → list_all (λ e. not filtered || goes_by_link e) (cond filtered (ref_edits schema rows home old new) (slot_edits schema rows home old new)) ≡ true
array_suits schema rows home old new true = ref_edits_pass goes_by_link schema rows home old new refl (λ n. refl) (all_each (λ v. true) (λ v. refl) new)
array_suits schema rows home old new false = all_each (λ e. true) (λ e. refl) (slot_edits schema rows home old new)

-- the operations that lead from row to row suit every row of their kind
row_suits : (schema : Schema) (rows : List RowEntry) (a b c : Row) → same_kind b c ≡ true → list_all (suits schema (emptied c)) (row_edits schema rows a b) ≡ true
row_suits schema rows a b (Struct class fields) k = all_each (λ e. true) (λ e. refl) (row_edits schema rows a b)
row_suits schema rows a b (Map home items) k = all_each (λ e. true) (λ e. refl) (row_edits schema rows a b)
row_suits schema rows a b (Set home items) k = all_each (λ e. true) (λ e. refl) (row_edits schema rows a b)
row_suits schema rows a (Struct class fields) (Array home values) k = cc
row_suits schema rows a (Map other items) (Array home values) k = cc
row_suits schema rows a (Set other items) (Array home values) k = cc
row_suits schema rows (Array first old) (Array other new) (Array home values) k =
    subst (λ h. list_all (suits schema (Array h [])) (row_edits schema rows (Array first old) (Array other new)) ≡ true) (home_is other home k)
    (array_suits schema rows other old new (is_filtered schema other))
row_suits schema rows (Struct class fields) (Array other new) (Array home values) k = refl
row_suits schema rows (Map first items) (Array other new) (Array home values) k = refl
row_suits schema rows (Set first items) (Array other new) (Array home values) k = refl

-- CLEAR suits every row
clear_suits : (schema : Schema) (c : Row) → suits schema (emptied c) Clear ≡ true
clear_suits schema (Struct class fields) = refl
clear_suits schema (Map home items) = refl
clear_suits schema (Array home values) = grind arith
clear_suits schema (Set home items) = refl

-- the operations that lead from a row to another leave every well formed row of their kind well formed
pub edited_formed : (schema : Schema) (rows : List RowEntry) (a b c : Row) → same_kind a b ≡ true → same_kind b c ≡ true → IsFormed schema b → IsFormed schema c → IsFormed schema (edited_row (row_edits schema rows a b) c)
edited_formed schema rows a b c k l f g = suited_formed schema (row_edits schema rows a b) c (row_suits schema rows a b c l) g

-- the operations of a whole row leave every well formed row of its kind well formed
pub whole_formed : (schema : Schema) (rows : List RowEntry) (b c : Row) → same_kind b c ≡ true → IsFormed schema b → IsFormed schema c → IsFormed schema (edited_row (whole_edits schema rows b) c)
whole_formed schema rows b c l f g =
    suited_formed schema (whole_edits schema rows b) c
    (all-append (suits schema (emptied c)) (whole_start b) (row_edits schema rows (emptied b) b) (start_passes (suits schema (emptied c)) (clear_suits schema c) b) (row_suits schema rows (emptied b) b c l)) g
