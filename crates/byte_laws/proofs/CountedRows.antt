-- Operations that have bytes leave item numbers and links that have bytes.
use Rattle.std.proofs.Common.{◌≡◌, ℕ, ◌^◌, Bool, true, false, cond, ◌&&◌, ◌==◌, List, [], ◌∷◌, length, map, Option, Some, None, refl, ◌∙◌, sym}
use Rattle.std.specs.Prelude.{nat_lt}
use Rattle.std.specs.List.{list_all}
use Rattle.std.proofs.lemmas.Bool.{and_parts, and_from}
use Rattle.std.proofs.lemmas.List.Folds.{list_all-map}
use Rattle.schema_model.specs.declared.value.Value.{Value}
use Rattle.state_model.specs.declared.row.Row.{Row}
use Rattle.state_model.specs.declared.row.MapItem.{MapItem}
use Rattle.state_model.specs.declared.row.SetItem.{SetItem}
use Rattle.state_model.specs.Places.{row_class}
use Rattle.wire_model.specs.declared.op.OpKey.{OpKey}
use Rattle.wire_model.specs.declared.op.OpKey.TheVariants.{Field, Item, Named}
use Rattle.wire_model.specs.Edits.{Scalar, AWhole, AText, ATruth, Carried, Plain, Linked, Edit, Add, Replace, DeleteAdd, Delete, Clear, AddByRef, DeleteByRef, scalar_value, carried_value, encoded_link, encoded_value, encoded}
use Rattle.wire_model.specs.Effect.{Body, Fields, Items, Slots, Elements, closed, effect, edited_row, put_named, put_value, put_element, without_key}
use Rattle.wire_laws.proofs.EditSteps.{edited_keeps, all-filter, all-drop_link}
use Rattle.wire_laws.proofs.EditedPlaces.{all-put, all-set, all-put_slot, all-add_slot, all-push_link}
use Rattle.block_laws.specs.Writable.{is_count, is_place, is_carried, is_instance, is_writable_op}
use Rattle.byte_laws.proofs.SpelledRows.{is_counted, has_numbers}

-- ---- what an operation puts

-- a scalar is no link
scalar_counted : (s : Scalar) → is_counted (scalar_value s) ≡ true
scalar_counted (AWhole z) = refl
scalar_counted (AText t) = refl
scalar_counted (ATruth b) = refl

-- a link that is told with bytes is one
link_counted : (adds : Bool) (n : ℕ) (class : Option ℕ) → is_carried (encoded_link adds n class) ≡ true → is_count n ≡ true
link_counted adds n None h = h
link_counted true n (Some class) h = (and_parts (is_count n) (is_count class) h).0
link_counted false n (Some class) h = (and_parts (is_count n) true h).0

-- so is a link that is carried
carried_counted : (adds : Bool) (c : Carried) → is_carried (encoded_value adds c) ≡ true → is_counted (carried_value c) ≡ true
carried_counted adds (Plain k s) h = scalar_counted s
carried_counted adds (Linked n empty) h = link_counted adds n (row_class empty) h

-- ---- lists

-- the number of an item of a map has bytes
abbrev item_counted : MapItem → Bool
item_counted i = is_count i.number

-- the number of an item of a set has bytes
abbrev element_counted : SetItem → Bool
element_counted i = is_count i.number

-- a new value leaves the numbers
put_value_counted : (n : ℕ) (v : Value) (items : List MapItem) → list_all item_counted items ≡ true → list_all item_counted (put_value n v items) ≡ true
put_value_counted n v [] h = refl
put_value_counted n v (i ∷ is) h =
    let two = and_parts (item_counted i) (list_all item_counted is) h in
    let rest = put_value_counted n v is two.1 in
    let go : (b : Bool) → list_all item_counted (cond b (record { number = i.number; key = i.key; value = v }) i ∷ put_value n v is) ≡ true =
    elim [ true ↦ and_from _ _ two.0 rest | false ↦ and_from _ _ two.0 rest ] in
    go (i.number == n)

-- an item whose number has bytes comes into a map
named_counted : (n : ℕ) (key : List ℕ) (v : Value) (items : List MapItem) → (is_count n && nat_lt (length key) (2 ^ 32)) ≡ true → list_all item_counted items ≡ true
    → list_all item_counted (put_named n key v items) ≡ true
named_counted n key v items h a =
    all-put (λ (i : MapItem). i.number) item_counted (record { number = n; key = key; value = v }) (without_key n key items)
    (and_parts (is_count n) (nat_lt (length key) (2 ^ 32)) h).0 (all-filter item_counted _ items a)

-- and into a set
element_put : (n : ℕ) (v : Value) (items : List SetItem) → is_count n ≡ true → list_all element_counted items ≡ true → list_all element_counted (put_element n v items) ≡ true
element_put n v items h a = all-put (λ (i : SetItem). i.number) element_counted (record { number = n; value = v }) items h a

-- ---- operations

-- what an operation that has bytes puts is counted
put_counted : (adds : Bool) (c : Carried) (a b : Bool) → (a && (is_carried (encoded_value adds c) && b)) ≡ true → is_counted (carried_value c) ≡ true
put_counted adds c a b h = carried_counted adds c (and_parts (is_carried (encoded_value adds c)) b (and_parts a (is_carried (encoded_value adds c) && b) h).1).0

-- the place of an operation that has bytes has bytes
placed : (k : OpKey) (b : Bool) → (is_place k && b) ≡ true → is_place k ≡ true
placed k b h = (and_parts (is_place k) b h).0

-- an operation that has bytes
abbrev pub has_bytes : Edit → Bool
has_bytes e = is_writable_op (encoded e)

-- an operation that has bytes leaves numbers that have bytes
numbers_effect : (e : Edit) (b : Body) → has_bytes e ≡ true → has_numbers (closed b) ≡ true → has_numbers (closed (effect e b)) ≡ true
numbers_effect (Add (Field i) v) (Fields class fields) h a = refl
numbers_effect (Replace (Field i) v) (Fields class fields) h a = refl
numbers_effect (DeleteAdd (Field i) v) (Fields class fields) h a = refl
numbers_effect (Delete (Field i)) (Fields class fields) h a = refl
numbers_effect (Add (Named n key) v) (Items home items) h a = named_counted n key (carried_value v) items (placed (Named n key) _ h) a
numbers_effect (DeleteAdd (Named n key) v) (Items home items) h a = named_counted n key (carried_value v) items (placed (Named n key) _ h) a
numbers_effect (Replace (Item n) v) (Items home items) h a = put_value_counted n (carried_value v) items a
numbers_effect (Delete (Item n)) (Items home items) h a = all-filter item_counted _ items a
numbers_effect Clear (Items home items) h a = refl
numbers_effect (Add (Item at) v) (Slots home slots) h a = all-add_slot is_counted at (carried_value v) slots (put_counted true v (is_count at) _ h) a
numbers_effect (Replace (Item at) v) (Slots home slots) h a = all-put_slot is_counted at (carried_value v) slots (put_counted false v (is_count at && true) _ h) a
numbers_effect (DeleteAdd (Item at) v) (Slots home slots) h a = all-put_slot is_counted at (carried_value v) slots (put_counted true v (is_count at) _ h) a
numbers_effect (Delete (Item at)) (Slots home slots) h a = all-set is_counted slots at None refl a
numbers_effect (AddByRef v) (Slots home slots) h a = all-push_link is_counted (carried_value v) slots (put_counted true v (is_instance (encoded_value true v)) _ h) a
numbers_effect (DeleteByRef n) (Slots home slots) h a = all-drop_link is_counted n slots a
numbers_effect Clear (Slots home slots) h a = refl
numbers_effect (Add (Item n) v) (Elements home items) h a = element_put n (carried_value v) items (placed (Item n) _ h) a
numbers_effect (DeleteAdd (Item n) v) (Elements home items) h a = element_put n (carried_value v) items (placed (Item n) _ h) a
numbers_effect (Replace (Item n) v) (Elements home items) h a = element_put n (carried_value v) items (placed (Item n) true (and_parts (is_count n && true) _ h).0) a
numbers_effect (Delete (Item n)) (Elements home items) h a = all-filter element_counted _ items a
numbers_effect Clear (Elements home items) h a = refl
numbers_effect e b h a = a

-- operations that have bytes leave numbers that have bytes
pub edited_numbers : (es : List Edit) (r : Row) → list_all is_writable_op (map encoded es) ≡ true → has_numbers r ≡ true → has_numbers (edited_row es r) ≡ true
edited_numbers es r h a = edited_keeps (λ x. has_numbers x ≡ true) has_bytes numbers_effect es r (sym (list_all-map is_writable_op encoded es) ∙ h) a
