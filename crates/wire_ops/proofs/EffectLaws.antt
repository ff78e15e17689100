-- What an edit does to each kind of body, and that it hangs on the value alone that the edit carries.
use Rattle.std.proofs.Common.{◌≡◌, ℕ, true, List, [], length, nat_le, Option, ◌==◌, refl}
use Rattle.std.specs.List.{list_any}
use Rattle.std.specs.Option.{option_map_or}
use Rattle.schema_model.specs.Classes.{Schema}
use Rattle.schema_model.specs.declared.value.Value.{Value}
use Rattle.schema_model.specs.declared.place.Home.{Home}
use Rattle.state_model.specs.declared.row.Row.{Row}
use Rattle.state_model.specs.declared.row.RowEntry.{RowEntry}
use Rattle.state_model.specs.declared.row.FieldValue.{FieldValue}
use Rattle.state_model.specs.declared.row.MapItem.{MapItem}
use Rattle.state_model.specs.declared.row.SetItem.{SetItem}
use Rattle.state_model.specs.declared.row.Row.TheVariants as row
use Rattle.state_model.specs.Rows.{row_at}
use Rattle.state_model.specs.declared.place.Expected.{Expected}
use Rattle.wire_model.specs.declared.op.OpKey.{OpKey}
use Rattle.wire_model.specs.declared.op.OpKey.TheVariants.{Field, Item, Named}
use Rattle.wire_model.specs.declared.op.OpValue.{OpValue}
use Rattle.wire_model.specs.declared.op.OpValue.TheVariants as carried
use Rattle.wire_model.specs.declared.op.Op.{Op}
use Rattle.wire_model.specs.declared.op.Op.TheVariants as op
use Rattle.wire_model.specs.Edits.{Edit, Add, Replace, DeleteAdd, Delete, Clear, AddByRef, DeleteByRef, Linked, carried_value}
use Rattle.wire_model.specs.Effect.{Body, Fields, Items, Slots, Elements, effect, finds}
use Rattle.wire_model.specs.Grammar.{resolved, resolved_value, expects_at, new_instance, new_collection}
use Rattle.wire_ops.specs.PlainEdits.{plain_value, plain_edit}
use Rattle.wire_ops.specs.Bodies.{edited_fields, edited_items, edited_slots, edited_elements, put_position, replaced_number}

pub effect_fields : (e : Edit) (class : ℕ) (fields : List FieldValue) → effect e (Fields class fields) ≡ Fields class (edited_fields e fields)
effect_fields (Add (Field i) v) class fields = refl
effect_fields (Replace (Field i) v) class fields = refl
effect_fields (DeleteAdd (Field i) v) class fields = refl
effect_fields (Delete (Field i)) class fields = refl
effect_fields e class fields = refl

pub effect_items : (e : Edit) (home : Home) (items : List MapItem) → effect e (Items home items) ≡ Items home (edited_items e items)
effect_items (Add (Named i key) v) home items = refl
effect_items (DeleteAdd (Named i key) v) home items = refl
effect_items (Replace (Item i) v) home items = refl
effect_items (Delete (Item i)) home items = refl
effect_items Clear home items = refl
effect_items e home items = refl

pub effect_slots : (e : Edit) (home : Home) (slots : List (Option Value)) → effect e (Slots home slots) ≡ Slots home (edited_slots e slots)
effect_slots (Add (Item i) v) home slots = refl
effect_slots (Replace (Item i) v) home slots = refl
effect_slots (DeleteAdd (Item i) v) home slots = refl
effect_slots (Delete (Item i)) home slots = refl
effect_slots (AddByRef v) home slots = refl
effect_slots (DeleteByRef n) home slots = refl
effect_slots Clear home slots = refl
effect_slots e home slots = refl

pub effect_elements : (e : Edit) (home : Home) (items : List SetItem) → effect e (Elements home items) ≡ Elements home (edited_elements e items)
effect_elements (Add (Item i) v) home items = refl
effect_elements (DeleteAdd (Item i) v) home items = refl
effect_elements (Replace (Item i) v) home items = refl
effect_elements (Delete (Item i)) home items = refl
effect_elements Clear home items = refl
effect_elements e home items = refl

pub finds_fields : (e : Edit) (class : ℕ) (fields : List FieldValue) → finds e (Fields class fields) ≡ true
finds_fields (Add (Field i) v) class fields = refl
finds_fields (Add (Item i) v) class fields = refl
finds_fields (Add (Named i key) v) class fields = refl
finds_fields (Replace (Field i) v) class fields = refl
finds_fields (Replace (Item i) v) class fields = refl
finds_fields (Replace (Named i key) v) class fields = refl
finds_fields (DeleteAdd (Field i) v) class fields = refl
finds_fields (DeleteAdd (Item i) v) class fields = refl
finds_fields (DeleteAdd (Named i key) v) class fields = refl
finds_fields e class fields = refl

pub finds_items : (e : Edit) (home : Home) (items : List MapItem) →
    finds e (Items home items) ≡ option_map_or (λ n. list_any (λ (i : MapItem). i.number == n) items) (replaced_number e) true
finds_items (Add (Field i) v) home items = refl
finds_items (Add (Item i) v) home items = refl
finds_items (Add (Named i key) v) home items = refl
finds_items (Replace (Field i) v) home items = refl
finds_items (Replace (Item i) v) home items = refl
finds_items (Replace (Named i key) v) home items = refl
finds_items (DeleteAdd (Field i) v) home items = refl
finds_items (DeleteAdd (Item i) v) home items = refl
finds_items (DeleteAdd (Named i key) v) home items = refl
finds_items e home items = refl

pub finds_slots : (e : Edit) (home : Home) (slots : List (Option Value)) → finds e (Slots home slots) ≡ option_map_or (λ at. nat_le at (length slots)) (put_position e) true
finds_slots (Add (Item i) v) home slots = refl
finds_slots (Replace (Item i) v) home slots = refl
finds_slots (DeleteAdd (Item i) v) home slots = refl
finds_slots e home slots = refl

pub finds_elements : (e : Edit) (home : Home) (items : List SetItem) →
    finds e (Elements home items) ≡ option_map_or (λ n. list_any (λ (i : SetItem). i.number == n) items) (replaced_number e) true
finds_elements (Add (Field i) v) home items = refl
finds_elements (Add (Item i) v) home items = refl
finds_elements (Add (Named i key) v) home items = refl
finds_elements (Replace (Field i) v) home items = refl
finds_elements (Replace (Item i) v) home items = refl
finds_elements (Replace (Named i key) v) home items = refl
finds_elements (DeleteAdd (Field i) v) home items = refl
finds_elements (DeleteAdd (Item i) v) home items = refl
finds_elements (DeleteAdd (Named i key) v) home items = refl
finds_elements e home items = refl

-- ---- what a link leads to doesn't matter

pub same_carried : (schema : Schema) (known : List RowEntry) (expected : Option Expected) (v : OpValue) →
    carried_value (resolved_value schema known expected v) ≡ carried_value (plain_value v)
same_carried schema known expected (carried.Scalar kind v) = refl
same_carried schema known expected (carried.Struct n mark) = refl
same_carried schema known expected (carried.Coll n) = refl

same_add : (k : OpKey) (n : ℕ) (a b : Row) (body : Body) → effect (Add k (Linked n a)) body ≡ effect (Add k (Linked n b)) body
same_add (Field i) n x y (Fields c fs) = refl
same_add (Named i key) n x y (Items h is) = refl
same_add (Item i) n x y (Slots h ss) = refl
same_add (Item i) n x y (Elements h is) = refl
same_add k n x y body = refl

same_replace : (k : OpKey) (n : ℕ) (a b : Row) (body : Body) → effect (Replace k (Linked n a)) body ≡ effect (Replace k (Linked n b)) body
same_replace (Field i) n x y (Fields c fs) = refl
same_replace (Item i) n x y (Items h is) = refl
same_replace (Item i) n x y (Slots h ss) = refl
same_replace (Item i) n x y (Elements h is) = refl
same_replace k n x y body = refl

same_delete_add : (k : OpKey) (n : ℕ) (a b : Row) (body : Body) → effect (DeleteAdd k (Linked n a)) body ≡ effect (DeleteAdd k (Linked n b)) body
same_delete_add (Field i) n x y (Fields c fs) = refl
same_delete_add (Named i key) n x y (Items h is) = refl
same_delete_add (Item i) n x y (Slots h ss) = refl
same_delete_add (Item i) n x y (Elements h is) = refl
same_delete_add k n x y body = refl

same_by_ref : (n : ℕ) (a b : Row) (body : Body) → effect (AddByRef (Linked n a)) body ≡ effect (AddByRef (Linked n b)) body
same_by_ref n x y (Fields c fs) = refl
same_by_ref n x y (Items h is) = refl
same_by_ref n x y (Slots h ss) = refl
same_by_ref n x y (Elements h is) = refl

-- the row of a number, or else this one
abbrev row_of : List RowEntry → ℕ → Row → Row
row_of known n new = option_map_or (λ r. r) (row_at known n) new

-- an operation does the same wherever its link leads to
pub same_effect : (schema : Schema) (known : List RowEntry) (holder : Row) (o : Op) (body : Body) → effect (plain_edit o) body ≡ effect (resolved schema known holder o) body
same_effect schema known holder (op.Add k (carried.Scalar kind v)) body = refl
same_effect schema known holder (op.Add k (carried.Struct n mark)) body = same_add k n (row.Struct 0 []) (row_of known n (new_instance mark (expects_at schema holder k))) body
same_effect schema known holder (op.Add k (carried.Coll n)) body = same_add k n (row.Struct 0 []) (row_of known n (new_collection schema (expects_at schema holder k))) body
same_effect schema known holder (op.Replace k (carried.Scalar kind v)) body = refl
same_effect schema known holder (op.Replace k (carried.Struct n mark)) body = same_replace k n (row.Struct 0 []) (row_of known n (new_instance mark (expects_at schema holder k))) body
same_effect schema known holder (op.Replace k (carried.Coll n)) body = same_replace k n (row.Struct 0 []) (row_of known n (new_collection schema (expects_at schema holder k))) body
same_effect schema known holder (op.DeleteAdd k (carried.Scalar kind v)) body = refl
same_effect schema known holder (op.DeleteAdd k (carried.Struct n mark)) body = same_delete_add k n (row.Struct 0 []) (row_of known n (new_instance mark (expects_at schema holder k))) body
same_effect schema known holder (op.DeleteAdd k (carried.Coll n)) body = same_delete_add k n (row.Struct 0 []) (row_of known n (new_collection schema (expects_at schema holder k))) body
same_effect schema known holder (op.Delete k) body = refl
same_effect schema known holder op.Clear body = refl
same_effect schema known holder (op.AddByRef (carried.Scalar kind v)) body = refl
same_effect schema known holder (op.AddByRef (carried.Struct n mark)) body = same_by_ref n (row.Struct 0 []) (row_of known n (new_instance mark (expects_at schema holder (Item 0)))) body
same_effect schema known holder (op.AddByRef (carried.Coll n)) body = same_by_ref n (row.Struct 0 []) (row_of known n (new_collection schema (expects_at schema holder (Item 0)))) body
same_effect schema known holder (op.DeleteByRef n) body = refl
