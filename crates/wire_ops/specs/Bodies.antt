-- A holder's value as the definitions see it, and what an edit does to each kind of it.
use Rattle.std.specs.Prelude.{ℕ, List, [], Option, Some, None}
use Rattle.lists.specs.Rising as rising
use Rattle.schema_model.specs.declared.value.Value.{Value}
use Rattle.state_model.specs.declared.row.FieldValue.{FieldValue}
use Rattle.state_model.specs.declared.row.MapItem.{MapItem}
use Rattle.state_model.specs.declared.row.SetItem.{SetItem}
use Rattle.wire_model.specs.declared.op.OpKey.TheVariants.{Field, Item, Named}
use Rattle.wire_model.specs.Edits.{Edit, Add, Replace, DeleteAdd, Delete, Clear, AddByRef, DeleteByRef, carried_value}
use Rattle.wire_model.specs.Effect.{Body, Fields, Items, Slots, Elements, put_field, put_named, put_value, put_element, add_slot, put_slot, empty_slot, push_link, drop_link}
use Rattle.wire_ops.specs.declared.holder.Holder.{Holder}
use Rattle.wire_ops.specs.declared.holder.Holder.TheVariants as holder

-- a holder as the definitions see it
abbrev pub body_of : Holder → Body
body_of (holder.Fields class fields) = Fields class fields
body_of (holder.Items home items) = Items home items
body_of (holder.Slots home slots) = Slots home slots
body_of (holder.Elements home items) = Elements home items

-- what an edit does to fields
abbrev pub edited_fields : Edit → List FieldValue → List FieldValue
edited_fields (Add (Field i) v) fields = put_field i (carried_value v) fields
edited_fields (Replace (Field i) v) fields = put_field i (carried_value v) fields
edited_fields (DeleteAdd (Field i) v) fields = put_field i (carried_value v) fields
edited_fields (Delete (Field i)) fields = rising.remove (λ (f : FieldValue). f.field) i fields
edited_fields e fields = fields

-- what an edit does to items of a map
abbrev pub edited_items : Edit → List MapItem → List MapItem
edited_items (Add (Named n key) v) items = put_named n key (carried_value v) items
edited_items (DeleteAdd (Named n key) v) items = put_named n key (carried_value v) items
edited_items (Replace (Item n) v) items = put_value n (carried_value v) items
edited_items (Delete (Item n)) items = rising.remove (λ (i : MapItem). i.number) n items
edited_items Clear items = []
edited_items e items = items

-- what an edit does to slots
abbrev pub edited_slots : Edit → List (Option Value) → List (Option Value)
edited_slots (Add (Item at) v) slots = add_slot at (carried_value v) slots
edited_slots (Replace (Item at) v) slots = put_slot at (carried_value v) slots
edited_slots (DeleteAdd (Item at) v) slots = put_slot at (carried_value v) slots
edited_slots (Delete (Item at)) slots = empty_slot at slots
edited_slots (AddByRef v) slots = push_link (carried_value v) slots
edited_slots (DeleteByRef n) slots = drop_link n slots
edited_slots Clear slots = []
edited_slots e slots = slots

-- what an edit does to items of a set
abbrev pub edited_elements : Edit → List SetItem → List SetItem
edited_elements (Add (Item n) v) items = put_element n (carried_value v) items
edited_elements (DeleteAdd (Item n) v) items = put_element n (carried_value v) items
edited_elements (Replace (Item n) v) items = put_element n (carried_value v) items
edited_elements (Delete (Item n)) items = rising.remove (λ (i : SetItem). i.number) n items
edited_elements Clear items = []
edited_elements e items = items

-- the position at which an edit puts a value
abbrev pub put_position : Edit → Option ℕ
put_position (Add (Item at) v) = Some at
put_position (Replace (Item at) v) = Some at
put_position (DeleteAdd (Item at) v) = Some at
put_position e = None

-- the number of the item whose value an edit replaces
abbrev pub replaced_number : Edit → Option ℕ
replaced_number (Replace (Item n) v) = Some n
replaced_number e = None
