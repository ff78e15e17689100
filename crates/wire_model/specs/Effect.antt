-- What operations do to rows. After `@colyseus/schema` 3; the rules on item 0 of an array and on REPLACE are ours.
use Rattle.std.specs.Prelude.{ℕ, Bool, true, false, not, ◌&&◌, ◌||◌, List, [], ◌∷◌, ◌++◌, length, map, filter, set, Option, Some, None, is_some, nat_lt, nat_le, ◌==◌, if◌then◌else◌, slice_get}
use Rattle.std.specs.List.{list_any, fold}
use Rattle.std.specs.Option.{option_map_or}
use Rattle.std.specs.Str.{bytes_eq}
use Rattle.lists.specs.Rising as rising
use Rattle.schema_model.specs.declared.value.Value.{Value}
use Rattle.schema_model.specs.declared.value.Value.TheVariants as value
use Rattle.schema_model.specs.declared.place.Home.{Home}
use Rattle.state_model.specs.declared.row.Row.{Row}
use Rattle.state_model.specs.declared.row.Row.TheVariants as row
use Rattle.state_model.specs.declared.row.RowEntry.{RowEntry}
use Rattle.state_model.specs.declared.row.FieldValue.{FieldValue}
use Rattle.state_model.specs.declared.row.MapItem.{MapItem}
use Rattle.state_model.specs.declared.row.SetItem.{SetItem}
use Rattle.state_model.specs.Values.{same_value}
use Rattle.state_model.specs.Rows.{row_at, is_live, put_row}
use Rattle.wire_model.specs.declared.op.OpKey.TheVariants.{Field, Item, Named}
use Rattle.wire_model.specs.Edits.{Edit, Add, Replace, DeleteAdd, Delete, Clear, AddByRef, DeleteByRef, Carried, Plain, Linked, EditBlock, carried_value}

-- a holder while its operations run: an array may have holes
pub data Body : Type 0 where
  Fields : (class : ℕ) (fields : List FieldValue) → Body
  Items : (home : Home) (items : List MapItem) → Body
  Slots : (home : Home) (slots : List (Option Value)) → Body
  Elements : (home : Home) (items : List SetItem) → Body

-- a row as a holder, without holes
abbrev pub opened : Row → Body
opened (row.Struct class fields) = Fields class fields
opened (row.Map home items) = Items home items
opened (row.Array home values) = Slots home (map Some values)
opened (row.Set home items) = Elements home items

-- the values of the slots that are no holes
abbrev pub closed_slots : List (Option Value) → List Value
closed_slots [] = []
closed_slots (None ∷ ss) = closed_slots ss
closed_slots (Some v ∷ ss) = v ∷ closed_slots ss

-- a holder as a row: its holes are closed
abbrev pub closed : Body → Row
closed (Fields class fields) = row.Struct class fields
closed (Items home items) = row.Map home items
closed (Slots home slots) = row.Array home (closed_slots slots)
closed (Elements home items) = row.Set home items

-- ---- fields

-- the fields with this value
abbrev pub put_field : ℕ → Value → List FieldValue → List FieldValue
put_field i v fields = rising.put (λ (f : FieldValue). f.field) (record { field = i; value = v }) fields

-- ---- items of a map

-- the items without another number that has this key
abbrev pub without_key : ℕ → List ℕ → List MapItem → List MapItem
without_key n key items = filter (λ (i : MapItem). (i.number == n) || not (bytes_eq i.key key)) items

-- the items with this one; another number with its key is gone
abbrev pub put_named : ℕ → List ℕ → Value → List MapItem → List MapItem
put_named n key v items = rising.put (λ (i : MapItem). i.number) (record { number = n; key = key; value = v }) (without_key n key items)

-- the items with a new value under a number that is there
abbrev pub put_value : ℕ → Value → List MapItem → List MapItem
put_value n v items = map (λ (i : MapItem). if i.number == n then record { number = i.number; key = i.key; value = v } else i) items

-- ---- items of a set

-- the items with this one
abbrev pub put_element : ℕ → Value → List SetItem → List SetItem
put_element n v items = rising.put (λ (i : SetItem). i.number) (record { number = n; value = v }) items

-- ---- slots of an array

-- a slot has a value that is present
abbrev pub is_present_at : List (Option Value) → ℕ → Bool
is_present_at slots at = is_some (option_map_or (λ s. s) (slice_get slots at) None)

-- below the length the slot gets the value; at the length the value goes last; further on nothing happens
abbrev pub put_slot : ℕ → Value → List (Option Value) → List (Option Value)
put_slot at v slots = if nat_lt at (length slots) then set slots at (Some v) else if at == length slots then slots ++ Some v ∷ [] else slots

-- at 0, where a value is present there, it is inserted before it
abbrev pub add_slot : ℕ → Value → List (Option Value) → List (Option Value)
add_slot at v slots = if (at == 0) && is_present_at slots 0 then Some v ∷ slots else put_slot at v slots

-- the slot becomes a hole; nothing happens at or past the length
abbrev pub empty_slot : ℕ → List (Option Value) → List (Option Value)
empty_slot at slots = set slots at None

-- a slot has this link
abbrev pub has_link : ℕ → Option Value → Bool
has_link n None = false
has_link n (Some v) = same_value (value.Link n) v

-- the link goes last, where it isn't there
abbrev pub push_link : Value → List (Option Value) → List (Option Value)
push_link (value.Link n) slots = if list_any (has_link n) slots then slots else slots ++ Some (value.Link n) ∷ []
push_link v slots = slots

-- the first slot with the link becomes a hole
abbrev pub drop_link : ℕ → List (Option Value) → List (Option Value)
drop_link n [] = []
drop_link n (s ∷ ss) = if has_link n s then None ∷ ss else s ∷ drop_link n ss

-- ---- one operation

-- what an operation does to its holder
abbrev pub effect : Edit → Body → Body
effect (Add (Field i) v) (Fields class fields) = Fields class (put_field i (carried_value v) fields)
effect (Replace (Field i) v) (Fields class fields) = Fields class (put_field i (carried_value v) fields)
effect (DeleteAdd (Field i) v) (Fields class fields) = Fields class (put_field i (carried_value v) fields)
effect (Delete (Field i)) (Fields class fields) = Fields class (rising.remove (λ (f : FieldValue). f.field) i fields)
effect (Add (Named n key) v) (Items home items) = Items home (put_named n key (carried_value v) items)
effect (DeleteAdd (Named n key) v) (Items home items) = Items home (put_named n key (carried_value v) items)
effect (Replace (Item n) v) (Items home items) = Items home (put_value n (carried_value v) items)
effect (Delete (Item n)) (Items home items) = Items home (rising.remove (λ (i : MapItem). i.number) n items)
effect Clear (Items home items) = Items home []
effect (Add (Item at) v) (Slots home slots) = Slots home (add_slot at (carried_value v) slots)
effect (Replace (Item at) v) (Slots home slots) = Slots home (put_slot at (carried_value v) slots)
effect (DeleteAdd (Item at) v) (Slots home slots) = Slots home (put_slot at (carried_value v) slots)
effect (Delete (Item at)) (Slots home slots) = Slots home (empty_slot at slots)
effect (AddByRef v) (Slots home slots) = Slots home (push_link (carried_value v) slots)
effect (DeleteByRef n) (Slots home slots) = Slots home (drop_link n slots)
effect Clear (Slots home slots) = Slots home []
effect (Add (Item n) v) (Elements home items) = Elements home (put_element n (carried_value v) items)
effect (DeleteAdd (Item n) v) (Elements home items) = Elements home (put_element n (carried_value v) items)
effect (Replace (Item n) v) (Elements home items) = Elements home (put_element n (carried_value v) items)
effect (Delete (Item n)) (Elements home items) = Elements home (rising.remove (λ (i : SetItem). i.number) n items)
effect Clear (Elements home items) = Elements home []
effect e b = b

-- a REPLACE in a map or a set finds its item, and an operation on an array its position: NoItem is answered where this fails
abbrev pub finds : Edit → Body → Bool
finds (Replace (Item n) v) (Items home items) = list_any (λ (i : MapItem). i.number == n) items
finds (Replace (Item n) v) (Elements home items) = list_any (λ (i : SetItem). i.number == n) items
finds (Add (Item at) v) (Slots home slots) = nat_le at (length slots)
finds (Replace (Item at) v) (Slots home slots) = nat_le at (length slots)
finds (DeleteAdd (Item at) v) (Slots home slots) = nat_le at (length slots)
finds e b = true

-- ---- rows

-- the value that an operation carries
abbrev pub carried_by : Edit → Option Carried
carried_by (Add k v) = Some v
carried_by (Replace k v) = Some v
carried_by (DeleteAdd k v) = Some v
carried_by (AddByRef v) = Some v
carried_by e = None

-- the rows with the linked one, empty, where it isn't there
abbrev pub with_linked : Carried → List RowEntry → List RowEntry
with_linked (Plain k s) rows = rows
with_linked (Linked n empty) rows = if is_live rows n then rows else put_row n empty rows

-- the rows with those that operations name
abbrev pub with_named : List Edit → List RowEntry → List RowEntry
with_named edits rows = fold (λ done e. option_map_or (λ v. with_linked v done) (carried_by e) done) rows edits

-- a holder after its operations
abbrev pub edited_row : List Edit → Row → Row
edited_row edits r = closed (fold (λ body e. effect e body) (opened r) edits)

-- the rows with a holder's operations done
abbrev pub with_edits : EditBlock → List RowEntry → Option Row → List RowEntry
with_edits b rows None = rows
with_edits b rows (Some r) = put_row b.holder (edited_row b.edits r) rows

-- the rows after a block: the rows that its operations name are there, its holder is changed, and nothing is freed
abbrev pub apply_block : List RowEntry → EditBlock → List RowEntry
apply_block rows b = with_edits b (with_named b.edits rows) (row_at (with_named b.edits rows) b.holder)

-- the rows after blocks
abbrev pub apply_edits : List EditBlock → List RowEntry → List RowEntry
apply_edits blocks rows = fold apply_block rows blocks
