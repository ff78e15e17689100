-- The operations on places as they are told, place by place.
use Rattle.std.specs.Prelude.{ℕ, List, map, Option, Some, None, slice_get}
use Rattle.std.specs.List.{flat_map, range_with_len}
use Rattle.schema_model.specs.Classes.{Schema}
use Rattle.schema_model.specs.declared.value.Value.{Value}
use Rattle.state_model.specs.declared.row.RowEntry.{RowEntry}
use Rattle.state_model.specs.declared.row.FieldValue.{FieldValue}
use Rattle.state_model.specs.declared.row.MapItem.{MapItem}
use Rattle.state_model.specs.declared.row.SetItem.{SetItem}
use Rattle.state_model.specs.declared.place.Expected.{Expected}
use Rattle.state_model.specs.Places.{field_expects}
use Rattle.wire_model.specs.declared.op.OpKey.TheVariants.{Field, Item, Named}
use Rattle.wire_model.specs.declared.op.Op.{Op}
use Rattle.wire_model.specs.Edits.{encoded}
use Rattle.wire_model.specs.Patch.{place_edit, field_value, map_item, item_key, item_value, set_value}

-- the index of a field that is in one list or in both
abbrev pub index_of : Option FieldValue → Option FieldValue → Option ℕ
index_of old (Some f) = Some f.field
index_of (Some f) None = Some f.field
index_of None None = None

-- the operation on a field
abbrev pub field_encoded : Schema → List RowEntry → ℕ → List FieldValue → List FieldValue → ℕ → List Op
field_encoded schema rows class old new i = map encoded (place_edit (Field i) (Field i) rows (field_expects schema class i) (field_value old i) (field_value new i))

-- the operation on an item of a map
abbrev pub item_encoded : List RowEntry → Option Expected → List MapItem → List MapItem → ℕ → List Op
item_encoded rows expected old new n =
    map encoded (place_edit (Item n) (Named n (item_key (map_item new n))) rows expected (item_value (map_item old n)) (item_value (map_item new n)))

-- the operation on an item of a set
abbrev pub element_encoded : List RowEntry → Option Expected → List SetItem → List SetItem → ℕ → List Op
element_encoded rows expected old new n = map encoded (place_edit (Item n) (Item n) rows expected (set_value old n) (set_value new n))

-- the operation on a position
abbrev pub slot_encoded : List RowEntry → Option Expected → List Value → List Value → ℕ → List Op
slot_encoded rows expected old new at = map encoded (place_edit (Item at) (Item at) rows expected (slice_get old at) (slice_get new at))

-- the operations on the first so many positions
abbrev pub first_encoded : List RowEntry → Option Expected → List Value → List Value → ℕ → List Op
first_encoded rows expected old new count = flat_map (slot_encoded rows expected old new) (range_with_len 0 count)
