-- Which places a view shows, and what of the state it permits. After the StateView of `@colyseus/schema` 3; ours in its cases.
use Rattle.std.specs.Prelude.{ℕ, Bool, true, false, ◌||◌, ◌&&◌, List, [], map, filter, Option, Some, None, ℤ, ◌==◌}
use Rattle.std.specs.List.{list_any}
use Rattle.schema_model.specs.declared.value.Value.{Value}
use Rattle.schema_model.specs.declared.value.Value.TheVariants as value
use Rattle.schema_model.specs.declared.place.Home.{Home}
use Rattle.schema_model.specs.declared.place.Pair.{Pair}
use Rattle.schema_model.specs.declared.class.FieldDecl.{FieldDecl}
use Rattle.schema_model.specs.declared.class.Item.{Item}
use Rattle.schema_model.specs.declared.class.Item.TheVariants as item
use Rattle.schema_model.specs.declared.class.Shape.{Shape}
use Rattle.schema_model.specs.declared.class.Shape.TheVariants as shape
use Rattle.schema_model.specs.Classes.{Schema, field_of, home_field, item_of}
use Rattle.state_model.specs.declared.row.Row.{Row}
use Rattle.state_model.specs.declared.row.Row.TheVariants.{Struct, Map, Array, Set}
use Rattle.state_model.specs.declared.row.RowEntry.{RowEntry}
use Rattle.state_model.specs.declared.row.FieldValue.{FieldValue}
use Rattle.state_model.specs.declared.row.MapItem.{MapItem}
use Rattle.state_model.specs.declared.row.SetItem.{SetItem}
use Rattle.state_model.specs.Values.{same_whole}
use Rattle.state_model.specs.Rows.{rows_of}
use Rattle.state_model.specs.Reached.{reached}

-- the pair of a row and a tag is a member
abbrev pub is_member : List Pair → ℕ → ℤ → Bool
is_member members who tag = list_any (λ (p : Pair). (p.who == who) && same_whole p.tag tag) members

-- the pair of the row that a value holds is a member
abbrev pub links_member : List Pair → ℤ → Value → Bool
links_member members tag (value.Link n) = is_member members n tag
links_member members tag v = false

-- a tagged field of this shape is shown
abbrev pub tagged_field_shown : List Pair → ℕ → ℤ → Shape → Value → Bool
tagged_field_shown members who tag (shape.One (item.Scalar k)) v = is_member members who tag
tagged_field_shown members who tag (shape.One (item.Class c)) v = is_member members who tag || links_member members tag v
tagged_field_shown members who tag (shape.Map (item.Class c)) v = true
tagged_field_shown members who tag (shape.Array (item.Class c)) v = true
tagged_field_shown members who tag (shape.Set (item.Class c)) v = true
tagged_field_shown members who tag s v = is_member members who tag || links_member members tag v

-- a field of this shape is shown, where it has this tag
abbrev pub field_shown : List Pair → ℕ → Shape → Value → Option ℤ → Bool
field_shown members who s v None = true
field_shown members who s v (Some tag) = tagged_field_shown members who tag s v

-- an item of a collection is shown, where its home has this tag
abbrev pub item_shown : List Pair → ℕ → Item → Value → Option ℤ → Bool
item_shown members who i v None = true
item_shown members who (item.Scalar k) v (Some tag) = true
item_shown members who (item.Class c) v (Some tag) = is_member members who tag || links_member members tag v

-- a field with this declaration is shown
abbrev pub declared_field_shown : List Pair → ℕ → Value → Option FieldDecl → Bool
declared_field_shown members who v None = true
declared_field_shown members who v (Some d) = field_shown members who d.shape v d.tag

-- the field of an instance of a class is shown
abbrev pub shows_field : Schema → List Pair → ℕ → ℕ → FieldValue → Bool
shows_field schema members who class f = declared_field_shown members who f.value (field_of schema class f.field)

-- an item of a collection whose home has this declaration is shown
abbrev pub declared_item_shown : List Pair → ℕ → Value → Option FieldDecl → Bool
declared_item_shown members who v None = true
declared_item_shown members who v (Some d) = item_shown members who (item_of d.shape) v d.tag

-- an item of a collection of this home is shown
abbrev pub shows_item : Schema → List Pair → ℕ → Home → Value → Bool
shows_item schema members who home v = declared_item_shown members who v (home_field schema home)

-- a row with its shown places alone; an array keeps the order of its shown items
abbrev pub shown_row : Schema → List Pair → ℕ → Row → Row
shown_row schema members who (Struct class fields) = Struct class (filter (shows_field schema members who class) fields)
shown_row schema members who (Map home items) = Map home (filter (λ (i : MapItem). shows_item schema members who home i.value) items)
shown_row schema members who (Array home values) = Array home (filter (shows_item schema members who home) values)
shown_row schema members who (Set home items) = Set home (filter (λ (i : SetItem). shows_item schema members who home i.value) items)

-- the rows, each with its shown places alone
abbrev pub shown : Schema → List Pair → List RowEntry → List RowEntry
shown schema members rows =
    map (λ (e : RowEntry). let s : RowEntry = record { who = e.who; row = shown_row schema members e.who e.row } in s) rows

-- the permitted view: the rows reached from 0 through shown places, each with its shown places alone
abbrev pub permitted : Schema → List RowEntry → List Pair → List RowEntry
permitted schema rows members = rows_of (reached (shown schema members rows) 0) (shown schema members rows)

-- the shared view: what is permitted to a view without members
abbrev pub shared : Schema → List RowEntry → List RowEntry
shared schema rows = permitted schema rows []
