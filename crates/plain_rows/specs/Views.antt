-- What a view has to know of fields, as a table by class and index, and what is shown by such a table.
use Rattle.std.specs.Prelude.{ℕ, Bool, true, List, [], ◌∷◌, ◌++◌, length, map, filter, Option, Some, None, slice_get, unwrap_or, option_and_then, if◌then◌else◌, ◌==◌}
use Rattle.schema_model.specs.declared.value.Value.{Value}
use Rattle.schema_model.specs.declared.place.Home.{Home}
use Rattle.schema_model.specs.declared.place.Pair.{Pair}
use Rattle.schema_model.specs.declared.class.Class.{Class}
use Rattle.schema_model.specs.declared.class.FieldDecl.{FieldDecl}
use Rattle.schema_model.specs.Classes.{Schema, Declared, fields_from, item_of}
use Rattle.state_model.specs.declared.row.Row.{Row}
use Rattle.state_model.specs.declared.row.Row.TheVariants.{Struct, Map, Array, Set}
use Rattle.state_model.specs.declared.row.RowEntry.{RowEntry}
use Rattle.state_model.specs.declared.row.FieldValue.{FieldValue}
use Rattle.state_model.specs.declared.row.MapItem.{MapItem}
use Rattle.state_model.specs.declared.row.SetItem.{SetItem}
use Rattle.state_model.specs.Shown.{field_shown, item_shown}
use Rattle.plain_rows.specs.declared.view_fields.ViewField.{ViewField}

-- of a field that this class declares
abbrev pub own_view_field : ℕ → FieldDecl → ViewField
own_view_field class f = record { class = class; shape = f.shape; tag = f.tag }

-- of a field with the class that declares it
abbrev pub view_field : Declared → ViewField
view_field d = own_view_field d.class d.field

-- of the fields of all classes
abbrev pub view_fields : Schema → List (List ViewField)
view_fields s = map (λ ds. map view_field ds) (fields_from [] s.classes)

-- of the fields that a class inherits, where those of the earlier classes are these
abbrev pub view_inherited : List (List ViewField) → Option ℕ → List ViewField
view_inherited earlier None = []
view_inherited earlier (Some parent) = unwrap_or (slice_get earlier parent) []

-- of the fields of the next class
abbrev pub view_fields_next : List (List ViewField) → Class → List ViewField
view_fields_next earlier c = view_inherited earlier c.parent ++ map (own_view_field (length earlier)) c.own

-- of the fields of the classes, class by class, behind those of the earlier classes
abbrev pub view_fields_from : List (List ViewField) → List Class → List (List ViewField)
view_fields_from earlier [] = earlier
view_fields_from earlier (c ∷ cs) = view_fields_from (earlier ++ view_fields_next earlier c ∷ []) cs

-- of the field of a class at an index
abbrev pub view_field_at : List (List ViewField) → ℕ → ℕ → Option ViewField
view_field_at table class index = slice_get (unwrap_or (slice_get table class) []) index

-- the field, where this class declares it
abbrev pub declared_by : ℕ → ViewField → Option ViewField
declared_by class d = if d.class == class then Some d else None

-- of the field that a home names
abbrev pub home_view_field : List (List ViewField) → Home → Option ViewField
home_view_field table h = option_and_then (declared_by h.class) (view_field_at table h.class h.field)

-- a field is shown
abbrev pub view_shows_field : List Pair → ℕ → Value → Option ViewField → Bool
view_shows_field members who v None = true
view_shows_field members who v (Some d) = field_shown members who d.shape v d.tag

-- an item is shown
abbrev pub view_shows_item : List Pair → ℕ → Option ViewField → Value → Bool
view_shows_item members who None v = true
view_shows_item members who (Some d) v = item_shown members who (item_of d.shape) v d.tag

-- a field of an instance of a class is shown
abbrev pub view_shows : List (List ViewField) → List Pair → ℕ → ℕ → FieldValue → Bool
view_shows table members who class f = view_shows_field members who f.value (view_field_at table class f.field)

-- a row with its shown places alone
abbrev pub view_row : List (List ViewField) → List Pair → ℕ → Row → Row
view_row table members who (Struct class fields) = Struct class (filter (view_shows table members who class) fields)
view_row table members who (Map home items) = Map home (filter (λ (i : MapItem). view_shows_item members who (home_view_field table home) i.value) items)
view_row table members who (Array home values) = Array home (filter (view_shows_item members who (home_view_field table home)) values)
view_row table members who (Set home items) = Set home (filter (λ (i : SetItem). view_shows_item members who (home_view_field table home) i.value) items)

-- the rows, each with its shown places alone
abbrev pub view_rows : List (List ViewField) → List Pair → List RowEntry → List RowEntry
view_rows table members rows =
    map (λ (e : RowEntry). let s : RowEntry = record { who = e.who; row = view_row table members e.who e.row } in s) rows
