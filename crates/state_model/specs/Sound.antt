-- Rows of a schema, and sound rows.
use Rattle.std.specs.Prelude.{◌≡◌, ℕ, Bool, true, false, not, ◌&&◌, ◌||◌, List, [], ◌∷◌, map, Option, Some, None, nat_lt, ◌==◌, length}
use Rattle.std.specs.List.{list_all, list_any}
use Rattle.std.specs.Option.{option_map_or}
use Rattle.std.specs.Str.{bytes_eq}
use Rattle.schema_model.specs.declared.value.Value.{Value}
use Rattle.schema_model.specs.declared.value.Value.TheVariants as value
use Rattle.schema_model.specs.declared.place.Home.{Home}
use Rattle.schema_model.specs.declared.class.Item.TheVariants as item
use Rattle.schema_model.specs.Classes.{Schema, is_kind_of}
use Rattle.schema_model.specs.Fits.{fits, is_of_kind, in_range}
use Rattle.state_model.specs.declared.row.Row.{Row}
use Rattle.state_model.specs.declared.row.Row.TheVariants.{Struct, Map, Array, Set}
use Rattle.state_model.specs.declared.row.RowEntry.{RowEntry}
use Rattle.state_model.specs.declared.row.FieldValue.{FieldValue}
use Rattle.state_model.specs.declared.row.MapItem.{MapItem}
use Rattle.state_model.specs.declared.row.SetItem.{SetItem}
use Rattle.state_model.specs.Values.{same_value}
use Rattle.state_model.specs.Rows.{row_at, number_of}
use Rattle.state_model.specs.declared.place.Expected.{Expected}
use Rattle.state_model.specs.declared.place.Expected.TheVariants.{Item as AnItem, Collection as ACollection}
use Rattle.state_model.specs.Places.{field_expects, item_expects, is_filtered, empty_collection, same_kind, same_home, row_home, row_class}

-- the numbers rise strictly
abbrev pub rise : List ℕ → Bool
rise [] = true
rise (n ∷ []) = true
rise (n ∷ m ∷ ns) = nat_lt n m && rise (m ∷ ns)

-- no value stands twice
abbrev pub differ : List Value → Bool
differ [] = true
differ (v ∷ vs) = not (list_any (same_value v) vs) && differ vs

-- no key stands twice
abbrev pub keys_differ : List (List ℕ) → Bool
keys_differ [] = true
keys_differ (k ∷ ks) = not (list_any (bytes_eq k) ks) && keys_differ ks

-- the row of a link is an instance of a class or of a descendant
abbrev pub is_instance_of : Schema → ℕ → Option Row → Bool
is_instance_of schema class None = false
is_instance_of schema class (Some row) = option_map_or (λ c. is_kind_of schema c class) (row_class row) false

-- the row of a link is a collection of a home
abbrev pub is_collection_of : Home → Option Row → Bool
is_collection_of home None = false
is_collection_of home (Some row) = option_map_or (same_home home) (row_home row) false

-- a value is of the declared kind, whatever its range: a scalar of the kind, an instance of the class or a descendant, a collection of the home
abbrev pub is_of_type : Schema → List RowEntry → Expected → Value → Bool
is_of_type schema rows (AnItem (item.Scalar k)) v = is_of_kind k v
is_of_type schema rows (AnItem (item.Class c)) (value.Link n) = is_instance_of schema c (row_at rows n)
is_of_type schema rows (ACollection home) (value.Link n) = is_collection_of home (row_at rows n)
is_of_type schema rows expected v = false

-- a whole number is outside the range of its declared kind
abbrev pub is_out_of_range : Expected → Value → Bool
is_out_of_range (AnItem (item.Scalar k)) (value.Whole z) = not (in_range k z)
is_out_of_range expected v = false

-- a value fits what is declared: a scalar of the kind and in its range, or a link to a row of the declared kind
abbrev pub fits_expected : Schema → List RowEntry → Expected → Value → Bool
fits_expected schema rows (AnItem (item.Scalar k)) v = fits k v
fits_expected schema rows expected v = is_of_type schema rows expected v

-- a value fits what is declared, where something is
abbrev pub fits_place : Schema → List RowEntry → Value → Option Expected → Bool
fits_place schema rows v None = false
fits_place schema rows v (Some expected) = fits_expected schema rows expected v

-- the row is of a class of the schema, or of the home and the shape of a declared collection field
abbrev pub has_kind : Schema → Row → Bool
has_kind schema (Struct class fields) = nat_lt class (length schema.classes)
has_kind schema row = option_map_or (λ home. option_map_or (same_kind row) (empty_collection schema home) false) (row_home row) false

-- every place is declared and its value fits; fields and item numbers rise, the keys of a map differ, the instances of a filtered array differ
abbrev pub places_fit : Schema → List RowEntry → Row → Bool
places_fit schema rows (Struct class fields) =
    rise (map (λ (f : FieldValue). f.field) fields)
    && list_all (λ (f : FieldValue). fits_place schema rows f.value (field_expects schema class f.field)) fields
places_fit schema rows (Map home items) =
    rise (map (λ (i : MapItem). i.number) items) && keys_differ (map (λ (i : MapItem). i.key) items)
    && list_all (λ (i : MapItem). fits_place schema rows i.value (item_expects schema home)) items
places_fit schema rows (Array home values) =
    (not (is_filtered schema home) || differ values)
    && list_all (λ v. fits_place schema rows v (item_expects schema home)) values
places_fit schema rows (Set home items) =
    rise (map (λ (i : SetItem). i.number) items)
    && list_all (λ (i : SetItem). fits_place schema rows i.value (item_expects schema home)) items

-- the values of a set differ
abbrev pub set_differs : Row → Bool
set_differs (Set home items) = differ (map (λ (i : SetItem). i.value) items)
set_differs row = true

-- row 0 is there and of the root class
abbrev pub has_root : Schema → Option Row → Bool
has_root schema None = false
has_root schema (Some row) = option_map_or (λ c. c == schema.root) (row_class row) false

-- rows of the schema: they rise, row 0 is of the root class, each row is of a declared kind and its places fit
abbrev pub are_rows_of : Schema → List RowEntry → Bool
are_rows_of schema rows =
    rise (map number_of rows) && has_root schema (row_at rows 0)
    && list_all (λ (e : RowEntry). has_kind schema e.row && places_fit schema rows e.row) rows

-- sound rows: rows of the schema in which the values of each set differ
abbrev pub are_sound : Schema → List RowEntry → Bool
are_sound schema rows = are_rows_of schema rows && list_all (λ (e : RowEntry). set_differs e.row) rows

-- the same as a fact
abbrev pub Sound : Schema → List RowEntry → Type 0
Sound schema rows = are_sound schema rows ≡ true
