-- What a schema declares of the places of rows.
use Rattle.std.specs.Prelude.{ℕ, Bool, true, false, [], ℤ, Option, Some, None, is_some, option_and_then, slice_get, ◌==◌, ◌&&◌}
use Rattle.std.specs.Option.{option_map}
use Rattle.schema_model.specs.Classes.{Schema, Declared, fields_of, field_of, home_field, item_of}
use Rattle.schema_model.specs.declared.class.FieldDecl.{FieldDecl}
use Rattle.schema_model.specs.declared.class.Item.{Item}
use Rattle.schema_model.specs.declared.class.Item.TheVariants as item
use Rattle.schema_model.specs.declared.class.Shape.{Shape}
use Rattle.schema_model.specs.declared.class.Shape.TheVariants as shape
use Rattle.schema_model.specs.declared.place.Home.{Home}
use Rattle.state_model.specs.declared.place.Expected.{Expected}
use Rattle.state_model.specs.declared.place.Expected.TheVariants.{Item as AnItem, Collection as ACollection}
use Rattle.state_model.specs.declared.row.Row.{Row}
use Rattle.state_model.specs.declared.row.Row.TheVariants.{Struct, Map, Array, Set}

-- a shape is that of a collection
abbrev pub is_collection : Shape → Bool
is_collection (shape.One i) = false
is_collection (shape.Map i) = true
is_collection (shape.Array i) = true
is_collection (shape.Set i) = true

-- what a field of this shape and home holds
abbrev pub expected_by : Shape → Home → Expected
expected_by (shape.One i) home = AnItem i
expected_by (shape.Map i) home = ACollection home
expected_by (shape.Array i) home = ACollection home
expected_by (shape.Set i) home = ACollection home

-- what a field of a class holds
abbrev pub expected_of : ℕ → Declared → Expected
expected_of index d = expected_by d.field.shape (record { class = d.class; field = index })

-- what the field of a class at an index holds; None where there is no such field
abbrev pub field_expects : Schema → ℕ → ℕ → Option Expected
field_expects schema class index = option_map (expected_of index) (slice_get (fields_of schema class) index)

-- what the items of a collection hold
abbrev pub item_expects : Schema → Home → Option Expected
item_expects schema home = option_map (λ (f : FieldDecl). AnItem (item_of f.shape)) (home_field schema home)

-- the tag of a field of a class
abbrev pub tag_of : Schema → ℕ → ℕ → Option ℤ
tag_of schema class index = option_and_then (λ (f : FieldDecl). f.tag) (field_of schema class index)

-- the tag of a home
abbrev pub home_tag : Schema → Home → Option ℤ
home_tag schema home = option_and_then (λ (f : FieldDecl). f.tag) (home_field schema home)

-- the class of an item that is an instance
abbrev pub instance_class : Item → Option ℕ
instance_class (item.Scalar k) = None
instance_class (item.Class n) = Some n

-- the items of a home are instances
abbrev pub holds_instances : Schema → Home → Bool
holds_instances schema home =
    is_some (option_and_then (λ (f : FieldDecl). instance_class (item_of f.shape)) (home_field schema home))

-- a home's shape is that of an array
abbrev pub is_array : Shape → Bool
is_array (shape.One i) = false
is_array (shape.Map i) = false
is_array (shape.Array i) = true
is_array (shape.Set i) = false

-- an array of a home is filtered: the home is tagged and the items are instances
abbrev pub is_filtered : Schema → Home → Bool
is_filtered schema home = is_some (home_tag schema home) && holds_instances schema home

-- the empty row of a collection of this shape
abbrev pub collection_of : Home → Shape → Option Row
collection_of home (shape.One i) = None
collection_of home (shape.Map i) = Some (Map home [])
collection_of home (shape.Array i) = Some (Array home [])
collection_of home (shape.Set i) = Some (Set home [])

-- the empty collection of a home; None where the home is no declared collection field
abbrev pub empty_collection : Schema → Home → Option Row
empty_collection schema home = option_and_then (λ (f : FieldDecl). collection_of home f.shape) (home_field schema home)

-- two homes are one
abbrev pub same_home : Home → Home → Bool
same_home a b = (a.class == b.class) && (a.field == b.field)

-- two rows are of one kind: of one class, or collections of one shape and home
abbrev pub same_kind : Row → Row → Bool
same_kind (Struct a fs) (Struct b gs) = a == b
same_kind (Map a is) (Map b js) = same_home a b
same_kind (Array a is) (Array b js) = same_home a b
same_kind (Set a is) (Set b js) = same_home a b
same_kind a b = false

-- the home of a row that is a collection
abbrev pub row_home : Row → Option Home
row_home (Struct class fields) = None
row_home (Map home items) = Some home
row_home (Array home values) = Some home
row_home (Set home items) = Some home

-- the class of a row that is an instance
abbrev pub row_class : Row → Option ℕ
row_class (Struct class fields) = Some class
row_class (Map home items) = None
row_class (Array home values) = None
row_class (Set home items) = None
