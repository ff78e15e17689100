-- A schema: its classes with the fields that they inherit, the homes of fields, and what descends from what.
-- After `@colyseus/schema` 3; the limits are ours.
use Rattle.std.specs.Prelude.{ℕ, zero, suc, Bool, true, ◌&&◌, List, [], ◌∷◌, ◌++◌, length, map, Option, Some, None, slice_get, nat_lt, nat_le, ◌==◌, if◌then◌else◌, unwrap_or, option_and_then}
use Rattle.std.specs.List.{list_any, list_all}
use Rattle.std.specs.Option.{option_map, option_map_or}
use Rattle.schema_model.specs.declared.class.Class.{Class}
use Rattle.schema_model.specs.declared.class.FieldDecl.{FieldDecl}
use Rattle.schema_model.specs.declared.class.Item.{Item}
use Rattle.schema_model.specs.declared.class.Item.TheVariants as item
use Rattle.schema_model.specs.declared.class.Shape.{Shape}
use Rattle.schema_model.specs.declared.class.Shape.TheVariants as shape
use Rattle.schema_model.specs.declared.place.Home.{Home}

-- a list of classes, which are numbered from 0, and the class of the root
pub record Schema : Type 0 where
  pub classes : List Class
  pub root : ℕ

-- a field of a class, own or inherited, with the class that declares it
pub record Declared : Type 0 where
  pub class : ℕ
  pub field : FieldDecl

-- the fields that a class inherits, where the fields of the earlier classes are these
abbrev pub inherited : List (List Declared) → Option ℕ → List Declared
inherited earlier None = []
inherited earlier (Some parent) = unwrap_or (slice_get earlier parent) []

-- the fields of the classes, class by class, behind those of the earlier classes
abbrev pub fields_from : List (List Declared) → List Class → List (List Declared)
fields_from earlier [] = earlier
fields_from earlier (c ∷ cs) =
    fields_from (earlier ++ (inherited earlier c.parent ++ map (λ f. record { class = length earlier; field = f }) c.own) ∷ []) cs

-- the fields of a class: its parent's, then its own; none where there is no such class
abbrev pub fields_of : Schema → ℕ → List Declared
fields_of s class = unwrap_or (slice_get (fields_from [] s.classes) class) []

-- the field of a class at an index
abbrev pub field_of : Schema → ℕ → ℕ → Option FieldDecl
field_of s class index = option_map (λ (d : Declared). d.field) (slice_get (fields_of s class) index)

-- the home of a field: the class that declares it, and its index
abbrev pub home_of : Schema → ℕ → ℕ → Option Home
home_of s class index =
    option_map (λ (d : Declared). let h : Home = record { class = d.class; field = index } in h) (slice_get (fields_of s class) index)

-- the field, where this class declares it
abbrev pub own_field : ℕ → Declared → Option FieldDecl
own_field class d = if d.class == class then Some d.field else None

-- the field that a home names, where its class declares one at this index
abbrev pub home_field : Schema → Home → Option FieldDecl
home_field s h = option_and_then (own_field h.class) (slice_get (fields_of s h.class) h.field)

-- the parent of a class
abbrev pub parent_of : List Class → ℕ → Option ℕ
parent_of classes class = option_and_then (λ (c : Class). c.parent) (slice_get classes class)

-- the class and its ancestors, the nearest first, at most so many
abbrev pub line_of : List Class → ℕ → ℕ → List ℕ
line_of classes zero class = []
line_of classes (suc n) class = class ∷ option_map_or (line_of classes n) (parent_of classes class) []

-- sub is sup or descends from it
abbrev pub is_kind_of : Schema → ℕ → ℕ → Bool
is_kind_of s sub sup = list_any (λ n. n == sup) (line_of s.classes (suc (length s.classes)) sub)

-- what the places of a shape hold
abbrev pub item_of : Shape → Item
item_of (shape.One i) = i
item_of (shape.Map i) = i
item_of (shape.Array i) = i
item_of (shape.Set i) = i

-- an item's class is one of so many
abbrev pub item_in_range : ℕ → Item → Bool
item_in_range count (item.Scalar k) = true
item_in_range count (item.Class n) = nat_lt n count

-- a parent stands earlier
abbrev pub is_earlier : ℕ → Option ℕ → Bool
is_earlier class None = true
is_earlier class (Some parent) = nat_lt parent class

-- the parents of the classes from this number on stand earlier
abbrev pub parents_earlier : ℕ → List Class → Bool
parents_earlier n [] = true
parents_earlier n (c ∷ cs) = is_earlier n c.parent && parents_earlier (suc n) cs

-- how many classes a schema has at most, and how many fields a class
abbrev pub most_classes : ℕ
most_classes = 256

abbrev pub most_fields : ℕ
most_fields = 63

-- few classes, type numbers in range, parents earlier, few fields in each class
abbrev pub is_kept : Schema → Bool
is_kept s =
    nat_le (length s.classes) most_classes && nat_lt s.root (length s.classes) && parents_earlier 0 s.classes
    && list_all (λ (c : Class). list_all (λ (f : FieldDecl). item_in_range (length s.classes) (item_of f.shape)) c.own) s.classes
    && list_all (λ (fs : List Declared). nat_le (length fs) most_fields) (fields_from [] s.classes)
