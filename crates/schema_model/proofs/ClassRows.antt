-- Fields, homes and descent over a schema of three classes, worked out by hand.
use Rattle.std.specs.Prelude.{◌≡◌, [], ◌∷◌, pos, true, false, Some, None, refl, map, replicate}
use Rattle.schema_model.specs.Classes.{Schema, Declared, fields_of, field_of, home_of, home_field, is_kind_of, is_kept}
use Rattle.schema_model.specs.declared.class.Class.{Class}
use Rattle.schema_model.specs.declared.class.FieldDecl.{FieldDecl}
use Rattle.schema_model.specs.declared.class.Item.TheVariants as item
use Rattle.schema_model.specs.declared.class.Shape.TheVariants as shape
use Rattle.schema_model.specs.declared.scalar.ScalarKind.TheVariants as kind

-- `class A`, `field x number`
abbrev field_x : FieldDecl
field_x = record { name = 120 ∷ []; shape = shape.One (item.Scalar kind.Number); tag = None }

abbrev class_A : Class
class_A = record { name = 65 ∷ []; parent = None; own = field_x ∷ [] }

-- `class B : A`, `field list array of A view 3`
abbrev field_list : FieldDecl
field_list = record { name = 108 ∷ []; shape = shape.Array (item.Class 0); tag = Some (pos 3) }

abbrev class_B : Class
class_B = record { name = 66 ∷ []; parent = Some 0; own = field_list ∷ [] }

-- `class C : B`
abbrev class_C : Class
class_C = record { name = 67 ∷ []; parent = Some 1; own = [] }

abbrev three : Schema
three = record { classes = class_A ∷ class_B ∷ class_C ∷ []; root = 1 }

inherited_first : map (λ (d : Declared). d.class) (fields_of three 2) ≡ 0 ∷ 1 ∷ []
inherited_first = refl

own_behind : field_of three 2 1 ≡ Some field_list
own_behind = refl

no_field : field_of three 0 1 ≡ None
no_field = refl

no_class : field_of three 3 0 ≡ None
no_class = refl

home_of_inherited : home_of three 2 1 ≡ Some (record { class = 1; field = 1 })
home_of_inherited = refl

home_names_own : home_field three (record { class = 1; field = 1 }) ≡ Some field_list
home_names_own = refl

home_names_no_inherited : home_field three (record { class = 2; field = 1 }) ≡ None
home_names_no_inherited = refl

descends : is_kind_of three 2 0 ≡ true
descends = refl

is_itself : is_kind_of three 1 1 ≡ true
is_itself = refl

no_descent : is_kind_of three 0 1 ≡ false
no_descent = refl

three_kept : is_kept three ≡ true
three_kept = refl

-- a parent that stands later
later_parent : is_kept (record { classes = class_B ∷ class_A ∷ []; root = 0 }) ≡ false
later_parent = refl

-- a root that is no class
no_root : is_kept (record { classes = class_A ∷ []; root = 1 }) ≡ false
no_root = refl

-- an item of its own class
item_of_itself : is_kept (record { classes = record { name = []; parent = None; own = field_list ∷ [] } ∷ []; root = 0 }) ≡ true
item_of_itself = refl

-- the same of a class that there isn't
abbrev field_of_no_class : FieldDecl
field_of_no_class = record { name = []; shape = shape.Set (item.Class 1); tag = None }

bad_item : is_kept (record { classes = record { name = []; parent = None; own = field_of_no_class ∷ [] } ∷ []; root = 0 }) ≡ false
bad_item = refl

-- a map's items
map_item : is_kept (record { classes = record { name = []; parent = None; own = record { name = []; shape = shape.Map (item.Class 0); tag = None } ∷ [] } ∷ []; root = 0 }) ≡ true
map_item = refl

-- 63 fields are kept, 64 are not
fields_63 : is_kept (record { classes = record { name = []; parent = None; own = replicate 63 field_x } ∷ []; root = 0 }) ≡ true
fields_63 = refl

fields_64 : is_kept (record { classes = record { name = []; parent = None; own = replicate 64 field_x } ∷ []; root = 0 }) ≡ false
fields_64 = refl

-- 257 classes are not
classes_257 : is_kept (record { classes = replicate 257 class_A; root = 0 }) ≡ false
classes_257 = refl
