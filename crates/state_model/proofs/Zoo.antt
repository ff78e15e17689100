-- A schema with every shape, tags and a class that inherits, and a sound state of it; and a schema of tagged collections of instances.
use Rattle.std.specs.Prelude.{ℕ, List, [], ◌∷◌, ℤ, pos, Some, codes}
use Rattle.schema_model.specs.Classes.{Schema}
use Rattle.schema_model.specs.declared.class.Class.{Class}
use Rattle.schema_model.specs.declared.class.FieldDecl.{FieldDecl}
use Rattle.schema_model.specs.declared.class.Shape.{Shape}
use Rattle.schema_model.specs.declared.class.Shape.TheVariants as shape
use Rattle.schema_model.specs.declared.class.Item.TheVariants as item
use Rattle.schema_model.specs.declared.scalar.ScalarKind.TheVariants as kind
use Rattle.schema_model.specs.declared.value.Value.TheVariants.{Whole, Str, Link}
use Rattle.state_model.specs.declared.row.Row.{Row}
use Rattle.state_model.specs.declared.row.Row.TheVariants.{Struct, Map, Array, Set}
use Rattle.state_model.specs.declared.row.RowEntry.{RowEntry}
use Rattle.state_model.specs.State.{State, ItemCount}
use Rattle.state_model.proofs.Examples as ex

-- a field with a tag of its own
abbrev pub tagged_field : List ℕ → Shape → ℤ → FieldDecl
tagged_field n s t = record { name = n; shape = s; tag = Some t }

-- `Zoo { pets: map of Pet, parade: array of Pet view, signs: set of string, star: Pet view 7, tickets: number view,
-- log: array of number view 7 }`
abbrev pub zoo_class : Class
zoo_class = ex.root_class (codes "Zoo")
    (ex.plain_field (codes "pets") (shape.Map (item.Class 1)) ∷ ex.hidden_field (codes "parade") (shape.Array (item.Class 1))
    ∷ ex.plain_field (codes "signs") (shape.Set (item.Scalar kind.Str)) ∷ tagged_field (codes "star") (shape.One (item.Class 1)) (pos 7)
    ∷ ex.hidden_field (codes "tickets") (shape.One (item.Scalar kind.Number))
    ∷ tagged_field (codes "log") (shape.Array (item.Scalar kind.Number)) (pos 7) ∷ [])

-- `Pet { name: string, toys: array of number }`
abbrev pub pet_class : Class
pet_class = ex.root_class (codes "Pet")
    (ex.plain_field (codes "name") (shape.One (item.Scalar kind.Str)) ∷ ex.plain_field (codes "toys") (shape.Array (item.Scalar kind.Number)) ∷ [])

-- `Dog : Pet { age: uint8 }`
abbrev pub dog_class : Class
dog_class = record { name = codes "Dog"; parent = Some 1; own = ex.plain_field (codes "age") (shape.One (item.Scalar kind.U8)) ∷ [] }

abbrev pub zoo : Schema
zoo = record { classes = zoo_class ∷ pet_class ∷ dog_class ∷ []; root = 0 }

-- ---- the rows of a state, one by one

abbrev pub gate : Row
gate = Struct 0 (ex.field 0 (Link 1) ∷ ex.field 1 (Link 2) ∷ ex.field 2 (Link 3) ∷ ex.field 3 (Link 5) ∷ ex.field 4 (Whole (pos 12)) ∷ [])

abbrev pub pets : Row
pets = Map (ex.home 0 0) (ex.named 0 (codes "rex") (Link 4) ∷ ex.named 2 (codes "tom") (Link 5) ∷ [])

abbrev pub parade : Row
parade = Array (ex.home 0 1) (Link 4 ∷ Link 5 ∷ [])

abbrev pub signs : Row
signs = Set (ex.home 0 2) (ex.element 1 (Str (codes "open")) ∷ ex.element 3 (Str (codes "closed")) ∷ [])

-- a dog, with its toys
abbrev pub rex : Row
rex = Struct 2 (ex.field 0 (Str (codes "Rex")) ∷ ex.field 1 (Link 6) ∷ ex.field 2 (Whole (pos 3)) ∷ [])

abbrev pub tom : Row
tom = Struct 1 (ex.field 0 (Str (codes "Tom")) ∷ [])

abbrev pub toys : Row
toys = Array (ex.home 1 1) (Whole (pos 7) ∷ Whole (pos 8) ∷ [])

-- the gate is row 0, the pets 1, the parade 2, the signs 3, the dog 4, the other pet 5 and the dog's toys 6
abbrev pub zoo_rows : List RowEntry
zoo_rows = ex.row 0 gate ∷ ex.row 1 pets ∷ ex.row 2 parade ∷ ex.row 3 signs ∷ ex.row 4 rex ∷ ex.row 5 tom ∷ ex.row 6 toys ∷ []

-- how many item numbers a collection gave
abbrev pub count_of : ℕ → ℕ → ItemCount
count_of w n = record { who = w; count = n }

-- the pets gave item numbers 0 to 2, and the signs 0 to 3
abbrev pub counts : List ItemCount
counts = count_of 1 3 ∷ count_of 3 4 ∷ []

abbrev pub zoo_state : State
zoo_state = record { rows = zoo_rows; given = 6; counts = counts }

-- ---- `State { named: map of Card view, list: array of Card view, some: set of Card view }`, `Card {}`

abbrev pub cards : Schema
cards = record {
  classes = ex.root_class (codes "State")
      (ex.hidden_field (codes "named") (shape.Map (item.Class 1)) ∷ ex.hidden_field (codes "list") (shape.Array (item.Class 1))
      ∷ ex.hidden_field (codes "some") (shape.Set (item.Class 1)) ∷ []) ∷ ex.root_class (codes "Card") [] ∷ [];
  root = 0;
}
