-- The schemas and states that the worked rows are about.
use Rattle.std.specs.Prelude.{ℕ, List, [], ◌∷◌, ℤ, pos, negsuc, Some, None, codes}
use Rattle.schema_model.specs.Classes.{Schema}
use Rattle.schema_model.specs.declared.class.Class.{Class}
use Rattle.schema_model.specs.declared.class.FieldDecl.{FieldDecl}
use Rattle.schema_model.specs.declared.class.Shape.{Shape}
use Rattle.schema_model.specs.declared.class.Shape.TheVariants as shape
use Rattle.schema_model.specs.declared.class.Item.TheVariants as item
use Rattle.schema_model.specs.declared.scalar.ScalarKind.TheVariants as kind
use Rattle.schema_model.specs.declared.place.Home.{Home}
use Rattle.schema_model.specs.declared.place.Pair.{Pair}
use Rattle.schema_model.specs.declared.value.Value.{Value}
use Rattle.schema_model.specs.declared.value.Value.TheVariants.{Whole, Str, Link}
use Rattle.state_model.specs.declared.row.Row.{Row}
use Rattle.state_model.specs.declared.row.Row.TheVariants.{Struct, Map, Array, Set}
use Rattle.state_model.specs.declared.row.RowEntry.{RowEntry}
use Rattle.state_model.specs.declared.row.FieldValue.{FieldValue}
use Rattle.state_model.specs.declared.row.MapItem.{MapItem}
use Rattle.state_model.specs.declared.row.SetItem.{SetItem}

-- ---- short forms

abbrev pub plain_field : List ℕ → Shape → FieldDecl
plain_field n s = record { name = n; shape = s; tag = None }

-- a field with the default tag, -1
abbrev pub hidden_field : List ℕ → Shape → FieldDecl
hidden_field n s = record { name = n; shape = s; tag = Some (negsuc 0) }

abbrev pub root_class : List ℕ → List FieldDecl → Class
root_class n fs = record { name = n; parent = None; own = fs }

abbrev pub home : ℕ → ℕ → Home
home c f = record { class = c; field = f }

abbrev pub member : ℕ → ℤ → Pair
member r t = record { who = r; tag = t }

-- a member under the default tag
abbrev pub seen_row : ℕ → Pair
seen_row r = member r (negsuc 0)

abbrev pub row : ℕ → Row → RowEntry
row n r = record { who = n; row = r }

abbrev pub field : ℕ → Value → FieldValue
field i v = record { field = i; value = v }

abbrev pub named : ℕ → List ℕ → Value → MapItem
named n k v = record { number = n; key = k; value = v }

abbrev pub element : ℕ → Value → SetItem
element n v = record { number = n; value = v }

-- ---- `State { x: number, name: string, ok: boolean }`

abbrev pub flat : Schema
flat = record {
  classes = root_class (codes "State")
      (plain_field (codes "x") (shape.One (item.Scalar kind.Number)) ∷ plain_field (codes "name") (shape.One (item.Scalar kind.Str))
      ∷ plain_field (codes "ok") (shape.One (item.Scalar kind.Bool)) ∷ []) ∷ [];
  root = 0;
}

-- ---- `State { players: map of Player }`, `Player { name: string, gold: number view }`

abbrev pub players : Schema
players = record {
  classes = root_class (codes "State") (plain_field (codes "players") (shape.Map (item.Class 1)) ∷ [])
      ∷ root_class (codes "Player") (plain_field (codes "name") (shape.One (item.Scalar kind.Str)) ∷ hidden_field (codes "gold") (shape.One (item.Scalar kind.Number)) ∷ []) ∷ [];
  root = 0;
}

-- map 1 in the root, player 2 in it under `s1`, with the name `a` and this much gold
abbrev pub one_player : ℕ → List RowEntry
one_player gold =
    row 0 (Struct 0 (field 0 (Link 1) ∷ []))
    ∷ row 1 (Map (home 0 0) (named 0 (codes "s1") (Link 2) ∷ []))
    ∷ row 2 (Struct 1 (field 0 (Str (codes "a")) ∷ field 1 (Whole (pos gold)) ∷ [])) ∷ []

-- the same once the player is taken out and swept
abbrev pub no_player : List RowEntry
no_player = row 0 (Struct 0 (field 0 (Link 1) ∷ [])) ∷ row 1 (Map (home 0 0) []) ∷ []

-- ---- `State { hand: array of Card view }`, `Card { rank: number }`

abbrev pub hand : Schema
hand = record {
  classes = root_class (codes "State") (hidden_field (codes "hand") (shape.Array (item.Class 1)) ∷ [])
      ∷ root_class (codes "Card") (plain_field (codes "rank") (shape.One (item.Scalar kind.Number)) ∷ []) ∷ [];
  root = 0;
}

-- array 1 in the root with these cards; card 3 has rank 5
abbrev pub two_cards : List Value → List RowEntry
two_cards order =
    row 0 (Struct 0 (field 0 (Link 1) ∷ [])) ∷ row 1 (Array (home 0 0) order)
    ∷ row 2 (Struct 1 []) ∷ row 3 (Struct 1 (field 0 (Whole (pos 5)) ∷ [])) ∷ []

-- ---- `Node { next: Node }`

abbrev pub nodes : Schema
nodes = record { classes = root_class (codes "Node") (plain_field (codes "next") (shape.One (item.Class 0)) ∷ []) ∷ []; root = 0 }

-- ---- `State { a: map of Player, b: map of Player }`, `Player { name: string }`

abbrev pub two_maps : Schema
two_maps = record {
  classes = root_class (codes "State") (plain_field (codes "a") (shape.Map (item.Class 1)) ∷ plain_field (codes "b") (shape.Map (item.Class 1)) ∷ [])
      ∷ root_class (codes "Player") (plain_field (codes "name") (shape.One (item.Scalar kind.Str)) ∷ []) ∷ [];
  root = 0;
}

-- player 3 stands in one of maps 1 and 2
abbrev pub a_player_in : List MapItem → List MapItem → List RowEntry
a_player_in a b =
    row 0 (Struct 0 (field 0 (Link 1) ∷ field 1 (Link 2) ∷ []))
    ∷ row 1 (Map (home 0 0) a) ∷ row 2 (Map (home 0 1) b)
    ∷ row 3 (Struct 1 (field 0 (Str (codes "n")) ∷ [])) ∷ []

-- ---- `State { secret: Box view, shown: Box }`, `Box { list: array of number }`

abbrev pub boxes : Schema
boxes = record {
  classes = root_class (codes "State") (hidden_field (codes "secret") (shape.One (item.Class 1)) ∷ plain_field (codes "shown") (shape.One (item.Class 1)) ∷ [])
      ∷ root_class (codes "Box") (plain_field (codes "list") (shape.Array (item.Scalar kind.Number)) ∷ []) ∷ [];
  root = 0;
}

-- box 1 stands in these fields of the root, with the list 1, 2
abbrev pub a_box_in : List FieldValue → List RowEntry
a_box_in fields =
    row 0 (Struct 0 fields) ∷ row 1 (Struct 1 (field 0 (Link 2) ∷ []))
    ∷ row 2 (Array (home 1 0) (Whole (pos 1) ∷ Whole (pos 2) ∷ [])) ∷ []

-- ---- `State { tags: set of string, n: uint16 }`

abbrev pub tags : Schema
tags = record {
  classes = root_class (codes "State") (plain_field (codes "tags") (shape.Set (item.Scalar kind.Str)) ∷ plain_field (codes "n") (shape.One (item.Scalar kind.U16)) ∷ []) ∷ [];
  root = 0;
}

-- set 1 with these items, and n = 513
abbrev pub some_tags : List SetItem → List RowEntry
some_tags items = row 0 (Struct 0 (field 0 (Link 1) ∷ field 1 (Whole (pos 513)) ∷ [])) ∷ row 1 (Set (home 0 0) items) ∷ []

-- ---- `State { list: array of number }`

abbrev pub numbers : Schema
numbers = record { classes = root_class (codes "State") (plain_field (codes "list") (shape.Array (item.Scalar kind.Number)) ∷ []) ∷ []; root = 0 }

abbrev pub a_list : List Value → List RowEntry
a_list values = row 0 (Struct 0 (field 0 (Link 1) ∷ [])) ∷ row 1 (Array (home 0 0) values) ∷ []
