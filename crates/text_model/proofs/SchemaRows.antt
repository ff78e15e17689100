-- Examples: schemas by their texts, and the first fault of each text that is none; worked out by hand from the form.
use Rattle.std.specs.Prelude.{◌≡◌, ℕ, true, false, List, [], ◌∷◌, ◌++◌, map, ℤ, pos, negsuc, Option, Some, None, Ok, Err, codes, refl}
use Rattle.std.specs.Fmt.{digits}
use Rattle.schema_model.specs.Classes.{Schema}
use Rattle.schema_model.specs.declared.class.FieldDecl.{FieldDecl}
use Rattle.schema_model.specs.declared.class.Shape.{Shape}
use Rattle.schema_model.specs.declared.class.Shape.TheVariants.{One, Map, Array, Set}
use Rattle.schema_model.specs.declared.class.Item.TheVariants.{Scalar, Class}
use Rattle.schema_model.specs.declared.scalar.ScalarKind.TheVariants.{Number, Str, Bool, I8, U8, I16, U16, I32, U32}
use Rattle.text_model.specs.declared.fault.SchemaFault.TheVariants.{UnknownWord, UnknownClass, TwiceClass, TwiceField, BadTag, NoRoot, FractionalKind, ParentLater}
use Rattle.text_model.specs.SchemaLines.{schema_text, is_spelled}
use Rattle.text_model.specs.SchemaReading.{read_schema_text}

-- a field, and a text of lines
abbrev field : List ℕ → Shape → Option ℤ → FieldDecl
field name shape tag = record { name = name; shape = shape; tag = tag }

abbrev text : List (List ℕ) → List ℕ
text [] = []
text (l ∷ ls) = l ++ 10 ∷ text ls

-- ---- schemas

-- players with a hidden number
abbrev players : Schema
players = record {
  classes = record { name = codes "State"; parent = None; own = field (codes "players") (Map (Class 1)) None ∷ [] }
      ∷ record { name = codes "Player"; parent = None; own = field (codes "name") (One (Scalar Str)) None ∷ field (codes "gold") (One (Scalar Number)) (Some (negsuc 0)) ∷ [] } ∷ [];
  root = 0;
}

abbrev players_text : List ℕ
players_text = text (codes "class State" ∷ codes "field players map Player" ∷ codes "class Player" ∷ codes "field name string" ∷ codes "field gold number view" ∷ codes "root State" ∷ [])

players_written : schema_text players ≡ players_text
players_written = refl

players_read : read_schema_text players_text ≡ Ok players
players_read = refl

players_spelled : is_spelled players ≡ true
players_spelled = refl

-- every shape and kind, a parent, tags that are given, a class that is called as a tag's word
abbrev zoo : Schema
zoo = record {
  classes = record { name = codes "view"; parent = None; own = field (codes "a") (One (Scalar Bool)) (Some (pos 0)) ∷ field (codes "view") (Array (Scalar I8)) (Some (pos 255)) ∷ [] }
      ∷ record {
        name = codes "Z_9";
        parent = Some 0;
        own = field (codes "map") (One (Class 0)) None ∷ field (codes "c") (Map (Class 0)) (Some (negsuc 0)) ∷ field (codes "d") (Set (Scalar U8)) None
            ∷ field (codes "e") (One (Scalar I16)) None ∷ field (codes "f") (One (Scalar U16)) None ∷ field (codes "g") (One (Scalar I32)) None
            ∷ field (codes "h") (One (Scalar U32)) (Some (pos 7)) ∷ [];
      } ∷ [];
  root = 1;
}

abbrev zoo_text : List ℕ
zoo_text = text (codes "class view" ∷ codes "field a boolean view 0" ∷ codes "field view array int8 view 255" ∷ codes "class Z_9 : view" ∷ codes "field map view"
    ∷ codes "field c map view view" ∷ codes "field d set uint8" ∷ codes "field e int16" ∷ codes "field f uint16" ∷ codes "field g int32" ∷ codes "field h uint32 view 7"
    ∷ codes "root Z_9" ∷ [])

zoo_written : schema_text zoo ≡ zoo_text
unfolding digits
zoo_written = refl

zoo_read : read_schema_text zoo_text ≡ Ok zoo
zoo_read = refl

zoo_spelled : is_spelled zoo ≡ true
zoo_spelled = refl

-- a class may have the name of a floating kind, but then no field can hold it
abbrev floating : Shape → Schema
floating shape = record {
  classes = record { name = codes "float32"; parent = None; own = field (codes "float64") shape None ∷ [] } ∷ [];
  root = 0;
}

floating_spelled : is_spelled (floating (One (Scalar Number))) ≡ true
floating_spelled = refl

floating_hidden : is_spelled (floating (Set (Class 0))) ≡ false
floating_hidden = refl

-- ---- faults

-- lines of no form: of another word, with words missing or too many, with names and tags that aren't such
no_form : map (λ l. read_schema_text (text (codes "class A" ∷ l ∷ codes "root A" ∷ [])))
    (codes "" ∷ codes "klass B" ∷ codes "class" ∷ codes "class B :" ∷ codes "class B : " ∷ codes "class B A" ∷ codes "class map" ∷ codes "class number" ∷ codes "class b-c" ∷ codes "class  B"
    ∷ codes "field x" ∷ codes "field x map" ∷ codes "field x map map" ∷ codes "field x array array A" ∷ codes "field x A view 01" ∷ codes "field x A view -0" ∷ codes "field x A view +1"
    ∷ codes "field x A view x" ∷ codes "field x A view 1 2" ∷ codes "field x A 1" ∷ codes "field string A" ∷ codes "field x A " ∷ codes "root" ∷ codes "root A A" ∷ codes "root map" ∷ [])
    ≡ map (λ l. Err (UnknownWord l)) (2 ∷ 2 ∷ 2 ∷ 2 ∷ 2 ∷ 2 ∷ 2 ∷ 2 ∷ 2 ∷ 2 ∷ 2 ∷ 2 ∷ 2 ∷ 2 ∷ 2 ∷ 2 ∷ 2 ∷ 2 ∷ 2 ∷ 2 ∷ 2 ∷ 2 ∷ 2 ∷ 2 ∷ 2 ∷ [])
no_form = refl

-- a field before any class, a line behind the root, a piece without LF, CR and tab
out_of_order : map read_schema_text (text (codes "field x number" ∷ codes "class A" ∷ codes "root A" ∷ []) ∷ text (codes "class A" ∷ codes "root A" ∷ codes "class B" ∷ [])
    ∷ text (codes "class A" ∷ codes "root A" ∷ codes "root A" ∷ []) ∷ (text (codes "class A" ∷ []) ++ codes "root A") ∷ (codes "class A" ++ 13 ∷ 10 ∷ []) ∷ (codes "class" ++ 9 ∷ codes "A" ++ 10 ∷ []) ∷ [])
    ≡ Err (UnknownWord 1) ∷ Err (UnknownWord 3) ∷ Err (UnknownWord 3) ∷ Err (UnknownWord 2) ∷ Err (UnknownWord 1) ∷ Err (UnknownWord 1) ∷ []
out_of_order = refl

-- names twice, a parent that comes later or is the class itself, floating kinds, tags out of range
named_faults : map (λ ls. read_schema_text (text ls))
    ((codes "class A" ∷ codes "class A" ∷ codes "root A" ∷ []) ∷ (codes "class A : B" ∷ codes "class B" ∷ codes "root A" ∷ []) ∷ (codes "class A : A" ∷ codes "root A" ∷ [])
    ∷ (codes "class A" ∷ codes "field x number" ∷ codes "field x string" ∷ []) ∷ (codes "class A" ∷ codes "field x number" ∷ codes "class B : A" ∷ codes "field y number" ∷ codes "field x string" ∷ [])
    ∷ (codes "class A" ∷ codes "field x float32" ∷ []) ∷ (codes "class A" ∷ codes "field x map float64 view" ∷ []) ∷ (codes "class A" ∷ codes "field x A view 256" ∷ [])
    ∷ (codes "class A" ∷ codes "field x A view -1" ∷ []) ∷ (codes "class A" ∷ codes "field x A view 99999999999999999999" ∷ []) ∷ [])
    ≡ Err (TwiceClass 2) ∷ Err (ParentLater 1) ∷ Err (ParentLater 1) ∷ Err (TwiceField 3) ∷ Err (TwiceField 5) ∷ Err (FractionalKind 2) ∷ Err (FractionalKind 2) ∷ Err (BadTag 2)
    ∷ Err (BadTag 2) ∷ Err (BadTag 2) ∷ []
named_faults = refl

-- two faults in one line, in their order
first_of_two : map (λ ls. read_schema_text (text ls))
    ((codes "class A" ∷ codes "field x float32 view 256" ∷ []) ∷ (codes "class A" ∷ codes "field x number" ∷ codes "field x number view 256" ∷ []) ∷ (codes "class A" ∷ codes "class A : B" ∷ [])
    ∷ (codes "class A" ∷ codes "field x number" ∷ codes "field x float64" ∷ []) ∷ [])
    ≡ Err (FractionalKind 2) ∷ Err (BadTag 3) ∷ Err (TwiceClass 2) ∷ Err (FractionalKind 3) ∷ []
first_of_two = refl

-- what is declared nowhere is found behind all lines, the first first; a later bad line comes before it
found_late : map (λ ls. read_schema_text (text ls))
    ((codes "class A" ∷ codes "field x B" ∷ codes "field y C" ∷ codes "root D" ∷ []) ∷ (codes "class A" ∷ codes "root D" ∷ []) ∷ (codes "class A" ∷ codes "field x B" ∷ [])
    ∷ (codes "class A" ∷ codes "field x B" ∷ codes "class B" ∷ codes "root A" ∷ codes "x" ∷ []) ∷ [] ∷ (codes "class A" ∷ []) ∷ [])
    ≡ Err (UnknownClass 2) ∷ Err (UnknownClass 2) ∷ Err (UnknownClass 2) ∷ Err (UnknownWord 5) ∷ Err (NoRoot 1) ∷ Err (NoRoot 2) ∷ []
found_late = refl

-- a class is known also where it is declared later
declared_later : read_schema_text (text (codes "class A" ∷ codes "field x B" ∷ codes "class B" ∷ codes "root B" ∷ []))
    ≡ Ok (record {
      classes = record { name = codes "A"; parent = None; own = field (codes "x") (One (Class 1)) None ∷ [] } ∷ record { name = codes "B"; parent = None; own = [] } ∷ [];
      root = 1;
    })
declared_later = refl
