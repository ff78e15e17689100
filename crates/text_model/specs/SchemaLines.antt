-- The lines of a schema's text: their forms, the words of each, and the one text of a schema. Ours.
use Rattle.std.specs.Prelude.{◌≡◌, ℕ, zero, Bool, true, false, not, ◌&&◌, ◌||◌, List, [], ◌∷◌, ◌++◌, map, ℤ, pos, negsuc, Option, Some, None, is_some, nat_lt, ◌==◌, if◌then◌else◌, codes, slice_get}
use Rattle.std.specs.List.{find, flat_map, list_all}
use Rattle.std.specs.Option.{option_map_or}
use Rattle.std.specs.Str.{bytes_eq}
use Rattle.std.specs.Fmt.{decimal}
use Rattle.schema_model.specs.Classes.{Schema, Declared, fields_from, is_kept, item_of}
use Rattle.schema_model.specs.declared.class.Class.{Class}
use Rattle.schema_model.specs.declared.class.FieldDecl.{FieldDecl}
use Rattle.schema_model.specs.declared.class.Item.{Item}
use Rattle.schema_model.specs.declared.class.Item.TheVariants as item
use Rattle.schema_model.specs.declared.class.Shape.{Shape}
use Rattle.schema_model.specs.declared.class.Shape.TheVariants as shape
use Rattle.schema_model.specs.declared.scalar.ScalarKind.{ScalarKind}
use Rattle.state_model.specs.Sound.{keys_differ}
use Rattle.text_model.specs.declared.draft.Grouping.{Grouping}
use Rattle.text_model.specs.declared.draft.Grouping.TheVariants.{Alone, Mapped, Listed, Gathered}
use Rattle.text_model.specs.Marks.{all_kinds, is_class_name, is_field_name, is_one_of, lines, scalar_word}
use Rattle.text_model.specs.Decimals.{is_decimal}

-- ---- words

-- the kind of a word
abbrev pub kind_of_word : List ℕ → Option ScalarKind
kind_of_word w = find (λ k. bytes_eq (scalar_word k) w) all_kinds

-- the words of kinds that are refused by name
abbrev pub fractional_words : List (List ℕ)
fractional_words = codes "float32" ∷ codes "float64" ∷ []

-- a word that can stand for an item: of a kind, or the name of a class
abbrev pub is_item_word : List ℕ → Bool
is_item_word w = is_some (kind_of_word w) || is_class_name w

-- a word that can stand for a tag: a decimal, or one behind a `-` that isn't 0
abbrev pub is_tag_word : List ℕ → Bool
is_tag_word [] = false
is_tag_word (c ∷ cs) = if c == 45 then is_decimal cs && not (bytes_eq cs (codes "0")) else is_decimal (c ∷ cs)

-- ---- forms

-- no tag, the default one, or one that is given by a word
pub data Tagging : Type 0 where
  Untagged : Tagging
  Default : Tagging
  Given : (word : List ℕ) → Tagging

-- a line: a class with its parent, a field, or the root
pub data SchemaLine : Type 0 where
  ClassLine : (name : List ℕ) (parent : Option (List ℕ)) → SchemaLine
  FieldLine : (name : List ℕ) (grouping : Grouping) (item : List ℕ) (tagging : Tagging) → SchemaLine
  RootLine : (name : List ℕ) → SchemaLine

abbrev pub parent_words : Option (List ℕ) → List (List ℕ)
parent_words None = []
parent_words (Some name) = codes ":" ∷ name ∷ []

abbrev pub grouped : Grouping → List (List ℕ) → List (List ℕ)
grouped Alone ws = ws
grouped Mapped ws = codes "map" ∷ ws
grouped Listed ws = codes "array" ∷ ws
grouped Gathered ws = codes "set" ∷ ws

abbrev pub tagging_words : Tagging → List (List ℕ)
tagging_words Untagged = []
tagging_words Default = codes "view" ∷ []
tagging_words (Given w) = codes "view" ∷ w ∷ []

-- the words of a line
abbrev pub line_words : SchemaLine → List (List ℕ)
line_words (ClassLine name parent) = codes "class" ∷ name ∷ parent_words parent
line_words (FieldLine name grouping item tagging) = codes "field" ∷ name ∷ grouped grouping (item ∷ tagging_words tagging)
line_words (RootLine name) = codes "root" ∷ name ∷ []

-- ---- the lines of a schema

-- the name of a class
abbrev pub class_name : List Class → ℕ → List ℕ
class_name classes n = option_map_or (λ (c : Class). c.name) (slice_get classes n) []

abbrev pub item_word : List Class → Item → List ℕ
item_word classes (item.Scalar k) = scalar_word k
item_word classes (item.Class n) = class_name classes n

abbrev pub grouping_of : Shape → Grouping
grouping_of (shape.One i) = Alone
grouping_of (shape.Map i) = Mapped
grouping_of (shape.Array i) = Listed
grouping_of (shape.Set i) = Gathered

abbrev pub tagging_of : Option ℤ → Tagging
tagging_of None = Untagged
tagging_of (Some (negsuc n)) = Default
tagging_of (Some (pos n)) = Given (decimal n)

abbrev pub field_line : List Class → FieldDecl → SchemaLine
field_line classes f = FieldLine f.name (grouping_of f.shape) (item_word classes (item_of f.shape)) (tagging_of f.tag)

abbrev pub parent_name : List Class → Option ℕ → Option (List ℕ)
parent_name classes None = None
parent_name classes (Some n) = Some (class_name classes n)

abbrev pub class_lines : List Class → Class → List SchemaLine
class_lines classes c = ClassLine c.name (parent_name classes c.parent) ∷ map (field_line classes) c.own

-- each class with its fields, and then the root
abbrev pub lines_of : Schema → List SchemaLine
lines_of s = flat_map (class_lines s.classes) s.classes ++ RootLine (class_name s.classes s.root) ∷ []

-- the one text of a schema
abbrev pub schema_text : Schema → List ℕ
schema_text s = lines (map line_words (lines_of s))

-- ---- which schemas have a text

-- the default tag, or 0 to 255
abbrev pub is_tag : Option ℤ → Bool
is_tag None = true
is_tag (Some (negsuc zero)) = true
is_tag (Some (pos n)) = nat_lt n 256
is_tag (Some z) = false

-- a field's name is one, its item isn't taken for a floating kind, and its tag is one
abbrev pub is_field : List Class → FieldDecl → Bool
is_field classes f = is_field_name f.name && not (is_one_of fractional_words (item_word classes (item_of f.shape))) && is_tag f.tag

-- a class's name is one, and its fields have a line
abbrev pub is_class : List Class → Class → Bool
is_class classes c = is_class_name c.name && list_all (is_field classes) c.own

-- the names of a class's fields differ, the inherited ones among them
abbrev pub fields_differ : List Declared → Bool
fields_differ ds = keys_differ (map (λ (d : Declared). d.field.name) ds)

-- within the limits, each class and field with a line, and names that differ
abbrev pub is_spelled : Schema → Bool
is_spelled s =
    is_kept s && list_all (is_class s.classes) s.classes && keys_differ (map (λ (c : Class). c.name) s.classes)
    && list_all fields_differ (fields_from [] s.classes)

-- the bytes are the text of this schema
abbrev pub IsSchemaText : List ℕ → Schema → Type 0
IsSchemaText text s = (is_spelled s ≡ true) × (text ≡ schema_text s)
