-- Reading a text as a schema, line by line, up to the first line that can't be taken; what is declared nowhere is found
-- after all lines. Ours.
use Rattle.std.specs.Prelude.{ℕ, suc, ◌-◌, Bool, false, ◌&&◌, List, [], ◌∷◌, ◌++◌, length, map, take, ℤ, pos, negsuc, Option, Some, None, is_some, is_none, nat_le, ◌==◌, if◌then◌else◌, codes, slice_get, slice_index_or, unwrap_or, Result, Ok, Err}
use Rattle.std.specs.List.{flat_map, list_any}
use Rattle.std.specs.Option.{option_map, option_map_or}
use Rattle.std.specs.Str.{bytes_eq}
use Rattle.schema_model.specs.Classes.{Schema, most_classes, most_fields}
use Rattle.schema_model.specs.Reading.{◌>>=◌}
use Rattle.schema_model.specs.declared.class.Class.{Class}
use Rattle.schema_model.specs.declared.class.FieldDecl.{FieldDecl}
use Rattle.schema_model.specs.declared.class.Item.{Item}
use Rattle.schema_model.specs.declared.class.Item.TheVariants as item
use Rattle.schema_model.specs.declared.class.Shape.{Shape}
use Rattle.schema_model.specs.declared.class.Shape.TheVariants as shape
use Rattle.text_model.specs.Decimals.{decimal_below}
use Rattle.text_model.specs.Marks.{is_class_name, is_field_name, is_one_of}
use Rattle.text_model.specs.Lines.{words_of, pieces_of, is_word, some_if}
use Rattle.text_model.specs.declared.fault.SchemaFault.{SchemaFault}
use Rattle.text_model.specs.declared.fault.SchemaFault.TheVariants.{UnknownWord, UnknownClass, TwiceClass, TwiceField, TooManyFields, TooManyClasses, BadTag, NoRoot, FractionalKind, ParentLater}
use Rattle.text_model.specs.declared.draft.Grouping.{Grouping}
use Rattle.text_model.specs.declared.draft.Grouping.TheVariants.{Alone, Mapped, Listed, Gathered}
use Rattle.text_model.specs.declared.draft.DraftField.{DraftField}
use Rattle.text_model.specs.declared.draft.DraftClass.{DraftClass}
use Rattle.text_model.specs.declared.draft.DraftRoot.{DraftRoot}
use Rattle.text_model.specs.SchemaLines.{Tagging, Untagged, Default, Given, SchemaLine, ClassLine, FieldLine, RootLine, kind_of_word, fractional_words, is_item_word, is_tag_word}

-- ---- the form of a line

abbrev pub class_form : List (List ℕ) → Option SchemaLine
class_form (name ∷ []) = some_if (is_class_name name) (ClassLine name None)
class_form (name ∷ colon ∷ parent ∷ []) =
    some_if (is_class_name name && is_word (codes ":") colon && is_class_name parent) (ClassLine name (Some parent))
class_form ws = None

-- the tag behind an item
abbrev pub tagging_form : List (List ℕ) → Option Tagging
tagging_form [] = Some Untagged
tagging_form (view ∷ []) = some_if (is_word (codes "view") view) Default
tagging_form (view ∷ tag ∷ []) = some_if (is_word (codes "view") view && is_tag_word tag) (Given tag)
tagging_form ws = None

-- an item, and its tag behind it
abbrev pub item_form : List ℕ → Grouping → List (List ℕ) → Option SchemaLine
item_form name grouping [] = None
item_form name grouping (w ∷ ws) =
    if is_item_word w then option_map (FieldLine name grouping w) (tagging_form ws) else None

-- the shape before an item
abbrev pub shape_form : List ℕ → List (List ℕ) → Option SchemaLine
shape_form name [] = None
shape_form name (w ∷ ws) =
    if is_word (codes "map") w then item_form name Mapped ws
    else if is_word (codes "array") w then item_form name Listed ws
    else if is_word (codes "set") w then item_form name Gathered ws
    else item_form name Alone (w ∷ ws)

abbrev pub field_form : List (List ℕ) → Option SchemaLine
field_form [] = None
field_form (name ∷ ws) = if is_field_name name then shape_form name ws else None

abbrev pub root_form : List (List ℕ) → Option SchemaLine
root_form (name ∷ []) = some_if (is_class_name name) (RootLine name)
root_form ws = None

-- the form of the words of a line
abbrev pub line_form : List (List ℕ) → Option SchemaLine
line_form [] = None
line_form (w ∷ ws) =
    if is_word (codes "class") w then class_form ws
    else if is_word (codes "field") w then field_form ws
    else if is_word (codes "root") w then root_form ws
    else None

-- ---- what was read so far

-- the classes with their fields, and the root where its line came
pub record Draft : Type 0 where
  pub classes : List DraftClass
  pub root : Option DraftRoot

abbrev pub empty_draft : Draft
empty_draft = record { classes = []; root = None }

-- the place of a class by its name
abbrev pub place_from : ℕ → List DraftClass → List ℕ → Option ℕ
place_from n [] name = None
place_from n (c ∷ cs) name = if bytes_eq c.name name then Some n else place_from (suc n) cs name

abbrev pub class_place : List DraftClass → List ℕ → Option ℕ
class_place classes name = place_from 0 classes name

-- the names of the fields that a class inherits, where those of the earlier classes are these
abbrev pub names_inherited : List (List (List ℕ)) → Option ℕ → List (List ℕ)
names_inherited earlier None = []
names_inherited earlier (Some n) = unwrap_or (slice_get earlier n) []

-- the names of all fields of each class, its parent's first
abbrev pub names_from : List (List (List ℕ)) → List DraftClass → List (List (List ℕ))
names_from earlier [] = earlier
names_from earlier (c ∷ cs) =
    names_from (earlier ++ (names_inherited earlier c.parent ++ map (λ (f : DraftField). f.name) c.own) ∷ []) cs

-- those of the last class
abbrev pub last_names : List DraftClass → List (List ℕ)
last_names classes = slice_index_or (names_from [] classes) (length classes - 1) []

-- ---- one line

-- the first fault whose test holds
abbrev pub unless_any : {A : Type 0} → List (Bool × SchemaFault) → A → Result A SchemaFault
unless_any [] x = Ok x
unless_any ((test, f) ∷ tests) x = if test then Err f else unless_any tests x

-- the place of the parent, where there is one
abbrev pub parent_place : List DraftClass → Option (List ℕ) → Option ℕ
parent_place classes None = None
parent_place classes (Some name) = class_place classes name

-- a parent that isn't declared before
abbrev pub is_later : List DraftClass → Option (List ℕ) → Bool
is_later classes None = false
is_later classes (Some name) = is_none (class_place classes name)

abbrev pub with_class : Draft → List ℕ → Option ℕ → Draft
with_class d name parent = record { classes = d.classes ++ record { name = name; parent = parent; own = [] } ∷ []; root = d.root }

abbrev pub class_taken : ℕ → Draft → List ℕ → Option (List ℕ) → Result Draft SchemaFault
class_taken line d name parent = unless_any
    ((is_some (class_place d.classes name), TwiceClass line) ∷ (is_later d.classes parent, ParentLater line)
    ∷ (nat_le most_classes (length d.classes), TooManyClasses line) ∷ [])
    (with_class d name (parent_place d.classes parent))

-- the tag: -1 for the default one
abbrev pub tag_of : Tagging → Option ℤ
tag_of Untagged = None
tag_of Default = Some (negsuc 0)
tag_of (Given w) = option_map pos (decimal_below 256 w)

-- a tag that is given and out of range
abbrev pub is_bad_tag : Tagging → Bool
is_bad_tag (Given w) = is_none (decimal_below 256 w)
is_bad_tag t = false

-- the last class with a field more
abbrev pub with_field : List DraftClass → DraftField → List DraftClass
with_field [] f = []
with_field (c ∷ []) f = record { name = c.name; parent = c.parent; own = c.own ++ f ∷ [] } ∷ []
with_field (c ∷ e ∷ cs) f = c ∷ with_field (e ∷ cs) f

abbrev pub field_taken : ℕ → Draft → List ℕ → Grouping → List ℕ → Tagging → Result Draft SchemaFault
field_taken line d name grouping word tagging = unless_any
    ((is_one_of fractional_words word, FractionalKind line) ∷ (is_bad_tag tagging, BadTag line)
    ∷ (list_any (bytes_eq name) (last_names d.classes), TwiceField line) ∷ (nat_le most_fields (length (last_names d.classes)), TooManyFields line) ∷ [])
    (record {
      classes = with_field d.classes (record { name = name; grouping = grouping; word = word; tag = tag_of tagging; line = line });
      root = d.root;
    })

abbrev pub root_taken : ℕ → Draft → List ℕ → Result Draft SchemaFault
root_taken line d name = Ok (record { classes = d.classes; root = Some (record { name = name; line = line }) })

-- a line of this form; a field stands behind a class, and nothing behind the root
abbrev pub form_taken : ℕ → Draft → Option SchemaLine → Result Draft SchemaFault
form_taken line d None = Err (UnknownWord line)
form_taken line d (Some (ClassLine name parent)) = class_taken line d name parent
form_taken line d (Some (FieldLine name grouping word tagging)) =
    if length d.classes == 0 then Err (UnknownWord line) else field_taken line d name grouping word tagging
form_taken line d (Some (RootLine name)) = root_taken line d name

abbrev pub line_taken : ℕ → Draft → List (List ℕ) → Result Draft SchemaFault
line_taken line d ws = if is_some d.root then Err (UnknownWord line) else form_taken line d (line_form ws)

-- ---- all lines

-- the lines from this number on, one behind another
abbrev pub lines_taken : ℕ → Draft → List (List (List ℕ)) → Result Draft SchemaFault
lines_taken line d [] = Ok d
lines_taken line d (ws ∷ rest) = line_taken line d ws >>= (λ next. lines_taken (suc line) next rest)

-- the item that a word stands for
abbrev pub item_of_word : List DraftClass → List ℕ → Option Item
item_of_word classes w =
    option_map_or (λ k. Some (item.Scalar k)) (kind_of_word w) (option_map item.Class (class_place classes w))

-- the lines whose class is declared nowhere
abbrev pub unknown_field : List DraftClass → DraftField → List ℕ
unknown_field classes f = if is_some (item_of_word classes f.word) then [] else f.line ∷ []

abbrev pub unknown_root : List DraftClass → Option DraftRoot → List ℕ
unknown_root classes None = []
unknown_root classes (Some r) = if is_some (class_place classes r.name) then [] else r.line ∷ []

abbrev pub unknown_lines : Draft → List ℕ
unknown_lines d =
    flat_map (λ (c : DraftClass). flat_map (unknown_field d.classes) c.own) d.classes ++ unknown_root d.classes d.root

-- the schema of what was read, where all is declared
abbrev pub shape_of : Grouping → Item → Shape
shape_of Alone i = shape.One i
shape_of Mapped i = shape.Map i
shape_of Listed i = shape.Array i
shape_of Gathered i = shape.Set i

abbrev pub field_of : List DraftClass → DraftField → FieldDecl
field_of classes f =
    record { name = f.name; shape = shape_of f.grouping (unwrap_or (item_of_word classes f.word) (item.Class 0)); tag = f.tag }

abbrev pub class_of : List DraftClass → DraftClass → Class
class_of classes c = record { name = c.name; parent = c.parent; own = map (field_of classes) c.own }

abbrev pub schema_of : Draft → DraftRoot → Schema
schema_of d r = record { classes = map (class_of d.classes) d.classes; root = unwrap_or (class_place d.classes r.name) 0 }

-- how reading ends behind so many lines
abbrev pub resolved : ℕ → Draft → List ℕ → Result Schema SchemaFault
resolved count d (line ∷ lines) = Err (UnknownClass line)
resolved count d [] = option_map_or (λ r. Ok (schema_of d r)) d.root (Err (NoRoot (suc count)))

-- a piece behind the last LF is no line
abbrev pub ended : ℕ → List ℕ → Draft → Result Schema SchemaFault
ended count [] d = resolved count d (unknown_lines d)
ended count (b ∷ bs) d = Err (UnknownWord (suc count))

abbrev pub read_pieces : List (List ℕ) → Result Schema SchemaFault
read_pieces pieces =
    lines_taken 1 empty_draft (map words_of (take (length pieces - 1) pieces))
    >>= ended (length pieces - 1) (slice_index_or pieces (length pieces - 1) [])

-- the schema of a text, or its first fault
abbrev pub read_schema_text : List ℕ → Result Schema SchemaFault
read_schema_text text = read_pieces (pieces_of text)
