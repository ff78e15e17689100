-- The lines of rows, as a client's view is written. Ours.
use Rattle.std.specs.Prelude.{ℕ, List, ◌∷◌, ◌++◌, codes, map}
use Rattle.std.specs.Fmt.{decimal}
use Rattle.schema_model.specs.declared.place.Home.{Home}
use Rattle.state_model.specs.declared.row.FieldValue.{FieldValue}
use Rattle.state_model.specs.declared.row.MapItem.{MapItem}
use Rattle.state_model.specs.declared.row.Row.{Row}
use Rattle.state_model.specs.declared.row.Row.TheVariants.{Struct, Map, Array, Set}
use Rattle.state_model.specs.declared.row.RowEntry.{RowEntry}
use Rattle.state_model.specs.declared.row.SetItem.{SetItem}
use Rattle.text_model.specs.Marks.{lines, quoted}
use Rattle.text_model.specs.WordForms.{value_word}

-- the class and the field of a home: `TYPE.FIELD`
abbrev pub home_word : Home → List ℕ
home_word home = decimal home.class ++ 46 ∷ decimal home.field

-- `FIELD=VALUE`, `NUMBER:KEY=VALUE` and `NUMBER=VALUE`
abbrev pub field_word : FieldValue → List ℕ
field_word f = decimal f.field ++ 61 ∷ value_word f.value

abbrev pub map_item_word : MapItem → List ℕ
map_item_word i = decimal i.number ++ 58 ∷ (quoted i.key ++ 61 ∷ value_word i.value)

abbrev pub set_item_word : SetItem → List ℕ
set_item_word i = decimal i.number ++ 61 ∷ value_word i.value

-- the words of a row of this number
abbrev pub words_of_row : ℕ → Row → List (List ℕ)
words_of_row n (Struct class fields) = codes "struct" ∷ decimal n ∷ decimal class ∷ map field_word fields
words_of_row n (Map home items) = codes "map" ∷ decimal n ∷ home_word home ∷ map map_item_word items
words_of_row n (Array home items) = codes "array" ∷ decimal n ∷ home_word home ∷ map value_word items
words_of_row n (Set home items) = codes "set" ∷ decimal n ∷ home_word home ∷ map set_item_word items

abbrev pub row_words : RowEntry → List (List ℕ)
row_words e = words_of_row e.who e.row

-- the lines of rows
abbrev pub rows_text : List RowEntry → List ℕ
rows_text rs = lines (map row_words rs)
