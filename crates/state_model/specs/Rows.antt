-- Rows by their numbers, the values in a row, and a row without its places.
use Rattle.std.specs.Prelude.{ℕ, ◌+◌, Bool, List, [], ◌∷◌, length, map, Option, filter, sum_by, ◌==◌}
use Rattle.std.specs.List.{flat_map, list_any}
use Rattle.std.specs.Option.{option_map}
use Rattle.lists.specs.Rising as rising
use Rattle.schema_model.specs.declared.value.Value.{Value}
use Rattle.schema_model.specs.Classes.{Schema}
use Rattle.state_model.specs.declared.row.Row.{Row}
use Rattle.state_model.specs.declared.row.Row.TheVariants.{Struct, Map, Array, Set}
use Rattle.state_model.specs.declared.row.RowEntry.{RowEntry}
use Rattle.state_model.specs.declared.row.FieldValue.{FieldValue}
use Rattle.state_model.specs.declared.row.MapItem.{MapItem}
use Rattle.state_model.specs.declared.row.SetItem.{SetItem}
use Rattle.state_model.specs.Values.{held_by, text_size}

-- the number of a row
abbrev pub number_of : RowEntry → ℕ
number_of e = e.who

-- the numbers of rows
abbrev pub numbers_of : List RowEntry → List ℕ
numbers_of rows = map number_of rows

-- the row of a number
abbrev pub row_at : List RowEntry → ℕ → Option Row
row_at rows n = option_map (λ (e : RowEntry). e.row) (rising.find number_of n rows)

-- there is a row of this number
abbrev pub is_live : List RowEntry → ℕ → Bool
is_live rows n = list_any (λ (e : RowEntry). e.who == n) rows

-- the values in a row's places, rising by field, item number or position
abbrev pub values_in : Row → List Value
values_in (Struct class fields) = map (λ (f : FieldValue). f.value) fields
values_in (Map home items) = map (λ (i : MapItem). i.value) items
values_in (Array home values) = values
values_in (Set home items) = map (λ (i : SetItem). i.value) items

-- the numbers of the rows that a row holds
abbrev pub held_in : Row → List ℕ
held_in row = flat_map held_by (values_in row)

-- the rows of these numbers
abbrev pub rows_of : List ℕ → List RowEntry → List RowEntry
rows_of ns rows = filter (λ (e : RowEntry). list_any (λ n. n == e.who) ns) rows

-- how many places the rows have
abbrev pub place_count : List RowEntry → ℕ
place_count rows = sum_by (λ (e : RowEntry). length (values_in e.row)) rows

-- how many bytes the keys of a row are
abbrev pub key_bytes : Row → ℕ
key_bytes (Map home items) = sum_by (λ (i : MapItem). length i.key) items
key_bytes row = 0

-- how many bytes the text values and map keys of the rows are
abbrev pub text_bytes_of : List RowEntry → ℕ
text_bytes_of rows = sum_by (λ (e : RowEntry). key_bytes e.row + sum_by text_size (values_in e.row)) rows

-- a row without its places, which says of what kind it is
abbrev pub emptied : Row → Row
emptied (Struct class fields) = Struct class []
emptied (Map home items) = Map home []
emptied (Array home values) = Array home []
emptied (Set home items) = Set home []

-- the rows, each without its places
abbrev pub kinds_of : List RowEntry → List RowEntry
kinds_of rows = map (λ (e : RowEntry). let k : RowEntry = record { who = e.who; row = emptied e.row } in k) rows

-- the rows with this row in place of the one of its number
abbrev pub put_row : ℕ → Row → List RowEntry → List RowEntry
put_row n row rows = rising.put number_of (record { who = n; row = row }) rows

-- the root alone: row 0, of the root class, without fields
abbrev pub root_alone : Schema → List RowEntry
root_alone schema = record { who = 0; row = Struct schema.root [] } ∷ []
