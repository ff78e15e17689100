-- Rows whose numbers, keys and texts have bytes, as those of every table.
use Rattle.std.specs.Prelude.{ℕ, ◌^◌, Bool, ◌&&◌, List, length, nat_lt, nat_le}
use Rattle.std.specs.List.{list_all}
use Rattle.std.specs.Str.{is_utf8}
use Rattle.schema_model.specs.Fits.{is_worded}
use Rattle.schema_model.specs.declared.value.Value.{Value}
use Rattle.schema_model.specs.declared.value.Value.TheVariants as value
use Rattle.state_model.specs.declared.row.Row.{Row}
use Rattle.state_model.specs.declared.row.Row.TheVariants as row
use Rattle.state_model.specs.declared.row.RowEntry.{RowEntry}
use Rattle.state_model.specs.declared.row.FieldValue.{FieldValue}
use Rattle.state_model.specs.declared.row.MapItem.{MapItem}
use Rattle.state_model.specs.declared.row.SetItem.{SetItem}

-- a reference, type, item or position number is at most 2147483647
abbrev pub is_count : ℕ → Bool
is_count n = nat_lt n (2 ^ 31)

-- a text is UTF-8, and a link leads to such a number
abbrev pub is_spelled_value : Value → Bool
is_spelled_value (value.Link n) = is_count n
is_spelled_value v = is_worded v

-- a key is UTF-8 and shorter than 2^32 bytes
abbrev pub is_spelled_key : List ℕ → Bool
is_spelled_key key = is_utf8 key && nat_lt (length key) (2 ^ 32)

-- item numbers and positions are at most 2147483647
abbrev pub is_spelled_row : Row → Bool
is_spelled_row (row.Struct class fields) = list_all (λ (f : FieldValue). is_spelled_value f.value) fields
is_spelled_row (row.Map home items) = list_all (λ (i : MapItem). is_count i.number && (is_spelled_key i.key && is_spelled_value i.value)) items
is_spelled_row (row.Array home values) = nat_le (length values) (2 ^ 31) && list_all is_spelled_value values
is_spelled_row (row.Set home items) = list_all (λ (i : SetItem). is_count i.number && is_spelled_value i.value) items

-- rows with their numbers
abbrev pub are_spelled : List RowEntry → Bool
are_spelled rows = list_all (λ (e : RowEntry). is_count e.who && is_spelled_row e.row) rows
