-- What is held by the items of a row, and by the row of a number.
use Rattle.std.specs.Prelude.{ℕ, Bool, cond, List, [], length, map, sum_by}
use Rattle.std.specs.List.{flat_map}
use Rattle.std.specs.Option.{option_map_or}
use Rattle.schema_model.specs.declared.value.Value.{Value}
use Rattle.state_model.specs.declared.row.FieldValue.{FieldValue}
use Rattle.state_model.specs.declared.row.MapItem.{MapItem}
use Rattle.state_model.specs.declared.row.SetItem.{SetItem}
use Rattle.state_model.specs.declared.row.RowEntry.{RowEntry}
use Rattle.state_model.specs.Values.{held_by}
use Rattle.state_model.specs.Rows.{held_in, row_at}

-- the numbers that values hold
abbrev pub held_in_values : List Value → List ℕ
held_in_values values = flat_map held_by values

-- the numbers that fields hold
abbrev pub held_in_fields : List FieldValue → List ℕ
held_in_fields fields = held_in_values (map (λ (f : FieldValue). f.value) fields)

-- the numbers that items of a map hold
abbrev pub held_in_map : List MapItem → List ℕ
held_in_map items = held_in_values (map (λ (i : MapItem). i.value) items)

-- the numbers that items of a set hold
abbrev pub held_in_set : List SetItem → List ℕ
held_in_set items = held_in_values (map (λ (i : SetItem). i.value) items)

-- the numbers that the row of a number holds
abbrev pub held_at : List RowEntry → ℕ → List ℕ
held_at rows n = option_map_or held_in (row_at rows n) []

-- how many links the rows hold whose numbers pass
abbrev pub links_where : (ℕ → Bool) → List RowEntry → ℕ
links_where passes rows = sum_by (λ (e : RowEntry). cond (passes e.who) (length (held_in e.row)) 0) rows
