-- Sums over rows of which one was put or taken out: places and text.
use Rattle.std.proofs.Common.{◌≡◌, ℕ, ◌+◌, List, length, Option, Some, None, ap, ◌∙◌, arith}
use Rattle.std.specs.List.{sum_by}
use Rattle.std.specs.Option.{option_map_or}
use Rattle.lists.specs.Rising.{RisesFrom, find, remove}
use Rattle.state_model.specs.declared.row.Row.{Row}
use Rattle.state_model.specs.declared.row.RowEntry.{RowEntry}
use Rattle.state_model.specs.Rows.{number_of, row_at, values_in, place_count, text_bytes_of, put_row}
use Rattle.state_laws.proofs.Numbers.{entry}
use Rattle.command_laws.specs.Accounts.{row_text}
use Rattle.command_laws.proofs.ListSums.{weight-map, sum_by-put, sum_by-remove_key}

-- the row of an entry
abbrev row_of : RowEntry → Row
row_of e = e.row

-- a sum over rows gains the row that is put, and loses the row that stood at its number
pub put_row_sum : (w : Row → ℕ) (rows : List RowEntry) (r : ℕ) (other : Row) → RisesFrom number_of 0 rows
    → sum_by (λ (e : RowEntry). w e.row) (put_row r other rows) + option_map_or w (row_at rows r) 0 ≡ sum_by (λ (e : RowEntry). w e.row) rows + w other
put_row_sum w rows r other rise =
    ap (λ n. sum_by (λ (e : RowEntry). w e.row) (put_row r other rows) + n) (weight-map w row_of (find number_of r rows)) ∙ sum_by-put number_of (λ e. w (row_of e)) 0 (entry r other) rows rise

-- a sum over rows loses the row that is taken out
pub removed_row_sum : (w : Row → ℕ) (rows : List RowEntry) (r : ℕ) → RisesFrom number_of 0 rows
    → sum_by (λ (e : RowEntry). w e.row) (remove number_of r rows) + option_map_or w (row_at rows r) 0 ≡ sum_by (λ (e : RowEntry). w e.row) rows
removed_row_sum w rows r rise =
    ap (λ n. sum_by (λ (e : RowEntry). w e.row) (remove number_of r rows) + n) (weight-map w row_of (find number_of r rows)) ∙ sum_by-remove_key number_of (λ e. w (row_of e)) 0 r rows rise

-- how many places a row has
abbrev places_in : Row → ℕ
places_in row = length (values_in row)

-- the weight of a row that is known to stand, or not to
weight_at : (w : Row → ℕ) (o p : Option Row) → o ≡ p → option_map_or w o 0 ≡ option_map_or w p 0
weight_at w o p h = ap (λ q. option_map_or w q 0) h

-- a row in place of one that stood

pub put_row_places : (rows : List RowEntry) (r : ℕ) (row other : Row) → RisesFrom number_of 0 rows → row_at rows r ≡ Some row
    → place_count (put_row r other rows) + length (values_in row) ≡ place_count rows + length (values_in other)
put_row_places rows r row other rise h = omega (arith, put_row_sum places_in rows r other rise, weight_at places_in (row_at rows r) (Some row) h)

pub put_row_text : (rows : List RowEntry) (r : ℕ) (row other : Row) → RisesFrom number_of 0 rows → row_at rows r ≡ Some row
    → text_bytes_of (put_row r other rows) + row_text row ≡ text_bytes_of rows + row_text other
put_row_text rows r row other rise h = omega (arith, put_row_sum row_text rows r other rise, weight_at row_text (row_at rows r) (Some row) h)

-- a row at a number where none stood

pub new_row_places : (rows : List RowEntry) (r : ℕ) (other : Row) → RisesFrom number_of 0 rows → row_at rows r ≡ None → place_count (put_row r other rows) ≡ place_count rows + length (values_in other)
new_row_places rows r other rise h = omega (arith, put_row_sum places_in rows r other rise, weight_at places_in (row_at rows r) None h)

pub new_row_text : (rows : List RowEntry) (r : ℕ) (other : Row) → RisesFrom number_of 0 rows → row_at rows r ≡ None → text_bytes_of (put_row r other rows) ≡ text_bytes_of rows + row_text other
new_row_text rows r other rise h = omega (arith, put_row_sum row_text rows r other rise, weight_at row_text (row_at rows r) None h)

-- a row taken out

pub removed_row_places : (rows : List RowEntry) (r : ℕ) (row : Row) → RisesFrom number_of 0 rows → row_at rows r ≡ Some row → place_count (remove number_of r rows) + length (values_in row) ≡ place_count rows
removed_row_places rows r row rise h = omega (arith, removed_row_sum places_in rows r rise, weight_at places_in (row_at rows r) (Some row) h)

pub removed_row_text : (rows : List RowEntry) (r : ℕ) (row : Row) → RisesFrom number_of 0 rows → row_at rows r ≡ Some row → text_bytes_of (remove number_of r rows) + row_text row ≡ text_bytes_of rows
removed_row_text rows r row rise h = omega (arith, removed_row_sum row_text rows r rise, weight_at row_text (row_at rows r) (Some row) h)
