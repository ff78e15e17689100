-- What is behind a row: the numbers to which a view edit goes from it, and the places that are looked at. Ours.
use Rattle.std.specs.Prelude.{ℕ, ◌+◌, ◌<◌, ◌⊎◌, true, List, [], length, Option, Some, None, ℤ, if◌then◌else◌}
use Rattle.std.specs.Option.{option_map_or}
use Rattle.schema_model.specs.Classes.{Schema}
use Rattle.state_model.specs.declared.row.RowEntry.{RowEntry}
use Rattle.state_model.specs.declared.row.FieldValue.{FieldValue}
use Rattle.state_model.specs.Members.{leads_on, rows_through}
use Rattle.state_model.specs.Places.{tag_of}
use Rattle.state_model.specs.Reached.{reached}
use Rattle.state_model.specs.Rows.{is_live, place_count, row_at, rows_of, values_in}
use Rattle.state_model.specs.Values.{held_by}
use Rattle.plain_rows.specs.Links.{links_where}

-- the number of a row and every number that is reached from it through places that lead on for a tag
-- None where the row isn't live
abbrev pub numbers_behind : Schema → List RowEntry → ℕ → ℤ → Option (List ℕ)
numbers_behind schema rows who tag =
    if is_live rows who then Some (reached (rows_through schema tag rows) who) else None

-- how many places the rows of these numbers have, those that lead on and the others
abbrev pub places_behind : Schema → List RowEntry → ℕ → ℤ → ℕ
places_behind schema rows who tag =
    if is_live rows who then place_count (rows_of (reached (rows_through schema tag rows) who) rows) else 0

-- ---- on the way

-- the numbers that a field of an instance holds, where the field leads on
abbrev pub held_through : Schema → ℤ → ℕ → FieldValue → List ℕ
held_through schema tag class f = if leads_on tag (tag_of schema class f.field) then held_by f.value else []

-- how many places the row of a number has
abbrev pub places_at : List RowEntry → ℕ → ℕ
places_at rows n = option_map_or (λ r. length (values_in r)) (row_at rows n) 0

-- a walk from a number isn't sure of room: for so many as it may see, or for so many as may wait
abbrev pub LacksRoom : ℕ → ℕ → List RowEntry → ℕ → Type 0
LacksRoom sure_seen sure_waiting rows from = (sure_seen < length (reached rows from)) ⊎ (sure_waiting < 1 + links_where (λ k. true) rows)
