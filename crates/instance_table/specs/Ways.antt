-- Walks from row to row along links, or back along holders.
use Rattle.std.specs.Prelude.{◌≡◌, ℕ, ◌+◌, ◌<◌, ◌≤◌, Bool, false, not, List, [], ◌∷◌, ◌++◌, filter, length, map, Option, Some, None, if◌then◌else◌}
use Rattle.schema_model.specs.declared.value.Value.TheVariants as value
use Rattle.state_model.specs.declared.row.Row.TheVariants as row
use Rattle.state_model.specs.declared.row.RowEntry.{RowEntry}
use Rattle.state_model.specs.Reached.{is_among, reached}
use Rattle.plain_rows.specs.Links.{links_where}
use Rattle.plain_rows.proofs.Walks.{Walked}
use Rattle.instance_table.specs.declared.node.Node.{Node}
use Rattle.instance_table.specs.declared.way.Way.{Way}
use Rattle.instance_table.specs.declared.way.Way.TheVariants.{Links, Holders}
use Rattle.instance_table.specs.Nodes.{rows_in}

-- a row that holds the holders of another
abbrev pub back_row : ℕ × Node → RowEntry
back_row e = record { who = e.0; row = row.Array (record { class = 0; field = 0 }) (map value.Link e.1.holders) }

-- the rows, each of which holds those to which a way leads on
abbrev pub rows_along : Way → List (ℕ × Node) → List RowEntry
rows_along Links es = rows_in es
rows_along Holders es = map back_row es

-- how much a walk has to do at most
abbrev pub left_of : List RowEntry → List ℕ → List ℕ → ℕ
left_of rows seen waiting = length waiting + links_where (λ k. not (is_among k seen)) rows

-- after a turn of a walk from a start the walk goes on, with less to do, or it is known whether the end is reached
abbrev pub IsTurned : List RowEntry → ℕ → ℕ → ℕ → List ℕ → List ℕ → Option Bool → Type 0
IsTurned rows start end left seen waiting None = Walked rows start seen waiting × (is_among end seen ≡ false) × (left_of rows seen waiting < left)
IsTurned rows start end left seen waiting (Some found) = found ≡ is_among end (reached rows start)

-- ---- a walk in one list

-- the numbers, and behind them those of others that aren't among them, each once
abbrev pub with_each : List ℕ → List ℕ → List ℕ
with_each ns [] = ns
with_each ns (m ∷ ms) = with_each (if is_among m ns then ns else ns ++ m ∷ []) ms

-- the numbers are no more than the nodes that have them
abbrev pub AreFew : List (ℕ × Node) → List ℕ → Type 0
AreFew es ns = length ns + length (filter (λ e. not (is_among e.0 ns)) es) ≤ length es
