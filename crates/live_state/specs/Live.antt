-- A live state: the table of its rows now.
use Rattle.std.specs.Prelude.{ℕ, ℤ, List, map}
use Rattle.schema_model.specs.Classes.{Schema}
use Rattle.schema_model.specs.declared.place.Pair.{Pair}
use Rattle.state_model.specs.declared.row.RowEntry.{RowEntry}
use Rattle.state_model.specs.State.{swept}
use Rattle.instance_table.specs.Table.{TableState, new_table, freed_numbers}

-- a live state: its table now
pub record Live : Type 0 where
  pub table : TableState

-- the root alone
abbrev pub new_live : Schema → Live
new_live schema = record { table = new_table schema }

-- its schema, and its rows now
abbrev pub schema_of : Live → Schema
schema_of live = live.table.schema

abbrev pub rows_of : Live → List RowEntry
rows_of live = live.table.state.rows

-- a table without the rows that nothing holds, whose numbers it tells
abbrev pub swept_table : TableState → TableState
swept_table t = record { schema = t.schema; state = swept t.state; swept = freed_numbers t.state.rows }

-- these rows, each under the tag
abbrev pub pairs_of : List ℕ → ℤ → List Pair
pairs_of ns tag = map (λ n. let p : Pair = record { who = n; tag = tag } in p) ns
