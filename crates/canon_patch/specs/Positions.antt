-- Arrays whose positions have numbers.
use Rattle.std.specs.Prelude.{Bool, true, ◌&&◌, List, Option, Some, None}
use Rattle.std.specs.List.{list_all}
use Rattle.schema_model.specs.Classes.{Schema}
use Rattle.state_model.specs.declared.row.Row.{Row}
use Rattle.state_model.specs.declared.row.Row.TheVariants.{Array}
use Rattle.state_model.specs.declared.row.RowEntry.{RowEntry}
use Rattle.state_model.specs.Rows.{row_at}
use Rattle.wire_model.specs.Patch.{is_short}

-- an array that goes by position had and has no more values than there are positions
abbrev pub has_positions : Schema → Row → Row → Bool
has_positions schema (Array a old) (Array b new) = is_short schema (Array b old) && is_short schema (Array b new)
has_positions schema old new = true

-- a row that is new is short, and one that was there has positions for what it was and is
abbrev pub may_lead : Schema → Row → Option Row → Bool
may_lead schema new None = is_short schema new
may_lead schema new (Some old) = has_positions schema old new

-- each row that a patch leads to is so
abbrev pub have_positions : Schema → List RowEntry → List RowEntry → Bool
have_positions schema old new = list_all (λ (e : RowEntry). may_lead schema e.row (row_at old e.who)) new
