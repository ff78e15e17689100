-- Pairs of rows that are there. Ours.
use Rattle.std.specs.Prelude.{ℕ, Bool, not, List, filter}
use Rattle.std.specs.List.{list_all}
use Rattle.schema_model.specs.declared.place.Pair.{Pair}
use Rattle.state_model.specs.declared.row.RowEntry.{RowEntry}
use Rattle.state_model.specs.Reached.{is_among}
use Rattle.state_model.specs.Rows.{is_live}
use Rattle.state_model.specs.Members.{Members}

-- each pair is of a row that is there
abbrev pub are_there : List RowEntry → List Pair → Bool
are_there rows ps = list_all (λ (p : Pair). is_live rows p.who) ps

-- the members without the pairs of these rows
abbrev pub without_rows : List ℕ → Members → Members
without_rows ns m = record { now = filter (λ (p : Pair). not (is_among p.who ns)) m.now; last = m.last; kept = m.kept }
