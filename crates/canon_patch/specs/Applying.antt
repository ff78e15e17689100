-- What a block means against the rows at hand, and the rows that its operations link to.
use Rattle.std.specs.Prelude.{List, [], ◌∷◌, Option, Some, None, if◌then◌else◌}
use Rattle.std.specs.Option.{option_map_or}
use Rattle.schema_model.specs.Classes.{Schema}
use Rattle.state_model.specs.declared.row.Row.{Row}
use Rattle.state_model.specs.declared.row.RowEntry.{RowEntry}
use Rattle.state_model.specs.Rows.{kinds_of, is_live, put_row}
use Rattle.wire_model.specs.declared.op.Op.{Op}
use Rattle.wire_model.specs.declared.op.Block.{Block}
use Rattle.wire_model.specs.Edits.{EditBlock}
use Rattle.wire_model.specs.Effect.{carried_by, with_linked}
use Rattle.wire_model.specs.Grammar.{resolved}
use Rattle.wire_model.specs.Resolved.{holder_kind, resolved_ops}

-- a block with what its links lead to, against the rows at hand
abbrev pub meant : Schema → List RowEntry → Block → EditBlock
meant schema rows b =
    record { holder = b.holder; edits = resolved_ops schema (holder_kind (kinds_of rows) b.holder) (kinds_of rows) b.ops }

-- the rows with the one that an operation links to
abbrev pub with_link : Schema → Row → Op → List RowEntry → List RowEntry
with_link schema holder o rows =
    option_map_or (λ v. with_linked v rows) (carried_by (resolved schema (kinds_of rows) holder o)) rows

-- the rows with this one, where there is none of its number
abbrev pub with_row : Option RowEntry → List RowEntry → List RowEntry
with_row None rows = rows
with_row (Some e) rows = if is_live rows e.who then rows else put_row e.who e.row rows

-- the rows with those that operations link to, one behind another
abbrev pub with_links : Schema → Row → List Op → List RowEntry → List RowEntry
with_links schema holder [] rows = rows
with_links schema holder (o ∷ os) rows = with_links schema holder os (with_link schema holder o rows)
