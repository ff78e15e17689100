-- What blocks mean against the rows known so far, and what they make of rows. The same as reading makes of their bytes.
use Rattle.std.specs.Prelude.{ℕ, List, [], ◌∷◌}
use Rattle.std.specs.Option.{option_map_or}
use Rattle.schema_model.specs.Classes.{Schema}
use Rattle.state_model.specs.declared.row.Row.{Row}
use Rattle.state_model.specs.declared.row.Row.TheVariants as row
use Rattle.state_model.specs.declared.row.RowEntry.{RowEntry}
use Rattle.state_model.specs.Rows.{row_at, kinds_of}
use Rattle.wire_model.specs.declared.op.Op.{Op}
use Rattle.wire_model.specs.declared.op.Block.{Block}
use Rattle.wire_model.specs.Edits.{Edit, EditBlock}
use Rattle.wire_model.specs.Effect.{apply_edits}
use Rattle.wire_model.specs.Grammar.{resolved, known_after}

-- what a holder is known to be
abbrev pub holder_kind : List RowEntry → ℕ → Row
holder_kind known n = option_map_or (λ r. r) (row_at known n) (row.Struct 0 [])

-- a holder's operations with what their links lead to; each makes its link known to those behind it
abbrev pub resolved_ops : Schema → Row → List RowEntry → List Op → List Edit
resolved_ops schema holder known [] = []
resolved_ops schema holder known (o ∷ os) =
    resolved schema known holder o ∷ resolved_ops schema holder (known_after (resolved schema known holder o) known) os

-- the rows known behind a holder's operations
abbrev pub known_behind : Schema → Row → List RowEntry → List Op → List RowEntry
known_behind schema holder known [] = known
known_behind schema holder known (o ∷ os) = known_behind schema holder (known_after (resolved schema known holder o) known) os

-- blocks with what their links lead to
abbrev pub resolved_blocks : Schema → List RowEntry → List Block → List EditBlock
resolved_blocks schema known [] = []
resolved_blocks schema known (b ∷ bs) =
    record { holder = b.holder; edits = resolved_ops schema (holder_kind known b.holder) known b.ops }
    ∷ resolved_blocks schema (known_behind schema (holder_kind known b.holder) known b.ops) bs

-- the rows after blocks; nothing is freed
abbrev pub applied : Schema → List RowEntry → List Block → List RowEntry
applied schema rows blocks = apply_edits (resolved_blocks schema (kinds_of rows) blocks) rows
