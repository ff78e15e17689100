-- Rows while a frame is read: each as it is kept, or as it stayed when it was open before.
use Rattle.std.specs.Prelude.{ℕ, List, [], map, Option}
use Rattle.std.specs.Option.{option_map_or}
use Rattle.state_model.specs.declared.row.Row.{Row}
use Rattle.state_model.specs.declared.row.Row.TheVariants.{Struct}
use Rattle.state_model.specs.declared.row.RowEntry.{RowEntry}
use Rattle.wire_model.specs.Effect.{closed}
use Rattle.patch_decoder.specs.declared.draft.Draft.{Draft}
use Rattle.patch_decoder.specs.declared.draft.Draft.TheVariants.{Kept, Resting}

-- the row of a draft
abbrev pub row_of : Draft → Row
row_of (Kept row) = row
row_of (Resting rest) = closed rest.value

-- a draft under its number, as a row under its number
abbrev pub entry_of : ℕ × Draft → RowEntry
entry_of e = record { who = e.0; row = row_of e.1 }

-- drafts, as rows
abbrev pub entries_of : List (ℕ × Draft) → List RowEntry
entries_of es = map entry_of es

-- the row of a draft that was there, or an instance of the first class where none was
abbrev pub old_row : Option Draft → Row
old_row d = option_map_or row_of d (Struct 0 [])
