-- The law of reading again: what is written of blocks is read as these blocks.
use Rattle.std.specs.Prelude.{◌≡◌, Bool, true, List}
use Rattle.schema_model.specs.Classes.{Schema}
use Rattle.state_model.specs.declared.row.RowEntry.{RowEntry}
use Rattle.state_model.specs.Rows.{kinds_of}
use Rattle.wire_model.specs.declared.op.Block.{Block}
use Rattle.wire_model.specs.Grammar.{read_blocks}
use Rattle.wire_model.specs.Resolved.{resolved_blocks}
use Rattle.wire_model.specs.OpBytes.{block_bytes}
use Rattle.block_laws.specs.Writable.{are_writable}
use Rattle.block_laws.specs.Fitting.{BlocksFit, ReadAs, found_blocks}

-- the bytes of blocks that fit the kinds of the rows known are read as these blocks, with what their links lead to
abbrev pub BlocksReadAgain : Type 0
BlocksReadAgain = (schema : Schema) (rows : List RowEntry) (bs : List Block) (bare : Bool) → are_writable bs ≡ true → BlocksFit schema (kinds_of rows) bs
    → ReadAs (read_blocks schema rows (block_bytes bs bare)) (found_blocks bare (resolved_blocks schema (kinds_of rows) bs))
