-- What was written of blocks is read again.
use Rattle.std.proofs.Common.{◌≡◌, ℕ, Bool, true, List, ◌++◌, length, drop, Result, Ok, Err, OnOk, ap, sym, subst, ◌∙◌}
use Rattle.std.proofs.Math.Seq.{drop-append_seam}
use Rattle.schema_model.specs.Classes.{Schema}
use Rattle.state_model.specs.declared.row.RowEntry.{RowEntry}
use Rattle.state_model.specs.Rows.{kinds_of}
use Rattle.wire_model.specs.declared.op.Block.{Block}
use Rattle.wire_model.specs.Grammar.{read_blocks}
use Rattle.wire_model.specs.Resolved.{resolved_blocks}
use Rattle.wire_model.specs.OpBytes.{block_bytes}
use Rattle.block_laws.specs.Writable.{are_writable}
use Rattle.block_laws.specs.Fitting.{BlocksFit, ReadAs, found_blocks}
use Rattle.block_laws.proofs.BlocksRead.{blocks_read_again}

-- what was appended to bytes
pub written_again : {T E : Type 0} (r : Result T E) (before after : List ℕ) (blocks : List Block) (bare : Bool) → are_writable blocks ≡ true → OnOk r (after ≡ before ++ block_bytes blocks bare)
    → OnOk r ((schema : Schema) (rows : List RowEntry) → BlocksFit schema (kinds_of rows) blocks
    → ReadAs (read_blocks schema rows (drop (length before) after)) (found_blocks bare (resolved_blocks schema (kinds_of rows) blocks)))
written_again (Ok x) before after blocks bare writable is = λ schema rows fit.
    let appended : drop (length before) after ≡ block_bytes blocks bare = ap (drop (length before)) is ∙ drop-append_seam before (block_bytes blocks bare) in
    subst (λ bytes. ReadAs (read_blocks schema rows bytes) (found_blocks bare (resolved_blocks schema (kinds_of rows) blocks))) (sym appended) (blocks_read_again schema rows blocks bare writable fit)
written_again (Err e) before after blocks bare writable is = is
