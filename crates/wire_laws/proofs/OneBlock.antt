-- What one block does to rows: those that its operations name are there, and its holder is changed.
use Rattle.std.proofs.Common.{◌≡◌, ℕ, cond, ◌==◌, List, Option, Some, None, ap, ◌∙◌, arith}
use Rattle.lists.specs.Rising.{RisesFrom}
use Rattle.lists.proofs.RisingLaws.{RisesFrom-put}
use Rattle.state_model.specs.declared.row.Row.{Row}
use Rattle.state_model.specs.declared.row.RowEntry.{RowEntry}
use Rattle.state_model.specs.Rows.{number_of, row_at}
use Rattle.wire_model.specs.Edits.{EditBlock}
use Rattle.wire_model.specs.Effect.{with_named, with_edits, edited_row, apply_block}
use Rattle.wire_laws.proofs.LinkedRows.{CarriesKinds, named_rises, row_at-put_row}

-- the rows rise where the holder's row is put
edits_rise : (b : EditBlock) (rows : List RowEntry) (o : Option Row) → RisesFrom number_of 0 rows → RisesFrom number_of 0 (with_edits b rows o)
edits_rise b rows None r = r
edits_rise b rows (Some old) r = RisesFrom-put number_of 0 (record { who = b.holder; row = edited_row b.edits old }) rows r (omega arith)

-- after a block the rows rise
pub block_rises : (b : EditBlock) (rows : List RowEntry) → RisesFrom number_of 0 rows → RisesFrom number_of 0 (apply_block rows b)
block_rises b rows r = edits_rise b (with_named b.edits rows) (row_at (with_named b.edits rows) b.holder) (named_rises b.edits rows r)

-- after a block its holder has the row that its operations made, and every other number what naming left
pub block_rows : (kinds : List RowEntry) (b : EditBlock) (rows : List RowEntry) (r : Row) (n : ℕ) → RisesFrom number_of 0 rows → CarriesKinds kinds b.edits
    → row_at (with_named b.edits rows) b.holder ≡ Some r → row_at (apply_block rows b) n ≡ cond (b.holder == n) (Some (edited_row b.edits r)) (row_at (with_named b.edits rows) n)
block_rows kinds b rows r n s c h =
    ap (λ o. row_at (with_edits b (with_named b.edits rows) o) n) h ∙ row_at-put_row b.holder (edited_row b.edits r) (with_named b.edits rows) n
