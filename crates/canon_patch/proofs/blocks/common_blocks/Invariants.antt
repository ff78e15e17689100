use Rattle.std.proofs.Common.{◌≡◌, take}
use Rattle.std.specs.List.{flat_map}
use Rattle.state_model.specs.declared.row.RowEntry.{RowEntry}
use Rattle.state_model.specs.Rows.{row_at}
use Rattle.wire_model.specs.Edits.{encoded_blocks}
use Rattle.wire_model.specs.Patch.{common_block}
use Rattle.canon_patch.proofs.blocks.common_blocks.Given as goal

-- the blocks so far
abbrev pub invariant-loop-entry : goal.invariant-loop-entry
invariant-loop-entry l = l.blocks ≡ encoded_blocks (flat_map (λ (e : RowEntry). common_block l.to.schema.now l.to.rows.now e (row_at l.old e.who)) (take l.entry-index l.entry-items))
