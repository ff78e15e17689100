-- The state frame: what a client is sent of a tick. The form is after Colyseus 0.16, the choice of operations is ours.
use Rattle.std.specs.Prelude.{Bool, true, false, not, ◌||◌, List, [], ◌∷◌, ◌++◌, ℕ}
use Rattle.schema_model.specs.Classes.{Schema}
use Rattle.state_model.specs.declared.row.RowEntry.{RowEntry}
use Rattle.state_model.specs.Rows.{root_alone}
use Rattle.wire_model.specs.declared.op.Block.{Block}
use Rattle.wire_model.specs.Edits.{EditBlock, encoded_blocks}
use Rattle.wire_model.specs.OpBytes.{block_bytes}
use Rattle.wire_model.specs.Effect.{apply_edits}
use Rattle.wire_model.specs.Patch.{patch_edits}

-- the patch as it is told: the blocks that are written
abbrev pub patch : Schema → List RowEntry → List RowEntry → List Block
patch schema old new = encoded_blocks (patch_edits schema old new)

-- the shared part: the patch between the shared rows of two ticks
abbrev pub shared_part : Schema → List RowEntry → List RowEntry → List EditBlock
shared_part schema shared0 shared1 = patch_edits schema shared0 shared1

-- the view part: the patch to a client's permitted rows from what the shared part leaves of its old ones
abbrev pub view_part : Schema → List RowEntry → List RowEntry → List RowEntry → List RowEntry → List EditBlock
view_part schema shared0 permitted0 shared1 permitted1 =
    patch_edits schema (apply_edits (shared_part schema shared0 shared1) permitted0) permitted1

-- the state bytes of a tick: the shared part, whose first block of the root has no switch, and the view part
abbrev pub state_frame : Schema → List RowEntry → List RowEntry → List RowEntry → List RowEntry → List ℕ
state_frame schema shared0 permitted0 shared1 permitted1 =
    block_bytes (encoded_blocks (shared_part schema shared0 shared1)) true
    ++ block_bytes (encoded_blocks (view_part schema shared0 permitted0 shared1 permitted1)) false

-- there are no blocks
abbrev pub is_blank : List EditBlock → Bool
is_blank [] = true
is_blank (b ∷ bs) = false

-- the frame has an operation
abbrev pub has_operation : Schema → List RowEntry → List RowEntry → List RowEntry → List RowEntry → Bool
has_operation schema shared0 permitted0 shared1 permitted1 =
    not (is_blank (shared_part schema shared0 shared1)) || not (is_blank (view_part schema shared0 permitted0 shared1 permitted1))

-- the state bytes of a full state: from the root alone
abbrev pub full_state : Schema → List RowEntry → List RowEntry → List ℕ
full_state schema shared1 permitted1 = state_frame schema (root_alone schema) (root_alone schema) shared1 permitted1
