-- The new rows as they are told, by a test of what is done.
use Rattle.std.specs.Prelude.{ℕ, zero, suc, Bool, ◌||◌, ◌==◌, List, [], ◌∷◌, ◌++◌, map, Option, Some, None, if◌then◌else◌}
use Rattle.std.specs.Option.{option_map_or}
use Rattle.schema_model.specs.Classes.{Schema}
use Rattle.state_model.specs.declared.row.RowEntry.{RowEntry}
use Rattle.wire_model.specs.declared.op.Op.{Op}
use Rattle.wire_model.specs.declared.op.Block.{Block}
use Rattle.wire_model.specs.Edits.{encoded}
use Rattle.wire_model.specs.Patch.{new_edits}
use Rattle.canon_patch.specs.Names.{block_encoded, named_by_ops}

-- the first number that isn't done, and those behind it
abbrev pub next_new : (ℕ → Bool) → List ℕ → Option (ℕ × List ℕ)
next_new is_done [] = None
next_new is_done (n ∷ ns) = if is_done n then next_new is_done ns else Some (n, ns)

-- the operations of a whole new row
abbrev pub new_ops_encoded : Schema → List RowEntry → ℕ → List Op
new_ops_encoded schema new n = map encoded (new_edits schema new n)

-- the block of the next row, and then those of what is left: the row is done, and what it names goes behind the others
abbrev pub next_encoded : Schema → List RowEntry → ((ℕ → Bool) → List ℕ → List Block) → (ℕ → Bool) → ℕ × List ℕ → List Block
next_encoded schema new behind is_done next =
    block_encoded next.0 (new_ops_encoded schema new next.0)
    ++ behind (λ k. (next.0 == k) || is_done k) (next.1 ++ named_by_ops (new_ops_encoded schema new next.0))

-- the blocks of new rows, each whole, in the order in which the operations so far first name them
abbrev pub new_encoded : ℕ → Schema → List RowEntry → (ℕ → Bool) → List ℕ → List Block
new_encoded zero schema new is_done names = []
new_encoded (suc rows) schema new is_done names = option_map_or (next_encoded schema new (new_encoded rows schema new) is_done) (next_new is_done names) []
