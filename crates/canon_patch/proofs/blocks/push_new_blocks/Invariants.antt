use Rattle.std.proofs.Common.{◌≡◌, ◌++◌, ◌-◌, ◌≤◌, ◌||◌, [], length, drop}
use Rattle.std.specs.Prelude.{is_some}
use Rattle.state_model.specs.Reached.{is_among}
use Rattle.state_model.specs.Rows.{row_at}
use Rattle.canon_patch.specs.NewRows.{new_encoded}
use Rattle.canon_patch.proofs.blocks.push_new_blocks.Given as goal

-- the place lies within the names; the blocks so far, and those of what is left
abbrev pub invariant-loop : goal.invariant-loop
invariant-loop l = record {
  within : l.at ≤ length l.names.items;
  encoded :
      l.blocks ++ new_encoded (length l.to.rows.now - l.counter) l.to.schema.now l.to.rows.now (λ k. is_some (row_at l.old k) || is_among k l.done) (drop l.at l.names.items)
      ≡ l.fn.blocks ++ new_encoded (length l.to.rows.now) l.to.schema.now l.to.rows.now (λ k. is_some (row_at l.old k) || is_among k []) l.fn.names.items;
}
