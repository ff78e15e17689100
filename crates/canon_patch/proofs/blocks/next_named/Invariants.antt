use Rattle.std.proofs.Common.{◌≡◌, ◌||◌, drop}
use Rattle.std.specs.Prelude.{is_some}
use Rattle.state_model.specs.Reached.{is_among}
use Rattle.state_model.specs.Rows.{row_at}
use Rattle.canon_patch.specs.NewRows.{next_new}
use Rattle.canon_patch.proofs.blocks.next_named.Given as goal

-- all so far are done
abbrev pub invariant-loop-at : goal.invariant-loop-at
invariant-loop-at l =
    next_new (λ k. is_some (row_at l.old k) || is_among k l.done) (drop l.from l.names)
    ≡ next_new (λ k. is_some (row_at l.old k) || is_among k l.done) (drop l.at l.names)
