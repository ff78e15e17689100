use Rattle.std.proofs.Common.{◌≡◌, take}
use Rattle.view_edits.specs.There.{without_rows}
use Rattle.view_edits.proofs.edits.forget_freed.Given as goal

-- the pairs of the rows so far are gone
abbrev pub invariant-loop-who : goal.invariant-loop-who
invariant-loop-who l = l.members ≡ without_rows (take l.who-index l.who-items) l.fn.members
