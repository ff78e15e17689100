use Rattle.std.proofs.Common.{◌≡◌, true, take}
use Rattle.std.specs.List.{list_all}
use Rattle.plain_rows.proofs.HeldRows.{is_held_by}
use Rattle.plain_rows.proofs.freed_rows.are_held.Given as goal

-- those so far are
abbrev pub invariant-loop-entry : goal.invariant-loop-entry
invariant-loop-entry l = list_all (is_held_by l.held) (take l.entry-index l.entry-items) ≡ true
