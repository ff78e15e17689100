use Rattle.std.proofs.Common.{◌≡◌, take}
use Rattle.plain_rows.specs.Views.{view_rows}
use Rattle.plain_rows.proofs.shown_rows.rows_by_table.Given as goal

abbrev pub invariant-loop-entry : goal.invariant-loop-entry
invariant-loop-entry l = l.out ≡ view_rows l.table l.members (take l.entry-index l.entry-items)
