use Rattle.std.proofs.Common.{◌≡◌, filter, take}
use Rattle.plain_rows.specs.Views.{view_shows_item}
use Rattle.plain_rows.proofs.shown_rows.shown_values.Given as goal

abbrev pub invariant-loop-value : goal.invariant-loop-value
invariant-loop-value l = l.out ≡ filter (view_shows_item l.members l.who l.home) (take l.value-index l.value-items)
