use Rattle.std.proofs.Common.{◌≡◌, filter, take}
use Rattle.plain_rows.specs.Views.{view_shows}
use Rattle.plain_rows.proofs.shown_rows.shown_fields.Given as goal

abbrev pub invariant-loop-field : goal.invariant-loop-field
invariant-loop-field l = l.out ≡ filter (view_shows l.table l.members l.who l.class) (take l.field-index l.field-items)
