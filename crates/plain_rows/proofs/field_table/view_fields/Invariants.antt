use Rattle.std.proofs.Common.{◌≡◌, [], drop}
use Rattle.plain_rows.specs.Views.{view_fields_from}
use Rattle.plain_rows.proofs.field_table.view_fields.Given as goal

abbrev pub invariant-loop-class : goal.invariant-loop-class
invariant-loop-class l = view_fields_from l.table (drop l.class-index l.class-items) ≡ view_fields_from [] l.class-items
