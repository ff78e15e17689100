use Rattle.std.proofs.Common.{◌≡◌, ◌++◌, length, map, take}
use Rattle.plain_rows.specs.Views.{view_inherited, own_view_field}
use Rattle.plain_rows.proofs.field_table.next_fields.Given as goal

abbrev pub invariant-loop-field : goal.invariant-loop-field
invariant-loop-field l = l.fields ≡ view_inherited l.earlier l.class.parent ++ map (own_view_field (length l.earlier)) (take l.field-index l.field-items)
