use Rattle.std.proofs.Common.{◌≡◌, ◌++◌, take}
use Rattle.plain_rows.specs.Links.{held_in_fields}
use Rattle.plain_rows.proofs.links.add_field_links.Given as goal

abbrev pub invariant-loop-field : goal.invariant-loop-field
invariant-loop-field l = l.links.items ≡ l.initial.links.items ++ held_in_fields (take l.field-index l.fields)
