use Rattle.std.proofs.Common.{◌≡◌, ◌∷◌, ◌++◌, map, take}
use Rattle.text_model.specs.SchemaLines.{ClassLine, field_line, parent_name}
use Rattle.schema_reader.proofs.Writes.{text_of}
use Rattle.schema_reader.proofs.write.append_lines.Given as goal

abbrev pub invariant-loop-field : goal.invariant-loop-field
invariant-loop-field l =
    l.out.items ≡ l.fn.out.items ++ text_of (ClassLine l.class.name (parent_name l.classes l.class.parent) ∷ map (field_line l.classes) (take l.field-index l.class.own))
