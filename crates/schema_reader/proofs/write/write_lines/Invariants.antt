use Rattle.std.proofs.Common.{◌≡◌, take}
use Rattle.std.specs.List.{flat_map}
use Rattle.text_model.specs.SchemaLines.{class_lines}
use Rattle.schema_reader.proofs.Writes.{text_of}
use Rattle.schema_reader.proofs.write.write_lines.Given as goal

abbrev pub invariant-loop-class : goal.invariant-loop-class
invariant-loop-class l = l.out.items ≡ text_of (flat_map (class_lines l.classes) (take l.class-index l.classes))
