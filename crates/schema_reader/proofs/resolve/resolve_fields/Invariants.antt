use Rattle.std.proofs.Common.{◌≡◌, [], map, take}
use Rattle.std.specs.List.{flat_map}
use Rattle.text_model.specs.SchemaReading.{field_of, unknown_field}
use Rattle.schema_reader.proofs.resolve.resolve_fields.Given as goal

abbrev pub invariant-loop-field : goal.invariant-loop-field
invariant-loop-field l = record {
  out : l.out ≡ map (field_of l.draft.classes) (take l.field-index l.fields);
  known : flat_map (unknown_field l.draft.classes) (take l.field-index l.fields) ≡ [];
}
