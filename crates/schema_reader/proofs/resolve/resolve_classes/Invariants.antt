use Rattle.std.proofs.Common.{◌≡◌, [], map, take}
use Rattle.std.specs.List.{flat_map}
use Rattle.text_model.specs.SchemaReading.{class_of, unknown_field}
use Rattle.text_model.specs.declared.draft.DraftClass.{DraftClass}
use Rattle.schema_reader.proofs.resolve.resolve_classes.Given as goal

abbrev pub invariant-loop-class : goal.invariant-loop-class
invariant-loop-class l = record {
  out : l.out ≡ map (class_of l.draft.classes) (take l.class-index l.classes);
  known : flat_map (λ (c : DraftClass). flat_map (unknown_field l.draft.classes) c.own) (take l.class-index l.classes) ≡ [];
}
