use Rattle.std.proofs.Common.{◌≡◌, Some, [], length, slice_get}
use Rattle.schema_model.specs.Classes.{inherited, fields_from}
use Rattle.schema_model.proofs.lookup.find_declared.Given as goal

abbrev pub invariant-loop-class : goal.invariant-loop-class
invariant-loop-class l =
    (l.count ≡ length (inherited (fields_from [] l.classes) (Some l.number)))
    × (slice_get (inherited (fields_from [] l.classes) (Some l.fn.class)) l.index ≡ slice_get (inherited (fields_from [] l.classes) (Some l.number)) l.index)

abbrev pub decreases-loop-class : goal.decreases-loop-class
decreases-loop-class l = l.number
