use Rattle.std.proofs.Common.{◌≡◌}
use Rattle.script_model.specs.Scenes.{field_named}
use Rattle.script_model.proofs.FieldNames.{named_from}
use Rattle.script_model.proofs.names.field_named.Given as goal

abbrev pub invariant-fields : goal.invariant-fields
invariant-fields l = named_from l.schema l.class l.name l.index ≡ field_named l.fn.schema l.fn.class l.fn.name
