use Rattle.std.proofs.Common.{rules}
use Rattle.std.proofs.lemmas.Result.{on_ok_weaker}
use Rattle.canon_patch.proofs.Encoded.{field_next}
use Rattle.canon_patch.proofs.fields.push_field.Goals as goal

pub returns : goal.returns
returns c =
    on_ok_weaker c.push_place.result
    (field_next c.args.to.now.schema.now c.args.to.now.rows.now c.args.class.now c.args.number c.in-Some.index c.args.old.now c.args.new.now c.kind_expected-kind.result c.field_expects.result
    _ _ _ _ c.args.ops.now c.push_place.new.ops (search rules) (search rules) (search rules) c.field_expects.ensures c.kind_expected-kind.ensures c.value_of.ensures c.value_of-2.ensures)
    c.push_place.ensures
