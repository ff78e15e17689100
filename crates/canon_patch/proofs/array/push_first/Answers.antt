use Rattle.std.proofs.Common.{rules, Some}
use Rattle.std.specs.Prelude.{option_copied}
use Rattle.schema_model.specs.declared.class.Item.TheVariants.{Scalar}
use Rattle.state_model.specs.declared.place.Expected.TheVariants.{Item as AnItem}
use Rattle.canon_patch.proofs.Encoded.{slot_next}
use Rattle.canon_patch.proofs.array.push_first.Goals as goal

pub loop-at-preserved : goal.loop-at-preserved
loop-at-preserved c =
    slot_next c.args.to.now.rows.now (Some (AnItem (Scalar c.args.kind))) c.args.old.now c.args.new.now c.loop-at.at c.args.ops.now c.loop-at.ops c.push_place.new.ops
    (option_copied c.value_at-before.result) (option_copied c.value_at-after.result)
    c.loop-at.invariant (search rules) c.value_at-before.ensures c.value_at-after.ensures
