use Rattle.std.proofs.Common.{arith}
use Rattle.state_model.specs.declared.row.FieldValue.{FieldValue}
use Rattle.plain_rows.specs.Views.{view_shows}
use Rattle.plain_rows.proofs.KeptItems.{kept_is_above}
use Rattle.plain_rows.proofs.shown_rows.shown_fields.Goals as goal

pub push-requires : goal.push-requires
push-requires c =
    kept_is_above (λ (f : FieldValue). f.field) (view_shows c.args.table.now c.args.members.now c.args.who c.args.class) c.args.fields.now c.as_slice-field-items.result.now _ c.loop-field.field-index c.field-item.result _
    c.is_empty.ensures.rises c.as_slice-field-items.ensures c.loop-field.invariant (omega arith) c.field-item.is c.in_ok-copy.ensures
