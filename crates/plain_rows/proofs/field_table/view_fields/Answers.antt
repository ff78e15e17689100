use Rattle.std.proofs.Common.{◌∙◌, arith}
use Rattle.plain_rows.proofs.ViewTables.{table_whole}
use Rattle.plain_rows.proofs.field_table.view_fields.Goals as goal

pub returns : goal.returns
returns c =
    table_whole c.args.schema.now c.loop-class.table c.as_slice-class-items.result.now c.loop-class.class-index (omega arith) c.loop-class.invariant
    (c.as_slice-class-items.ensures ∙ c.classes.ensures.value)
