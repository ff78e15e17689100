use Rattle.std.proofs.Common.{refl, arith}
use Rattle.state_model.specs.declared.row.RowEntry.{RowEntry}
use Rattle.state_model.specs.Rows.{number_of}
use Rattle.plain_rows.specs.Views.{view_row}
use Rattle.plain_rows.proofs.KeptItems.{made_is_above}
use Rattle.plain_rows.proofs.shown_rows.rows_by_table.Goals as goal

pub push-requires : goal.push-requires
push-requires c =
    made_is_above number_of (λ (e : RowEntry). let s : RowEntry = record { who = e.who; row = view_row c.args.table.now c.args.members.now e.who e.row } in s)
    c.as_slice-entry-items.result.now c.loop-entry.out c.loop-entry.entry-index c.entry-item.result (record { who = c.entry-item.result.who; row = c.in_ok-shown_row.field-0 })
    (λ e. refl) (rw c.as_slice-entry-items.ensures.value c.as_slice-entry-items.ensures.rises) c.loop-entry.invariant (omega arith) c.entry-item.is refl
