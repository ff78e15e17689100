use Rattle.std.proofs.Common.{arith}
use Rattle.state_model.specs.declared.row.RowEntry.{RowEntry}
use Rattle.state_model.specs.Reached.{is_among}
use Rattle.plain_rows.proofs.KeptItems.{kept_is_above}
use Rattle.plain_rows.proofs.chosen.rows_of.Goals as goal

pub push-requires : goal.push-requires
push-requires c =
    kept_is_above (λ (e : RowEntry). e.who) (λ (e : RowEntry). is_among e.who c.args.numbers.now) c.args.rows.now c.as_slice-entry-items.result.now _ c.loop-entry.entry-index c.entry-item.result _
    c.as_slice-entry-items.ensures.rises c.as_slice-entry-items.ensures.value c.loop-entry.invariant (omega arith) c.entry-item.is c.in_ok-copy.ensures
