use Rattle.std.proofs.Common.{arith}
use Rattle.lists.proofs.Places.{next_is_above}
use Rattle.state_model.specs.declared.row.RowEntry.{RowEntry}
use Rattle.state_model.proofs.rows.Rows.copy.Goals as goal

pub push-requires : goal.push-requires
push-requires c =
    next_is_above (λ (x : RowEntry). x.who) c.args.self.now c.as_slice-entry-items.result.now _ c.loop-entry.entry-index c.entry-item.result _
    c.as_slice-entry-items.ensures.rises c.as_slice-entry-items.ensures.value c.loop-entry.invariant (omega arith) c.entry-item.is c.in_ok-copy.ensures
