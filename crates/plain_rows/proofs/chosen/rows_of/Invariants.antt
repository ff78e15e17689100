use Rattle.std.proofs.Common.{◌≡◌, filter, take}
use Rattle.state_model.specs.declared.row.RowEntry.{RowEntry}
use Rattle.state_model.specs.Reached.{is_among}
use Rattle.plain_rows.proofs.chosen.rows_of.Given as goal

abbrev pub invariant-loop-entry : goal.invariant-loop-entry
invariant-loop-entry l = l.out ≡ filter (λ (e : RowEntry). is_among e.who l.numbers) (take l.entry-index l.entry-items)
