use Rattle.std.proofs.Common.{◌∙◌, ap}
use Rattle.std.proofs.lemmas.Result.{IfOk-weaker}
use Rattle.plain_rows.specs.Views.{view_rows}
use Rattle.plain_rows.proofs.ViewTables.{rows_same}
use Rattle.plain_rows.proofs.shown_rows.shown_rows.Goals as goal

pub returns : goal.returns
returns c =
    IfOk-weaker c.rows_by_table.result _ _
    (λ left same. same ∙ ap (λ table. view_rows table c.in_ok-members.members c.args.rows.now) c.in_ok-table.ensures ∙ rows_same c.args.schema.now c.in_ok-members.members c.args.pairs.now c.in_ok-members.ensures c.args.rows.now)
    c.rows_by_table.ensures
