use Rattle.std.proofs.Common.{ap, sym, option_copied, Some, None, ◌∙◌}
use Rattle.std.specs.Option.{option_map}
use Rattle.state_model.specs.Rows.{row_at}
use Rattle.instance_table.specs.Bodies.{row_of}
use Rattle.instance_table.specs.Table.{TableState}
use Rattle.instance_table.proofs.StateLaws.{row_there}
use Rattle.instance_table.proofs.table.Table.row.Goals as goal

pub returns-in_err-node : goal.returns-in_err-node
returns-in_err-node c =
    ap (λ o. option_map row_of (option_copied o)) c.from_residual.ensures
    ∙ (sym (row_there c.self.inside.graph.nodes c.args.who None c.in_err-node.ensures) ∙ ap (λ (t : TableState). row_at t.state.rows c.args.who) c.self.view_is)

pub returns : goal.returns
returns c =
    sym (row_there c.self.inside.graph.nodes c.args.who (Some c.in_ok-node.node.now) c.in_ok-node.ensures) ∙ ap (λ (t : TableState). row_at t.state.rows c.args.who) c.self.view_is
