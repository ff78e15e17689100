use Rattle.std.proofs.Common.{ap, option_copied, Some, None, ◌∙◌}
use Rattle.instance_table.specs.Table.{TableState, value_of}
use Rattle.instance_table.proofs.HolderLists.{value_found}
use Rattle.instance_table.proofs.table.Table.read.Goals as goal

pub returns-in_err-node-clause-value : goal.returns-in_err-node-clause-value
returns-in_err-node-clause-value g c =
    ap option_copied c.from_residual.ensures
    ∙ (value_found c.self.inside.graph.nodes c.args.at.holder c.args.at.key None c.in_err-node.ensures ∙ ap (λ (t : TableState). value_of t.state.rows c.args.at.holder c.args.at.key) c.self.view_is)

pub returns-clause-value : goal.returns-clause-value
returns-clause-value g c =
    c.value_at.ensures
    ∙ (value_found c.self.inside.graph.nodes c.args.at.holder c.args.at.key (Some c.in_ok-node.node.now) c.in_ok-node.ensures ∙ ap (λ (t : TableState). value_of t.state.rows c.args.at.holder c.args.at.key) c.self.view_is)
