use Rattle.std.proofs.Common.{ap, sym, slice_get, ◌∙◌}
use Rattle.instance_table.specs.Holders.{holders_of}
use Rattle.instance_table.specs.Table.{TableState}
use Rattle.instance_table.proofs.HolderLists.{holders_are, none_held}
use Rattle.instance_table.proofs.table.Table.holder_at.Goals as goal

pub returns-in_err-node-clause-value : goal.returns-in_err-node-clause-value
returns-in_err-node-clause-value g c =
    let es = c.self.inside.graph.nodes in
    let i = c.self.inside in
    let none = none_held i.schema es i.given i.totals.places i.totals.text c.self.invariant.0 c.args.who (sym c.in_err-node.ensures) in
    c.from_residual.ensures ∙ (ap (λ l. slice_get l c.args.n) none ∙ ap (λ (t : TableState). slice_get (holders_of t.state.rows c.args.who) c.args.n) c.self.view_is)

pub returns-clause-value : goal.returns-clause-value
returns-clause-value g c =
    let es = c.self.inside.graph.nodes in
    let i = c.self.inside in
    let held = holders_are i.schema es i.given i.totals.places i.totals.text c.self.invariant.0 c.args.who c.in_ok-node.node.now (sym c.in_ok-node.ensures) in
    c.at.ensures ∙ (ap (λ l. slice_get l c.args.n) held ∙ ap (λ (t : TableState). slice_get (holders_of t.state.rows c.args.who) c.args.n) c.self.view_is)
