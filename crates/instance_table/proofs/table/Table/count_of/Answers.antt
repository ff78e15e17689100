use Rattle.std.proofs.Common.{ap, sym, length, ◌∙◌, arith}
use Rattle.instance_table.specs.Holders.{holders_of}
use Rattle.instance_table.specs.Table.{TableState}
use Rattle.instance_table.proofs.HolderLists.{holders_are, holders_limited, none_held}
use Rattle.instance_table.proofs.table.Table.count_of.Goals as goal

pub overflow_cast-result : goal.overflow_cast-result
overflow_cast-result g c =
    let es = c.self.inside.graph.nodes in
    let i = c.self.inside in
    let held = holders_are i.schema es i.given i.totals.places i.totals.text c.self.invariant.0 c.args.who c.in-Some.node.now (sym c.in-Some.ensures) in
    omega (arith, c.len.ensures, ap length held, holders_limited i.schema es i.given i.totals.places i.totals.text c.self.invariant.0 c.args.who)

pub returns-in-Some-clause-value : goal.returns-in-Some-clause-value
returns-in-Some-clause-value g c =
    let es = c.self.inside.graph.nodes in
    let i = c.self.inside in
    let held = holders_are i.schema es i.given i.totals.places i.totals.text c.self.invariant.0 c.args.who c.in-Some.node.now (sym c.in-Some.ensures) in
    c.len.ensures ∙ (ap length held ∙ ap (λ (t : TableState). length (holders_of t.state.rows c.args.who)) c.self.view_is)

pub returns-in-None-clause-value : goal.returns-in-None-clause-value
returns-in-None-clause-value g c =
    let es = c.self.inside.graph.nodes in
    let i = c.self.inside in
    ap length (none_held i.schema es i.given i.totals.places i.totals.text c.self.invariant.0 c.args.who (sym c.in-None.ensures)) ∙ ap (λ (t : TableState). length (holders_of t.state.rows c.args.who)) c.self.view_is
