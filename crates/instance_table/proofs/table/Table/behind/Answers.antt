use Rattle.std.proofs.Common.{◌≡◌, ◌∙◌, ℕ, List, Some, true, not, ap, sym, subst, arith}
use Rattle.std.specs.Option.{is_some}
use Rattle.lists.proofs.Results.{on_err}
use Rattle.state_model.specs.Members.{rows_through}
use Rattle.state_model.specs.Reached.{reached}
use Rattle.state_model.specs.Rows.{is_live, place_count, rows_of}
use Rattle.instance_table.specs.Behind.{numbers_behind, places_behind}
use Rattle.instance_table.specs.declared.node.Node.{Node}
use Rattle.instance_table.specs.Nodes.{rows_in}
use Rattle.instance_table.specs.Table.{TableState}
use Rattle.instance_table.proofs.BehindLaws.{dead_behind, live_behind}
use Rattle.instance_table.proofs.RefusalLaws.{live_node, some_copied}
use Rattle.instance_table.proofs.table.Table.behind.Goals as goal

pub returns-then-is_none-clause-value : goal.returns-then-is_none-clause-value
returns-then-is_none-clause-value g c =
    let es = c.self.inside.graph.nodes in
    let who = c.args.who in
    let there = sym (ap is_some c.get.ensures) ∙ (some_copied c.get.result ∙ c.is_none.ensures) in
    let dead = live_node es who ∙ (there ∙ ap not c.if-is_none.true) in
    (dead_behind c.self.inside.schema (rows_in es) who c.args.tag dead).0
    ∙ ap (λ (t : TableState). numbers_behind t.schema t.state.rows who c.args.tag) c.self.view_is

pub returns-then-is_none-clause-cost : goal.returns-then-is_none-clause-cost
returns-then-is_none-clause-cost g c =
    let es = c.self.inside.graph.nodes in
    let who = c.args.who in
    let there = sym (ap is_some c.get.ensures) ∙ (some_copied c.get.result ∙ c.is_none.ensures) in
    let dead = live_node es who ∙ (there ∙ ap not c.if-is_none.true) in
    let same = ap (λ (t : TableState). places_behind t.schema t.state.rows who c.args.tag) c.self.view_is in
    omega (arith, (dead_behind c.self.inside.schema (rows_in es) who c.args.tag dead).1, same)

pub returns-clause-value : goal.returns-clause-value
returns-clause-value g c =
    let i = c.self.inside in
    let es = i.graph.nodes in
    let who = c.args.who in
    let tag = c.args.tag in
    let there = sym (ap is_some c.get.ensures) ∙ (some_copied c.get.result ∙ c.is_none.ensures) in
    let live = live_node es who ∙ (there ∙ ap not c.if-is_none.false) in
    let here = ap (λ l. reached (rows_through i.schema tag (rows_in l)) who) c.nodes-nodes.ensures in
    let same = ap (λ (t : TableState). numbers_behind t.schema t.state.rows who tag) c.self.view_is in
    ap (λ (ns : List ℕ). Some ns) (c.in_ok-numbers.ensures.value ∙ here)
    ∙ ((live_behind i.schema (rows_in es) who tag live).0 ∙ same)

pub returns-clause-cost : goal.returns-clause-cost
returns-clause-cost g c =
    let i = c.self.inside in
    let es = i.graph.nodes in
    let who = c.args.who in
    let tag = c.args.tag in
    let there = sym (ap is_some c.get.ensures) ∙ (some_copied c.get.result ∙ c.is_none.ensures) in
    let live = live_node es who ∙ (there ∙ ap not c.if-is_none.false) in
    let count = λ (l : List (ℕ × Node)).
    place_count (rows_of (reached (rows_through i.schema tag (rows_in l)) who) (rows_in l)) in
    let here = ap count c.nodes-nodes.ensures in
    let same = ap (λ (t : TableState). places_behind t.schema t.state.rows who tag) c.self.view_is in
    omega (arith, c.in_ok-numbers.ensures.cost, here, (live_behind i.schema (rows_in es) who tag live).1, same)

pub returns-then-is_none-clause-most : goal.returns-then-is_none-clause-most
returns-then-is_none-clause-most g c = omega arith

pub returns-in_err-numbers-clause-most : goal.returns-in_err-numbers-clause-most
returns-in_err-numbers-clause-most g c =
    let i = c.self.inside in
    let es = i.graph.nodes in
    let who = c.args.who in
    let tag = c.args.tag in
    let there = sym (ap is_some c.get.ensures) ∙ (some_copied c.get.result ∙ c.is_none.ensures) in
    let live = live_node es who ∙ (there ∙ ap not c.if-is_none.false) in
    let count = λ (l : List (ℕ × Node)).
    place_count (rows_of (reached (rows_through i.schema tag (rows_in l)) who) (rows_in l)) in
    let here = ap count c.nodes-nodes.ensures in
    let same = ap (λ (t : TableState). places_behind t.schema t.state.rows who tag) c.self.view_is in
    omega (arith, c.in_err-numbers.ensures.most, here, (live_behind i.schema (rows_in es) who tag live).1, same)

pub returns-clause-most : goal.returns-clause-most
returns-clause-most g c = omega (arith, returns-clause-cost g c)

pub returns-in_err-numbers-clause-lacks : goal.returns-in_err-numbers-clause-lacks
returns-in_err-numbers-clause-lacks g c =
    let es = c.self.inside.graph.nodes in
    let who = c.args.who in
    let there = sym (ap is_some c.get.ensures) ∙ (some_copied c.get.result ∙ c.is_none.ensures) in
    let live = live_node es who ∙ (there ∙ ap not c.if-is_none.false) in
    let now = subst (λ (t : TableState). is_live t.state.rows who ≡ true) c.self.view_is live in
    on_err c.from_residual.result now
