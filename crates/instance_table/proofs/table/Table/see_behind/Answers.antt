use Rattle.std.proofs.Common.{◌≡◌, ◌∙◌, ℕ, List, Some, true, false, not, ap, sym, arith}
use Rattle.std.specs.Option.{is_some}
use Rattle.state_model.specs.Rows.{is_live}
use Rattle.instance_table.specs.Behind.{numbers_behind, places_behind}
use Rattle.instance_table.specs.Nodes.{rows_in}
use Rattle.instance_table.specs.Table.{TableState}
use Rattle.instance_table.proofs.BehindLaws.{dead_behind, live_behind}
use Rattle.instance_table.proofs.RefusalLaws.{live_node, some_copied}
use Rattle.instance_table.proofs.table.Table.see_behind.Goals as goal

pub returns-then-is_none-clause-live : goal.returns-then-is_none-clause-live
returns-then-is_none-clause-live g c =
    let es = c.nodes-nodes.result.now in
    let who = c.args.who in
    let there = sym (ap is_some c.get.ensures) ∙ (some_copied c.get.result ∙ c.is_none.ensures) in
    let is : is_live (rows_in es) who ≡ false = live_node es who ∙ (there ∙ ap not c.if-is_none.true) in
    sym is ∙ (ap (λ l. is_live (rows_in l) who) c.nodes-nodes.ensures ∙ ap (λ (t : TableState). is_live t.state.rows who) c.self.view_is)

pub returns-then-is_none-clause-value : goal.returns-then-is_none-clause-value
returns-then-is_none-clause-value g c =
    let es = c.nodes-nodes.result.now in
    let who = c.args.who in
    let there = sym (ap is_some c.get.ensures) ∙ (some_copied c.get.result ∙ c.is_none.ensures) in
    let is : is_live (rows_in es) who ≡ false = live_node es who ∙ (there ∙ ap not c.if-is_none.true) in
    (dead_behind c.self.inside.schema (rows_in es) who c.args.tag is).0
    ∙ (ap (λ l. numbers_behind c.self.inside.schema (rows_in l) who c.args.tag) c.nodes-nodes.ensures
    ∙ ap (λ (t : TableState). numbers_behind t.schema t.state.rows who c.args.tag) c.self.view_is)

pub returns-then-is_none-clause-cost : goal.returns-then-is_none-clause-cost
returns-then-is_none-clause-cost g c =
    let es = c.nodes-nodes.result.now in
    let who = c.args.who in
    let there = sym (ap is_some c.get.ensures) ∙ (some_copied c.get.result ∙ c.is_none.ensures) in
    let is : is_live (rows_in es) who ≡ false = live_node es who ∙ (there ∙ ap not c.if-is_none.true) in
    let same = ap (λ l. places_behind c.self.inside.schema (rows_in l) who c.args.tag) c.nodes-nodes.ensures
    ∙ ap (λ (t : TableState). places_behind t.schema t.state.rows who c.args.tag) c.self.view_is in
    omega (arith, (dead_behind c.self.inside.schema (rows_in es) who c.args.tag is).1, same)

pub see_behind-requires-clause-live : goal.see_behind-requires-clause-live
see_behind-requires-clause-live g c =
    let es = c.nodes-nodes.result.now in
    let who = c.args.who in
    let there = sym (ap is_some c.get.ensures) ∙ (some_copied c.get.result ∙ c.is_none.ensures) in
    let is : is_live (rows_in es) who ≡ true = live_node es who ∙ (there ∙ ap not c.if-is_none.false) in
    is

pub returns-clause-live : goal.returns-clause-live
returns-clause-live g c =
    let es = c.nodes-nodes.result.now in
    let who = c.args.who in
    let there = sym (ap is_some c.get.ensures) ∙ (some_copied c.get.result ∙ c.is_none.ensures) in
    let is : is_live (rows_in es) who ≡ true = live_node es who ∙ (there ∙ ap not c.if-is_none.false) in
    sym is ∙ (ap (λ l. is_live (rows_in l) who) c.nodes-nodes.ensures ∙ ap (λ (t : TableState). is_live t.state.rows who) c.self.view_is)

pub returns-clause-value : goal.returns-clause-value
returns-clause-value g c =
    let es = c.nodes-nodes.result.now in
    let who = c.args.who in
    let there = sym (ap is_some c.get.ensures) ∙ (some_copied c.get.result ∙ c.is_none.ensures) in
    let is : is_live (rows_in es) who ≡ true = live_node es who ∙ (there ∙ ap not c.if-is_none.false) in
    ap (λ (ns : List ℕ). Some ns) c.see_behind.ensures.seen
    ∙ ((live_behind c.self.inside.schema (rows_in es) who c.args.tag is).0
    ∙ (ap (λ l. numbers_behind c.self.inside.schema (rows_in l) who c.args.tag) c.nodes-nodes.ensures
    ∙ ap (λ (t : TableState). numbers_behind t.schema t.state.rows who c.args.tag) c.self.view_is))

pub returns-clause-cost : goal.returns-clause-cost
returns-clause-cost g c =
    let es = c.nodes-nodes.result.now in
    let who = c.args.who in
    let there = sym (ap is_some c.get.ensures) ∙ (some_copied c.get.result ∙ c.is_none.ensures) in
    let is : is_live (rows_in es) who ≡ true = live_node es who ∙ (there ∙ ap not c.if-is_none.false) in
    let same = ap (λ l. places_behind c.self.inside.schema (rows_in l) who c.args.tag) c.nodes-nodes.ensures
    ∙ ap (λ (t : TableState). places_behind t.schema t.state.rows who c.args.tag) c.self.view_is in
    omega (arith, c.see_behind.ensures.cost, (live_behind c.self.inside.schema (rows_in es) who c.args.tag is).1, same)
