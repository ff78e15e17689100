use Rattle.std.proofs.Common.{◌≡◌, ◌≤◌, ◌-◌, length}
use Rattle.state_model.specs.Rows.{values_in}
use Rattle.command_laws.specs.Accounts.{row_text}
use Rattle.plain_rows.specs.Links.{held_at}
use Rattle.instance_table.specs.Bodies.{row_of}
use Rattle.instance_table.specs.Nodes.{rows_in}
use Rattle.instance_table.proofs.FreedNodes.{asked_after, asked_before, asked_nothing}
use Rattle.instance_table.proofs.sweeping.free.Goals as goal

pub without-requires-clause-places : goal.without-requires-clause-places
without-requires-clause-places c =
    asked_after (λ b. length (values_in (row_of b)) ≤ c.args.totals.now.places) (held_at (rows_in c.args.graph.now.nodes) c.args.who) c.args.who c.args.who
    c.args.graph.now.nodes c.let_go_links.new.graph.nodes c.in-Some.node c.let_go_links.ensures c.in-Some.ensures.found c.requires.places

pub without-requires-clause-text : goal.without-requires-clause-text
without-requires-clause-text c =
    asked_after (λ b. row_text (row_of b) ≤ c.args.totals.now.text) (held_at (rows_in c.args.graph.now.nodes) c.args.who) c.args.who c.args.who
    c.args.graph.now.nodes c.let_go_links.new.graph.nodes c.in-Some.node c.let_go_links.ensures c.in-Some.ensures.found c.requires.text

pub returns-in-Some-clause-places : goal.returns-in-Some-clause-places
returns-in-Some-clause-places c =
    asked_before (λ b. c.without.result.places ≡ c.args.totals.now.places - length (values_in (row_of b))) (held_at (rows_in c.args.graph.now.nodes) c.args.who) c.args.who c.args.who
    c.args.graph.now.nodes c.let_go_links.new.graph.nodes c.in-Some.node c.let_go_links.ensures c.in-Some.ensures.found c.without.ensures.places

pub returns-in-Some-clause-text : goal.returns-in-Some-clause-text
returns-in-Some-clause-text c =
    asked_before (λ b. c.without.result.text ≡ c.args.totals.now.text - row_text (row_of b)) (held_at (rows_in c.args.graph.now.nodes) c.args.who) c.args.who c.args.who
    c.args.graph.now.nodes c.let_go_links.new.graph.nodes c.in-Some.node c.let_go_links.ensures c.in-Some.ensures.found c.without.ensures.text

pub returns-in_default-clause-places : goal.returns-in_default-clause-places
returns-in_default-clause-places c =
    asked_nothing _ (held_at (rows_in c.args.graph.now.nodes) c.args.who) c.args.who c.args.who c.args.graph.now.nodes c.let_go_links.new.graph.nodes c.let_go_links.ensures c.in_default.ensures.found

pub returns-in_default-clause-text : goal.returns-in_default-clause-text
returns-in_default-clause-text c =
    asked_nothing _ (held_at (rows_in c.args.graph.now.nodes) c.args.who) c.args.who c.args.who c.args.graph.now.nodes c.let_go_links.new.graph.nodes c.let_go_links.ensures c.in_default.ensures.found

pub returns-in_default-clause-gone : goal.returns-in_default-clause-gone
returns-in_default-clause-gone c =
    asked_nothing _ (held_at (rows_in c.args.graph.now.nodes) c.args.who) c.args.who c.args.who c.args.graph.now.nodes c.let_go_links.new.graph.nodes c.let_go_links.ensures c.in_default.ensures.found
