use Rattle.std.proofs.Common.{◌+◌, [], true, length, ap, sym, arith, ◌∙◌}
use Rattle.std.proofs.lemmas.List.{length_push}
use Rattle.state_model.specs.Commands.{do_command, refusal_of}
use Rattle.instance_table.specs.declared.node.Node.{Node}
use Rattle.instance_table.specs.Graph.{GraphState}
use Rattle.instance_table.specs.Table.{TableState}
use Rattle.instance_table.proofs.NewTables.{IsMade, made_by_body, next_above}
use Rattle.instance_table.proofs.table.Table.make.Goals as goal

pub add-requires-clause-above : goal.add-requires-clause-above
add-requires-clause-above c = next_above c.self.inside.schema c.self.inside.graph.nodes c.self.inside.given c.self.invariant.0.kept

is_made : (c : goal.After-self-1) → IsMade c.self.inside.schema c.self.inside.graph.nodes c.add.new.self.nodes c.self.inside.given c.self.inside.totals.places c.self.inside.totals.text c.args.command.now
is_made c =
    let i = c.self.inside in
    made_by_body i.schema i.graph.nodes c.add.new.self.nodes i.given i.totals.places i.totals.text c.args.command.now c.in_ok-body.field-0 c.in-Some.body c.self.invariant.0
    (ap (λ (t : TableState). refusal_of t.schema t.state c.args.command.now) c.self.view_is ∙ c.requires.free) c.requires.makes c.in_ok-body.ensures c.in-Some.is (ap (λ (g : GraphState). g.nodes) c.in_ok-add.ensures.ok)

pub invariant_of-self-2 : goal.invariant_of-self-2
invariant_of-self-2 c = let added : Node = record { body = c.in-Some.body; holders = []; waits = true } in (
  (is_made c).table,
  omega (arith, ap (λ (g : GraphState). length g.nodes) c.in_ok-add.ensures.ok, length_push c.self.inside.graph.nodes (c.self.inside.given + 1, added), c.len.ensures.value, c.in_ok-reserve.ensures.ok),
  omega (arith, ap (λ (g : GraphState). length g.nodes) c.in_ok-add.ensures.ok, length_push c.self.inside.graph.nodes (c.self.inside.given + 1, added), c.len-2.ensures.value, c.in_ok-reserve-2.ensures.ok),
)

pub returns-clause-ok : goal.returns-clause-ok
returns-clause-ok c = ap (λ (t : TableState). do_command t.schema t.state c.args.command.now) (sym c.self.view_is) ∙ (is_made c).answer
