use Rattle.std.proofs.Common.{◌≡◌}
use Rattle.instance_table.specs.Changes.{IsBehindAt, let_go_each, values_at}
use Rattle.instance_table.proofs.LinkLaws.{held_first}
use Rattle.instance_table.proofs.changes.let_go_links.Given as goal

abbrev pub invariant-loop-n : goal.invariant-loop-n
invariant-loop-n l = record {
  nodes : l.graph.nodes ≡ let_go_each (held_first l.n (values_at l.fn.graph.nodes l.holder)) l.holder l.fn.graph.nodes;
  behind : IsBehindAt l.fn.graph.nodes l.holder l.n l.behind;
}
