use Rattle.std.proofs.Common.{◌≡◌, ◌+◌, ◌∙◌, Some, None, ap, refl, sym, arith, slice_get, List}
use Rattle.schema_model.specs.declared.value.Value.{Value}
use Rattle.instance_table.specs.Graph.{GraphState}
use Rattle.instance_table.specs.Changes.{link_in, values_at}
use Rattle.instance_table.proofs.LinkLaws.{held_first}
use Rattle.instance_table.proofs.LetGoLaws.{body_at, body_let_go, let_go_end, let_go_next, let_go_start, values_let_go}
use Rattle.instance_table.proofs.PlaceSteps.{behind_same, behind_start_at}
use Rattle.instance_table.proofs.changes.let_go_links.Goals as goal
use Rattle.instance_table.proofs.changes.let_go_links.Goals.{in-Some, in_default}

pub loop-n-init : goal.loop-n-init
loop-n-init c = record {
  nodes = let_go_start c.args.holder c.args.graph.now.nodes (values_at c.args.graph.now.nodes c.args.holder);
  behind = behind_start_at c.args.graph.now.nodes c.args.holder;
}

pub link_nth-link-requires : goal.link_nth-link-requires
link_nth-link-requires c =
    let start = c.args.graph.now.nodes in
    let h = c.args.holder in
    let same : body_at c.loop-n.graph.nodes h ≡ body_at start h = ap (λ es. body_at es h) c.loop-n.invariant.nodes ∙ body_let_go (held_first c.loop-n.n (values_at start h)) h start h in
    behind_same start c.loop-n.graph.nodes h c.loop-n.n c.loop-n.behind (sym same) c.loop-n.invariant.behind

pub loop-n-preserved : goal.loop-n-preserved
loop-n-preserved c =
    let start = c.args.graph.now.nodes in
    let h = c.args.holder in
    let values = values_at start h in
    let n = c.loop-n.n in
    let nodes = c.loop-n.invariant.nodes in
    let same : values_at c.loop-n.graph.nodes h ≡ values = ap (λ es. values_at es h) nodes ∙ values_let_go (held_first n values) h start h in
    let body : body_at c.loop-n.graph.nodes h ≡ body_at start h = ap (λ es. body_at es h) nodes ∙ body_let_go (held_first n values) h start h in
    let is : c.link_nth-link.result.0 ≡ link_in (slice_get values n) = c.link_nth-link.ensures.link ∙ ap (λ (vs : List Value). link_in (slice_get vs n)) same in
    let behind = behind_same c.loop-n.graph.nodes start h (n + 1) c.link_nth-link.result.1 body c.link_nth-link.ensures.next in
    elim c.match-link.branch [
      | in-Some w ↦
          rw w.graph-is (record {
            nodes = let_go_next h n start c.loop-n.graph.nodes w.let_go_all.new.self.nodes values (Some w.in-Some.link) (omega (arith, c.loop-n-test.true, c.places_at-count.ensures))
                nodes (cc (w.in-Some.is, is)) (ap (λ (g : GraphState). g.nodes) w.let_go_all.ensures);
            behind = behind;
          })
      | in_default w ↦
          rw w.graph-is (record {
            nodes = let_go_next h n start c.loop-n.graph.nodes c.loop-n.graph.nodes values None (omega (arith, c.loop-n-test.true, c.places_at-count.ensures)) nodes (cc (w.in_default.is, is)) refl;
            behind = behind;
          })
    ]

pub returns : goal.returns
returns c = let_go_end c.args.holder c.loop-n.n c.args.graph.now.nodes c.loop-n.graph.nodes (omega (arith, c.loop-n-test.false, c.places_at-count.ensures, c.loop-n.auto.n-end)) c.loop-n.invariant.nodes
