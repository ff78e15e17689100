use Rattle.std.proofs.Common.{◌∙◌, ◌∷◌, ◌++◌, [], refl, arith, ap, subst, sym}
use Rattle.lists.specs.Rising.{IsAbove}
use Rattle.instance_table.specs.Graph.{GraphState}
use Rattle.instance_table.specs.Nodes.{number_of}
use Rattle.instance_table.proofs.GraphLaws.{room_added}
use Rattle.instance_table.proofs.graph.Graph.add.Goals as goal

pub invariant_of-self-2 : goal.invariant_of-self-2
invariant_of-self-2 c =
    let above = subst (λ (s : GraphState). IsAbove number_of c.args.who s.nodes) (sym c.self.view_is) c.requires.above in
    let listed = c.add.ensures.numbers ∙ ap (λ l. l ++ c.args.who ∷ []) c.in_ok-reserve.ensures.numbers in
    room_added c.self.inside.nodes c.push.new.self c.args.who _ c.self.inside.loose.numbers _ _ above refl c.in_ok-push.ensures listed
    (omega (arith, c.in_ok-reserve.ensures.ok, c.add.ensures.kept, c.len.ensures.value)) c.self.invariant.0
