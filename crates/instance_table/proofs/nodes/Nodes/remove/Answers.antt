use Rattle.std.proofs.Common.{◌∙◌, ap, length, sym, arith}
use Rattle.trees.specs.Slots.{entries_in}
use Rattle.instance_table.proofs.NodeLaws.{length_left, remove_none}
use Rattle.instance_table.proofs.nodes.Nodes.remove.Goals as goal

pub invariant_of-self : goal.invariant_of-self
invariant_of-self c =
    let take = c.take_out.ensures in
    let same = take.rest ∙ remove_none c.who.inside.0 (entries_in c.self.inside.slots.items) (sym take.found ∙ c.in_err-node.was) in
    (take.rises, c.self.invariant.1 ∙ ap length (sym same))

pub invariant_of-self-then-len-self : goal.invariant_of-self-then-len-self
invariant_of-self-then-len-self c =
    let take = c.take_out.ensures in
    let close = c.close_holes.ensures in
    let less = length_left c.who.inside.0 (entries_in c.self.inside.slots.items) c.in_ok-node.node take.before (sym take.found ∙ c.in_ok-node.was) in
    (close.rises, rw (close.entries, take.rest) (omega (arith, c.self.invariant.1, less)))

pub invariant_of-self-else-len-self : goal.invariant_of-self-else-len-self
invariant_of-self-else-len-self c =
    let take = c.take_out.ensures in
    let less = length_left c.who.inside.0 (entries_in c.self.inside.slots.items) c.in_ok-node.node take.before (sym take.found ∙ c.in_ok-node.was) in
    (take.rises, rw take.rest (omega (arith, c.self.invariant.1, less)))
