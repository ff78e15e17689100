use Rattle.trees.proofs.TreeLaws.{moved}
use Rattle.wire_ops.proofs.ItemLaws.{number_of}
use Rattle.wire_ops.proofs.IndexLaws.{next_apart}
use Rattle.wire_ops.proofs.items.Items.open.Goals as goal

pub add-requires : goal.add-requires
add-requires c = next_apart c.args.items c.pop.new.self c.in-Some.item c.loop-item.opened c.loop-item.items c.is_empty.ensures.rises c.loop-item.invariant c.in-Some.ensures.items

pub loop-item-preserved : goal.loop-item-preserved
loop-item-preserved c =
    rw c.in_ok-add.ensures
    (moved number_of c.args.items c.loop-item.items c.pop.new.self c.in-Some.item c.loop-item.opened c.is_empty.ensures.rises c.loop-item.invariant c.in-Some.ensures.items)
