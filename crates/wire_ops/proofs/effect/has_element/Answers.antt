use Rattle.state_model.specs.declared.row.SetItem.{SetItem}
use Rattle.trees.proofs.TreeLaws.{found_some}
use Rattle.wire_ops.proofs.effect.has_element.Goals as goal

pub returns : goal.returns
returns c = found_some (λ (i : SetItem). i.number) c.args.number c.args.items.now c.get.result c.is_some.result c.is_some.ensures c.get.ensures
