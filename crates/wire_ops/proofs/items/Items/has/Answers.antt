use Rattle.state_model.specs.declared.row.MapItem.{MapItem}
use Rattle.trees.proofs.TreeLaws.{found_some}
use Rattle.wire_ops.proofs.items.Items.has.Goals as goal

pub returns : goal.returns
returns c = rw (← c.self.view_is) (found_some (λ (i : MapItem). i.number) c.args.number c.self.inside.items c.get.result c.is_some.result c.is_some.ensures c.get.ensures)
