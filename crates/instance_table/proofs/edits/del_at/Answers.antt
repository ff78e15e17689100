use Rattle.std.proofs.Common.{ap}
use Rattle.state_model.specs.declared.row.Row.TheVariants.{Array}
use Rattle.instance_table.proofs.EditLaws.{item_removed}
use Rattle.instance_table.proofs.edits.del_at.Goals as goal

pub returns-in-Array-clause-row : goal.returns-in-Array-clause-row
returns-in-Array-clause-row c = rw c.in-Array.is (ap (Array c.in-Array.field-0) (item_removed c.in-Array.values c.remove_at.new.self c.args.at c.remove_at.result c.remove_at.ensures))
