use Rattle.std.proofs.Common.{ap}
use Rattle.state_model.specs.declared.row.Row.TheVariants.{Array}
use Rattle.instance_table.proofs.EditLaws.{item_set}
use Rattle.instance_table.proofs.edits.set_at.Goals as goal

pub returns-in-Array-clause-row : goal.returns-in-Array-clause-row
returns-in-Array-clause-row c = rw c.in-Array.is (ap (Array c.in-Array.field-0) (item_set c.in-Array.values c.put_at.new.self c.args.at c.args.value c.put_at.result c.put_at.ensures))
