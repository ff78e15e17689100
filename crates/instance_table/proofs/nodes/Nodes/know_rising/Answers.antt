use Rattle.std.proofs.Common.{subst}
use Rattle.lists.specs.Rising.{RisesFrom}
use Rattle.instance_table.specs.Nodes.{number_of}
use Rattle.instance_table.proofs.NodeLaws.{entries_rise}
use Rattle.instance_table.proofs.nodes.Nodes.know_rising.Goals as goal

pub returns : goal.returns
returns c = subst (RisesFrom number_of 0) c.self.view_is (entries_rise 0 c.self.inside.slots.items c.self.invariant.0)
