use Rattle.hub_core.proofs.LapseLaws.{has_take}
use Rattle.hub_core.proofs.lapses.Lapses.take.Goals as goal

pub returns : goal.returns
returns c = rw (← c.self.view_is) (has_take c.args.lapse c.args.serial c.self.inside.keys.keys c.remove.new.self.keys c.remove.ensures.updates.0)
