use Rattle.hub_core.proofs.LapseLaws.{has_put}
use Rattle.hub_core.proofs.lapses.Lapses.put.Goals as goal

pub returns : goal.returns
returns c = rw (← c.self.view_is) (has_put c.args.lapse c.args.serial c.self.inside.keys.keys c.insert.new.self.keys c.in_ok-insert.ensures.updates.0)
