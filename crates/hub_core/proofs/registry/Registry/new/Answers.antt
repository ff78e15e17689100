use Rattle.hub_core.proofs.RegisteredLaws.{kept_none}
use Rattle.hub_core.proofs.registry.Registry.new.Goals as goal

pub returns-clause-kept : goal.returns-clause-kept
returns-clause-kept g c = kept_none g.R.RoomLike.room _ c.new.ensures c.new-2.ensures c.in_ok-none_open.ensures.empty
