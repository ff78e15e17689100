use Rattle.hub_promises.proofs.HubsKept as kept
use Rattle.hub_promises.proofs.hubs.hubs_follow.Goals as goal

pub returns : goal.returns
returns c = kept.hubs_follow
