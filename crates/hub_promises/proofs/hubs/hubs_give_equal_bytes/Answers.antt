use Rattle.hub_promises.proofs.HubsKept as kept
use Rattle.hub_promises.proofs.hubs.hubs_give_equal_bytes.Goals as goal

pub returns : goal.returns
returns c = kept.hubs_give_equal_bytes
