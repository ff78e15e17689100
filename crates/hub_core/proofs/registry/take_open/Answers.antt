use Rattle.hub_core.proofs.ListLaws.{taken_at}
use Rattle.hub_core.proofs.registry.take_open.Goals as goal

pub returns : goal.returns
returns c = taken_at c.args.open_rooms.now.items c.args.def c.args.key.now c.args.serial c.index_mut.result.now c.take.new.self c.requires c.index_mut.ensures.value c.take.ensures
