use Rattle.std.proofs.lemmas.Result.{on_ok_weaker}
use Rattle.hub_core.proofs.ListLaws.{added_at}
use Rattle.hub_core.proofs.registry.add_open.Goals as goal

pub returns : goal.returns
returns c = on_ok_weaker c.add.result (added_at c.args.open_rooms.now.items c.args.def c.args.key.items c.args.serial c.index_mut.result.now c.add.new.self c.requires c.index_mut.ensures.value) c.add.ensures
