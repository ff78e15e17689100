use Rattle.lists.proofs.Results.{on_err}
use Rattle.instance_table.proofs.WalkRooms.{some_put}
use Rattle.instance_table.proofs.walk_room.MemoryRoomWalkRoom.see.Goals as goal

pub returns-clause-lacks : goal.returns-clause-lacks
returns-clause-lacks c = on_err c.insert.result (some_put c.args.who c.args.self.now.seen)
