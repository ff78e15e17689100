use Rattle.std.proofs.Common.{◌∙◌}
use Rattle.hub_core.proofs.RoomLaws.{found_by_number}
use Rattle.hub_core.proofs.rooms.Rooms.find.Goals as goal

pub returns-clause-value : goal.returns-clause-value
returns-clause-value g c = c.get.ensures.value ∙ found_by_number c.in-Some.at.serial c.args.id c.args.self.now c.know.ensures.0 c.in-Some.ensures
