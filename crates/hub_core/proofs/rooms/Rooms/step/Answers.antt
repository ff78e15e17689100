use Rattle.std.proofs.Common.{IsSome}
use Rattle.lists.specs.Rising.{RisesFrom, find as find_by}
use Rattle.hub_core.specs.RoomEntry.{serial_of}
use Rattle.hub_core.proofs.RoomLaws.{rooms_kept}
use Rattle.hub_core.proofs.rooms.Rooms.step.Goals as goal

pub invariant_of-self : goal.invariant_of-self
invariant_of-self g c =
    let ss = c.self.inside.slots in
    let rises : RisesFrom serial_of 0 ss = rw (← c.self.view_is) at c.know.ensures.0 in
    let there : IsSome (find_by serial_of c.args.at.serial ss) = rw (← c.self.view_is) at c.requires.there in
    rooms_kept c.args.at.serial ss c.step.new.self c.self.inside.by_id.entries c.self.inside.next c.self.invariant rises there c.step.ensures.same

pub invariant_of-self-2 : goal.invariant_of-self-2
invariant_of-self-2 g c =
    let ss = c.self.inside.slots in
    let rises : RisesFrom serial_of 0 ss = rw (← c.self.view_is) at c.know.ensures.0 in
    let there : IsSome (find_by serial_of c.args.at.serial ss) = rw (← c.self.view_is) at c.requires.there in
    rooms_kept c.args.at.serial ss c.step.new.self c.self.inside.by_id.entries c.self.inside.next c.self.invariant rises there c.step.ensures.same
