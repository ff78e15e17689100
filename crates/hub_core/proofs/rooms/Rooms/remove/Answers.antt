use Rattle.std.proofs.Common.{◌≡◌, ◌∙◌, None, Some, sym}
use Rattle.lists.specs.Rising.{RisesFrom, find as find_by}
use Rattle.lists.proofs.RisingLaws.{remove_missing}
use Rattle.hub_core.specs.RoomEntry.{serial_of}
use Rattle.hub_core.proofs.RoomLaws.{Renamed, rooms_removed}
use Rattle.hub_core.proofs.rooms.Rooms.remove.Goals as goal

pub invariant_of-self : goal.invariant_of-self
invariant_of-self g c =
    let ss = c.self.inside.slots in
    let rises : RisesFrom serial_of 0 ss = rw (← c.self.view_is) at c.know.ensures.0 in
    let found : find_by serial_of c.args.at.serial ss ≡ Some c.in-Some.boxed = sym c.in-Some.ensures.found in
    let step : Renamed c.in-Some.boxed.id None c.self.inside.by_id.entries c.remove-in-Some.new.self.entries = λ q. (rw (c.bytes_of.ensures, c.id.ensures) at c.remove-in-Some.ensures.updates).0 q in
    rw c.remove.ensures.rest (rooms_removed c.args.at.serial c.in-Some.boxed ss c.self.inside.by_id.entries c.remove-in-Some.new.self.entries c.self.inside.next c.self.invariant rises found step)

pub invariant_of-self-in_default : goal.invariant_of-self-in_default
invariant_of-self-in_default g c =
    let ss = c.self.inside.slots in
    let none : find_by serial_of c.args.at.serial ss ≡ None = sym c.in_default.ensures.found in
    let left : c.remove.new.self ≡ ss = c.remove.ensures.rest ∙ remove_missing serial_of c.args.at.serial ss none in
    rw left c.self.invariant
