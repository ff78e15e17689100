use Rattle.std.proofs.Common.{Some, sym, subst}
use Rattle.hub_core.specs.SessionRooms.{IsHoused}
use Rattle.hub_core.specs.RoomEntry.{Each}
use Rattle.hub_core.proofs.SessionRoomLaws.{housed_noted, noted_home}
use Rattle.hub_core.proofs.RoomLaws.{Renamed}
use Rattle.hub_core.proofs.session_rooms.SessionRooms.note.Given.{Over}
use Rattle.hub_core.proofs.session_rooms.SessionRooms.note.Goals as goal

step : (g : Over) (c : goal.In_ok-insert g) → Renamed c.args.session (Some c.args.serial) c.self.inside.by_session.entries c.insert.new.self.entries
step g c q = (rw c.bytes_of.ensures at c.in_ok-insert.ensures.updates).0 q

pub returns-clause-housed : goal.returns-clause-housed
returns-clause-housed g c =
    housed_noted g.R.RoomLike.room c.args.session c.args.serial c.self.inside.by_session.entries c.insert.new.self.entries (step g c) c.args.rooms.now
    (subst (λ hs. Each (IsHoused g.R.RoomLike.room hs) c.args.rooms.now) (sym c.self.view_is) c.in_ok-sweep.ensures) c.requires.free

pub returns-clause-home : goal.returns-clause-home
returns-clause-home g c = noted_home g.R.RoomLike.room c.args.session c.args.serial c.self.inside.by_session.entries c.insert.new.self.entries (step g c)
