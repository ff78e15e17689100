use Rattle.hub_core.proofs.SessionRoomLaws.{AreStill}
use Rattle.hub_core.proofs.session_rooms.SessionRooms.left.Given as goal

abbrev pub invariant-session_rooms : goal.invariant-session_rooms
invariant-session_rooms g l = AreStill g.R.RoomLike.room l.rooms l.left.entries l.session-iterator
