use Rattle.std.proofs.Common.{◌∙◌, sym, subst}
use Rattle.hub_core.specs.SessionRooms.{IsHoused}
use Rattle.hub_core.specs.RoomEntry.{Each}
use Rattle.hub_core.proofs.SessionRoomLaws.{AreStill, still_first, still_kept, still_last, still_passed}
use Rattle.hub_core.proofs.session_rooms.SessionRooms.left.Goals as goal

pub session_rooms-init : goal.session_rooms-init
session_rooms-init g c =
    subst (AreStill g.R.RoomLike.room c.args.rooms.now c.new-left.result.entries) (sym (c.into_iter-session-iterator.ensures.into_iter_gives ∙ c.iter-session-items.ensures.rest))
    (still_first g.R.RoomLike.room c.args.rooms.now c.self.inside.by_session.entries c.new-left.result.entries (subst (λ hs. Each (IsHoused g.R.RoomLike.room hs) c.args.rooms.now) (sym c.self.view_is) c.requires))

pub session_rooms-preserved-in_ok-insert : goal.session_rooms-preserved-in_ok-insert
session_rooms-preserved-in_ok-insert g c =
    still_kept g.R.RoomLike.room c.args.rooms.now c.args.self.now c.session_rooms.left.entries c.insert.new.self.entries c.next.new.self c.in-Some.session.now c.in-Some.serial.now c.requires
    (sym c.if-has_session.ensures) (λ q. c.in_ok-insert.ensures.updates.0 q)
    (subst (AreStill g.R.RoomLike.room c.args.rooms.now c.session_rooms.left.entries) c.in-Some.ensures.steps c.session_rooms.invariant)

pub session_rooms-preserved : goal.session_rooms-preserved
session_rooms-preserved g c =
    still_passed g.R.RoomLike.room c.args.rooms.now c.session_rooms.left.entries c.next.new.self c.in-Some.session.now c.in-Some.serial.now (sym c.if-has_session.ensures)
    (subst (AreStill g.R.RoomLike.room c.args.rooms.now c.session_rooms.left.entries) c.in-Some.ensures.steps c.session_rooms.invariant)

pub returns : goal.returns
returns g c = still_last g.R.RoomLike.room c.args.rooms.now c.session_rooms.left.entries c.session_rooms.session-iterator c.in-None.ensures.steps.0 c.session_rooms.invariant
