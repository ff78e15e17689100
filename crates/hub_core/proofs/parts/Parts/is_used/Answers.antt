use Rattle.std.proofs.Common.{◌∙◌, None}
use Rattle.hub_core.proofs.SessionRoomLaws.{used_by}
use Rattle.hub_core.proofs.parts.Parts.is_used.Goals as goal

pub returns-in-Some : goal.returns-in-Some
returns-in-Some g c =
    let old = c.args.self.now in
    used_by g.R.RoomLike.room old.session_rooms c.args.id old.registry.rooms _ c.know.ensures.0 c.requires.order.housed c.in-Some.ensures

pub returns-in-None : goal.returns-in-None
returns-in-None g c =
    let old = c.args.self.now in
    c.has_session.ensures ∙ used_by g.R.RoomLike.room old.session_rooms c.args.id old.registry.rooms None c.know.ensures.0 c.requires.order.housed c.in-None.ensures
