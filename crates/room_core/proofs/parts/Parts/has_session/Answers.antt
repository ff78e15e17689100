use Rattle.std.proofs.Common.{◌∙◌}
use Rattle.room_core.proofs.ClientLists.{has_place}
use Rattle.room_core.proofs.parts.Parts.has_session.Goals as goal

pub returns : goal.returns
returns c = c.is_some.ensures ∙ has_place c.args.session c.args.self.now.clients.items c.place_of.result c.requires.placed.distinct c.place_of.ensures
