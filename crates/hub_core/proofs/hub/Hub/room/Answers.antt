use Rattle.std.proofs.Common.{◌∙◌, sym, ap}
use Rattle.std.specs.Prelude.{is_some, option_map}
use Rattle.hub_model.specs.HubValues.{HubRoom}
use Rattle.hub_core.specs.RoomEntry.{room_in}
use Rattle.hub_core.proofs.HandleLaws.{room_found}
use Rattle.hub_core.proofs.hub.Hub.room.Goals as goal

pub returns-in-Some-clause-there : goal.returns-in-Some-clause-there
returns-in-Some-clause-there g c = rw (← c.self.view_is) (sym (ap is_some (room_found g.R.RoomLike.room c.args.id c.self.inside.parts.registry.rooms ∙ ap (option_map (room_in g.R.RoomLike.room)) (sym c.in-Some.ensures.value))))

pub returns-in-Some-clause-room : goal.returns-in-Some-clause-room
returns-in-Some-clause-room g c =
    rw (← c.self.view_is) (ap (option_map (λ (r : HubRoom). r.room)) (room_found g.R.RoomLike.room c.args.id c.self.inside.parts.registry.rooms ∙ ap (option_map (room_in g.R.RoomLike.room)) (sym c.in-Some.ensures.value)))

pub returns-in-None-clause-there : goal.returns-in-None-clause-there
returns-in-None-clause-there g c = rw (← c.self.view_is) (sym (ap is_some (room_found g.R.RoomLike.room c.args.id c.self.inside.parts.registry.rooms ∙ ap (option_map (room_in g.R.RoomLike.room)) (sym c.in-None.ensures.value))))
