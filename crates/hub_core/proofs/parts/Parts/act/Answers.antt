use Rattle.std.proofs.Common.{refl}
use Rattle.room_model.specs.declared.event.RoomEvent.TheVariants as event
use Rattle.hub_model.specs.declared.event.HubEvent.TheVariants as happened
use Rattle.hub_core.specs.Hubs.{hub_of}
use Rattle.hub_core.specs.Takes.{rules_of}
use Rattle.hub_core.proofs.CostLaws.{event_cost}
use Rattle.hub_core.proofs.EventLaws.{act_step, takes_handled}
use Rattle.hub_core.proofs.parts.Parts.act.Goals as goal

pub returns-clause-takes : goal.returns-clause-takes
returns-clause-takes g c =
    let old = c.args.self.now in
    takes_handled g.R.RoomLike.room g.R.RoomLike.Holds g.R.RoomLike.handled (happened.Act c.args.room c.args.act) old c.handle_in.new.self c.args.outs.now c.handle_in.new.outs c.args.room (event.Act c.args.act) c.handle_in.result
    (act_step (rules_of g.R.RoomLike.handled) (hub_of g.R.RoomLike.room old) c.args.room c.args.act) c.handle_in.ensures.hub c.handle_in.ensures.outs c.handle_in.ensures.stands

pub returns-clause-cost : goal.returns-clause-cost
returns-clause-cost g c = event_cost g.R.RoomLike.room g.R.RoomLike.costs (rules_of g.R.RoomLike.handled) c.args.self.now (happened.Act c.args.room c.args.act) c.args.room
    (event.Act c.args.act) c.handle_in.new.steps c.args.steps.now (λ r. refl) c.handle_in.ensures.cost
