use Rattle.std.proofs.Common.{[], ◌∷◌, ◌∙◌, Some, sym, ap}
use Rattle.room_model.specs.declared.event.RoomEvent.TheVariants as event
use Rattle.room_model.specs.declared.refusal.Refusal.TheVariants as refusal
use Rattle.hub_model.specs.declared.event.HubEvent.TheVariants as happened
use Rattle.hub_model.specs.declared.event.HubOut.TheVariants as out
use Rattle.hub_model.specs.HubStep.{event_of_conn}
use Rattle.hub_core.specs.Hubs.{hub_of}
use Rattle.hub_core.specs.Takes.{rules_of}
use Rattle.hub_core.proofs.CostLaws.{event_cost}
use Rattle.hub_core.proofs.ConnLaws.{conn_of}
use Rattle.hub_core.proofs.EventLaws.{no_loss, may_lose, lost_step, room_there, takes_handled}
use Rattle.hub_core.proofs.RoomLaws.{one_ok, pushed_ok}
use Rattle.hub_core.proofs.parts.Parts.lost.Goals as goal

pub returns-in_default-clause-takes : goal.returns-in_default-clause-takes
returns-in_default-clause-takes g c =
    one_ok _ _ c.push.result (λ outs. no_loss g.R.RoomLike.room g.R.RoomLike.Holds g.R.RoomLike.handled c.args.self.now c.requires c.know.ensures c.args.conn c.args.outs.now c.push.new.self c.in_default.ensures.value outs)
    (pushed_ok c.push.result c.push.new.self c.args.outs.now (out.Refused refusal.NoConn ∷ []) c.push.ensures)

pub handle_in-requires-clause-happen : goal.handle_in-requires-clause-happen
handle_in-requires-clause-happen g c = may_lose g.R.RoomLike.room g.R.RoomLike.Holds c.args.self.now c.requires c.args.conn (conn_of c.linked.inside) (ap Some c.linked.view_is ∙ c.in-Some.ensures.value)

pub returns-clause-takes : goal.returns-clause-takes
returns-clause-takes g c =
    let old = c.args.self.now in
    let h = hub_of g.R.RoomLike.room old in
    takes_handled g.R.RoomLike.room g.R.RoomLike.Holds g.R.RoomLike.handled (happened.Lost c.args.conn) old c.handle_in.new.self c.args.outs.now c.handle_in.new.outs c.linked.inside.room
    (event.Lost c.linked.inside.session old.moment) c.handle_in.result
    (lost_step (rules_of g.R.RoomLike.handled) h c.args.conn (conn_of c.linked.inside) (sym (ap Some c.linked.view_is ∙ c.in-Some.ensures.value))
    (room_there g.R.RoomLike.room g.R.RoomLike.Holds old c.requires c.args.conn (conn_of c.linked.inside) (ap Some c.linked.view_is ∙ c.in-Some.ensures.value)))
    c.handle_in.ensures.hub c.handle_in.ensures.outs c.handle_in.ensures.stands

pub returns-clause-cost : goal.returns-clause-cost
returns-clause-cost g c =
    event_cost g.R.RoomLike.room g.R.RoomLike.costs (rules_of g.R.RoomLike.handled) c.args.self.now (happened.Lost c.args.conn) c.linked.inside.room (event.Lost c.linked.inside.session c.args.self.now.moment) c.handle_in.new.steps c.args.steps.now
    (λ r. ap (event_of_conn r (λ session. event.Lost session c.args.self.now.moment)) (sym (ap Some c.linked.view_is ∙ c.in-Some.ensures.value))) c.handle_in.ensures.cost
