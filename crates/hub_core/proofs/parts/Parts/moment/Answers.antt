use Rattle.std.proofs.Common.{refl, sym}
use Rattle.hub_core.specs.Takes.{rules_of}
use Rattle.hub_core.proofs.CostLaws.{moment_cost}
use Rattle.hub_core.proofs.MomentLaws.{due_there, each_due, takes_moment}
use Rattle.hub_core.proofs.RoomLaws.{one_ok}
use Rattle.hub_core.proofs.parts.Parts.moment.Goals as goal

pub lapse_all-requires-clause-there : goal.lapse_all-requires-clause-there
lapse_all-requires-clause-there g c =
    due_there g.R.RoomLike.room c.later-self.result c.in_ok-due.due.keys c.args.self.now.registry.rooms c.args.self.now.registry.lapses c.requires.order.kept.noted c.in_ok-due.ensures.due

pub returns-in_err-lapse_all-clause-cost : goal.returns-in_err-lapse_all-clause-cost
returns-in_err-lapse_all-clause-cost g c =
    let old = c.args.self.now in
    moment_cost g.R.RoomLike.room g.R.RoomLike.costs (rules_of g.R.RoomLike.handled) old c.args.now c.later-self.result c.in_ok-due.due.keys c.lapse_all.new.steps c.args.steps.now c.know.ensures.0 (sym c.later-self.ensures)
    (each_due g.R.RoomLike.room c.later-self.result c.in_ok-due.due.keys old.registry.rooms old.registry.lapses c.requires.order.kept.noted c.in_ok-due.ensures.due) c.lapse_all.ensures.cost

pub returns-clause-takes : goal.returns-clause-takes
returns-clause-takes g c =
    let old = c.args.self.now in
    one_ok _ _ c.dispose_all.result (λ leaves.
    takes_moment g.R.RoomLike.room g.R.RoomLike.Holds g.R.RoomLike.handled c.args.now c.later-self.result c.in_ok-due.due.keys old c.requires c.know.ensures (sym c.later-self.ensures) c.in_ok-due.ensures.due
    (record { alloc = old.alloc; moment = c.later-self.result; schema = old.schema; process = old.process; defs = old.defs; registry = old.registry; conns = old.conns; session_rooms = old.session_rooms })
    c.lapse_all.new.self c.dispose_all.new.self c.args.outs.now c.lapse_all.new.outs c.dispose_all.new.outs refl refl refl refl refl refl c.in_ok-lapse_all.ensures.lapsed leaves) c.dispose_all.ensures

pub returns-clause-cost : goal.returns-clause-cost
returns-clause-cost g c =
    let old = c.args.self.now in
    moment_cost g.R.RoomLike.room g.R.RoomLike.costs (rules_of g.R.RoomLike.handled) old c.args.now c.later-self.result c.in_ok-due.due.keys c.lapse_all.new.steps c.args.steps.now c.know.ensures.0 (sym c.later-self.ensures)
    (each_due g.R.RoomLike.room c.later-self.result c.in_ok-due.due.keys old.registry.rooms old.registry.lapses c.requires.order.kept.noted c.in_ok-due.ensures.due) c.lapse_all.ensures.cost
