use Rattle.std.proofs.Common.{◌≡◌, [], ◌∷◌, true, false, rules}
use Rattle.std.specs.Prelude.{is_some}
use Rattle.lists.specs.Rising.{find as find_by}
use Rattle.room_model.specs.declared.refusal.Refusal.TheVariants as refusal
use Rattle.hub_model.specs.declared.event.HubOut.TheVariants as out
use Rattle.hub_model.specs.HubValues.{conn_number}
use Rattle.hub_core.proofs.OpeningLaws.{opening_cost, opening_nowhere, opening_used, opens_there, takes_entered}
use Rattle.hub_core.proofs.RoomLaws.{one_ok, pushed_ok}
use Rattle.hub_core.proofs.parts.Parts.opening.Goals as goal

pub returns-then-is_some-clause-takes : goal.returns-then-is_some-clause-takes
returns-then-is_some-clause-takes g c =
    let used : is_some (find_by conn_number c.args.conn c.args.self.now.conns) ≡ true = search rules in
    one_ok _ _ c.push.result (λ outs. opening_used g.R.RoomLike.room g.R.RoomLike.Holds g.R.RoomLike.handled c.args.self.now c.requires.stands c.know.ensures c.args.conn c.args.target.now c.args.fresh c.args.outs.now c.push.new.self used outs)
    (pushed_ok c.push.result c.push.new.self c.args.outs.now (out.Refused refusal.ConnInUse ∷ []) c.push.ensures)

pub enter-requires-clause-there : goal.enter-requires-clause-there
enter-requires-clause-there g c = opens_there g.R.RoomLike.room c.args.self.now c.args.target.now c.in-Some.opening c.in-Some.ensures

pub returns-in-Some-clause-takes : goal.returns-in-Some-clause-takes
returns-in-Some-clause-takes g c =
    let free : is_some (find_by conn_number c.args.conn c.args.self.now.conns) ≡ false = search rules in
    takes_entered g.R.RoomLike.room g.R.RoomLike.Holds g.R.RoomLike.handled c.args.self.now c.enter.new.self c.args.outs.now c.enter.new.outs c.args.conn c.args.target.now c.args.fresh c.in-Some.opening c.enter.result
    free c.in-Some.ensures c.enter.ensures.hub c.enter.ensures.outs c.enter.ensures.stands

pub returns-in-None-clause-takes : goal.returns-in-None-clause-takes
returns-in-None-clause-takes g c =
    let free : is_some (find_by conn_number c.args.conn c.args.self.now.conns) ≡ false = search rules in
    one_ok _ _ c.refuse_opening.result (λ outs. opening_nowhere g.R.RoomLike.room g.R.RoomLike.Holds g.R.RoomLike.handled c.args.self.now c.requires.stands c.know.ensures c.args.conn
    c.args.target.now c.args.fresh c.args.outs.now c.refuse_opening.new.outs free c.in-None.ensures outs) c.refuse_opening.ensures

pub returns-in-Some-clause-cost : goal.returns-in-Some-clause-cost
returns-in-Some-clause-cost g c =
    let free : is_some (find_by conn_number c.args.conn c.args.self.now.conns) ≡ false = search rules in
    opening_cost g.R.RoomLike.room g.R.RoomLike.costs g.R.RoomLike.handled c.args.self.now c.args.conn c.args.target.now c.args.fresh c.in-Some.opening c.enter.new.steps c.args.steps.now free c.in-Some.ensures c.enter.ensures.cost
