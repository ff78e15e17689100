use Rattle.std.proofs.Common.{◌+◌, ◌≤◌, subst, sym}
use Rattle.room_model.specs.declared.event.Act.{Act}
use Rattle.room_core.specs.Costs.{act_cost}
use Rattle.room_core.specs.Values.{room_of}
use Rattle.room_core.proofs.room.handle_act.Goals as goal

pub returns-in-ViewAdd-clause-cost : goal.returns-in-ViewAdd-clause-cost
returns-in-ViewAdd-clause-cost g c =
    subst (λ (a : Act). c.edit_view.new.steps ≤ c.args.steps.now + act_cost (room_of c.args.parts.now) a) (sym c.in-ViewAdd.is) c.edit_view.ensures.cost

pub returns-in-ViewDel-clause-cost : goal.returns-in-ViewDel-clause-cost
returns-in-ViewDel-clause-cost g c =
    subst (λ (a : Act). c.edit_view-in-ViewDel.new.steps ≤ c.args.steps.now + act_cost (room_of c.args.parts.now) a) (sym c.in-ViewDel.is) c.edit_view-in-ViewDel.ensures.cost
