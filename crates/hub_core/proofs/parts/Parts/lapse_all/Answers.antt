use Rattle.std.proofs.Common.{◌≤◌, ◌+◌, IfSome, subst}
use Rattle.lists.specs.Rising.{find as find_by}
use Rattle.room_model.specs.declared.event.RoomEvent.TheVariants as event
use Rattle.hub_core.specs.Costs.{lapse_cost}
use Rattle.hub_core.specs.RoomEntry.{serial_of}
use Rattle.hub_core.specs.Turned.{Turned}
use Rattle.hub_core.proofs.CostLaws.{lapsing_paid, lapsing_within}
use Rattle.hub_core.proofs.LapsedLaws.{Lapsing, lapsing_last, lapsing_next}
use Rattle.hub_core.proofs.parts.Parts.lapse_all.Goals as goal

pub returns-in_err-handle_at-clause-cost : goal.returns-in_err-handle_at-clause-cost
returns-in_err-handle_at-clause-cost g c =
    let room = g.R.RoomLike.room in
    let costs = g.R.RoomLike.costs in
    let at = c.args.self.now.moment in
    let ss = c.rooms.self.registry.rooms in
    lapsing_within room g.R.RoomLike.Holds g.R.RoomLike.handled costs at c.in-Some.serial.now c.args.due.now.keys c.next.new.self c.args.self.now c.rooms.self c.args.outs.now
    c.rooms.outs c.args.steps.now c.rooms.steps c.handle_at.new.steps (lapse_cost room costs at c.args.due.now.keys c.args.self.now.registry.rooms)
    (subst (λ ks. Lapsing room g.R.RoomLike.Holds g.R.RoomLike.handled at c.args.due.now.keys ks c.args.self.now c.rooms.self c.args.outs.now c.rooms.outs) c.in-Some.ensures.steps c.rooms.invariant.0) c.handle_at.ensures.ordered
    (subst (λ ks. c.rooms.steps + lapse_cost room costs at ks ss ≤ c.args.steps.now + lapse_cost room costs at c.args.due.now.keys c.args.self.now.registry.rooms) c.in-Some.ensures.steps c.rooms.invariant.1)
    (subst (λ m. IfSome (find_by serial_of c.in-Some.serial.now ss) (λ s. c.handle_at.new.steps ≤ c.rooms.steps + costs (room s.room) (event.Moment m))) c.rooms.invariant.0.moment
    (subst (λ n. IfSome (find_by serial_of n ss) (λ s. c.handle_at.new.steps ≤ c.rooms.steps + costs (room s.room) (event.Moment c.rooms.self.moment))) c.reference-at.ensures c.handle_at.ensures.cost))

pub rooms-preserved : goal.rooms-preserved
rooms-preserved g c =
    let room = g.R.RoomLike.room in
    let costs = g.R.RoomLike.costs in
    let old = c.args.self.now in
    let at = old.moment in
    let ss = c.rooms.self.registry.rooms in
    let now = subst (λ ks. Lapsing room g.R.RoomLike.Holds g.R.RoomLike.handled at c.args.due.now.keys ks old c.rooms.self c.args.outs.now c.rooms.outs) c.in-Some.ensures.steps c.rooms.invariant.0 in
    let turned = subst (λ m. IfSome (find_by serial_of c.in-Some.serial.now ss)
    (λ s. Turned room g.R.RoomLike.is_spent g.R.RoomLike.handled (event.Moment m) s c.rooms.self c.handle_at.new.self c.rooms.outs c.handle_at.new.outs)) c.rooms.invariant.0.moment
    (subst (λ n. IfSome (find_by serial_of n ss) (λ s. Turned room g.R.RoomLike.is_spent g.R.RoomLike.handled (event.Moment c.rooms.self.moment) s c.rooms.self c.handle_at.new.self c.rooms.outs c.handle_at.new.outs))
    c.reference-at.ensures c.in_ok-handle_at.ensures.turned) in (
      lapsing_next room g.R.RoomLike.is_spent g.R.RoomLike.Holds g.R.RoomLike.handled at c.in-Some.serial.now c.args.due.now.keys c.next.new.self old c.rooms.self c.handle_at.new.self
          c.args.outs.now c.rooms.outs c.handle_at.new.outs now c.handle_at.ensures.ordered turned c.in_ok-handle_at.ensures.order,
      lapsing_paid room g.R.RoomLike.is_spent g.R.RoomLike.Holds g.R.RoomLike.handled costs at c.in-Some.serial.now c.args.due.now.keys c.next.new.self old c.rooms.self c.handle_at.new.self
          c.args.outs.now c.rooms.outs c.handle_at.new.outs c.args.steps.now c.rooms.steps c.handle_at.new.steps (lapse_cost room costs at c.args.due.now.keys old.registry.rooms) now c.handle_at.ensures.ordered turned
          (subst (λ ks. c.rooms.steps + lapse_cost room costs at ks ss ≤ c.args.steps.now + lapse_cost room costs at c.args.due.now.keys old.registry.rooms) c.in-Some.ensures.steps c.rooms.invariant.1)
          (subst (λ m. IfSome (find_by serial_of c.in-Some.serial.now ss) (λ s. c.handle_at.new.steps ≤ c.rooms.steps + costs (room s.room) (event.Moment m))) c.rooms.invariant.0.moment
          (subst (λ n. IfSome (find_by serial_of n ss) (λ s. c.handle_at.new.steps ≤ c.rooms.steps + costs (room s.room) (event.Moment c.rooms.self.moment))) c.reference-at.ensures c.handle_at.ensures.cost)),
    )

pub returns-clause-lapsed : goal.returns-clause-lapsed
returns-clause-lapsed g c = lapsing_last g.R.RoomLike.room g.R.RoomLike.Holds g.R.RoomLike.handled c.args.self.now.moment c.args.due.now.keys c.rooms.serial-iterator c.args.self.now
    c.rooms.self c.args.outs.now c.rooms.outs c.in-None.ensures.steps.0 c.rooms.invariant.0
