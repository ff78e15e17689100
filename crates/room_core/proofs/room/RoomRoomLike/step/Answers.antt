use Rattle.std.proofs.Common.{◌≡◌, ◌∙◌, true, ap, subst, sym}
use Rattle.room_laws.specs.Places.{may_happen}
use Rattle.room_core.specs.Order.{InOrder}
use Rattle.room_core.specs.Values.{Held}
use Rattle.room_core.proofs.Orders.{step_order}
use Rattle.room_core.proofs.room.RoomRoomLike.step.Goals as goal

pub invariant_of-self : goal.invariant_of-self
invariant_of-self g c =
    let did = c.handle-outcome.ensures in
    let was = subst (InOrder c.self.inside.parts) c.if-self.false c.self.invariant in
    let unspent = ap (λ (h : Held). h.spent) (sym c.self.view_is) ∙ c.if-self.false in
    let may = subst (λ (h : Held). may_happen h.room c.args.event.now ≡ true) (sym c.self.view_is) (c.requires.happen unspent) in
    step_order c.self.inside.parts c.handle-outcome.new.parts c.args.event.now c.handle-outcome.result c.is_err-self-inside.result was may did.room did.stands did.order c.is_err-self-inside.ensures.value
