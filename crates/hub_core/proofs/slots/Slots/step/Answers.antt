use Rattle.std.proofs.Common.{◌≡◌, ◌∙◌, Some, IfSome, sym, ap, subst}
use Rattle.lists.specs.Rising.{find as find_by}
use Rattle.slab.specs.Slab.{get}
use Rattle.hub_core.specs.RoomEntry.{room_in, serial_of}
use Rattle.hub_core.specs.Statuses.{Changes}
use Rattle.hub_core.proofs.SlotLaws.{found_there, written}
use Rattle.hub_core.proofs.slots.Slots.step.Goals as goal

pub step-requires : goal.step-requires
step-requires g c =
    let there : find_by serial_of c.args.at.serial c.args.self.now ≡ Some c.in-Some-get_mut.boxed.now =
    rw (← c.self.view_is) (found_there (get c.self.inside.slots) c.self.inside.by_serial.entries c.args.at.serial c.in-Some.slot c.in-Some-get_mut.boxed.now c.self.invariant (sym c.in-Some-get_mut.ensures.value) c.in-Some.ensures) in
    rw there at c.requires.happen

pub invariant_of-self-in_err-turn : goal.invariant_of-self-in_err-turn
invariant_of-self-in_err-turn g c = (written c.self.inside.slots c.self.inside.by_serial.entries c.args.at.serial c.in-Some.slot c.in-Some-get_mut.boxed.now c.step.new.self c.self.invariant c.in-Some.ensures
    (sym c.in-Some-get_mut.ensures.value) (ap (λ s. s.serial) c.step.ensures.same)).are

pub returns-in_err-turn-clause-same : goal.returns-in_err-turn-clause-same
returns-in_err-turn-clause-same g c =
    let set = written c.self.inside.slots c.self.inside.by_serial.entries c.args.at.serial c.in-Some.slot c.in-Some-get_mut.boxed.now c.step.new.self c.self.invariant c.in-Some.ensures
    (sym c.in-Some-get_mut.ensures.value) (ap (λ s. s.serial) c.step.ensures.same) in
    let there : find_by serial_of c.args.at.serial c.args.self.now ≡ Some c.in-Some-get_mut.boxed.now = rw (← c.self.view_is) set.there in
    rw there (record { now = c.step.new.self; same = c.step.ensures.same; rooms = rw (← c.self.view_is) set.rooms })

pub returns-in_err-turn-clause-cost : goal.returns-in_err-turn-clause-cost
returns-in_err-turn-clause-cost g c =
    let set = written c.self.inside.slots c.self.inside.by_serial.entries c.args.at.serial c.in-Some.slot c.in-Some-get_mut.boxed.now c.step.new.self c.self.invariant c.in-Some.ensures
    (sym c.in-Some-get_mut.ensures.value) (ap (λ s. s.serial) c.step.ensures.same) in
    let there : find_by serial_of c.args.at.serial c.args.self.now ≡ Some c.in-Some-get_mut.boxed.now = rw (← c.self.view_is) set.there in
    rw there c.step.ensures.cost

pub invariant_of-self-2 : goal.invariant_of-self-2
invariant_of-self-2 g c = (written c.self.inside.slots c.self.inside.by_serial.entries c.args.at.serial c.in-Some.slot c.in-Some-get_mut.boxed.now c.step.new.self c.self.invariant c.in-Some.ensures
    (sym c.in-Some-get_mut.ensures.value) (ap (λ s. s.serial) c.step.ensures.same)).are

pub returns-clause-same : goal.returns-clause-same
returns-clause-same g c =
    let set = written c.self.inside.slots c.self.inside.by_serial.entries c.args.at.serial c.in-Some.slot c.in-Some-get_mut.boxed.now c.step.new.self c.self.invariant c.in-Some.ensures
    (sym c.in-Some-get_mut.ensures.value) (ap (λ s. s.serial) c.step.ensures.same) in
    let there : find_by serial_of c.args.at.serial c.args.self.now ≡ Some c.in-Some-get_mut.boxed.now = rw (← c.self.view_is) set.there in
    rw there (record { now = c.step.new.self; same = c.step.ensures.same; rooms = rw (← c.self.view_is) set.rooms })

pub returns-clause-outs : goal.returns-clause-outs
returns-clause-outs g c =
    let set = written c.self.inside.slots c.self.inside.by_serial.entries c.args.at.serial c.in-Some.slot c.in-Some-get_mut.boxed.now c.step.new.self c.self.invariant c.in-Some.ensures
    (sym c.in-Some-get_mut.ensures.value) (ap (λ s. s.serial) c.step.ensures.same) in
    let there : find_by serial_of c.args.at.serial c.args.self.now ≡ Some c.in-Some-get_mut.boxed.now = rw (← c.self.view_is) set.there in
    rw there c.in_ok-turn.ensures.outs

pub returns-clause-after : goal.returns-clause-after
returns-clause-after g c =
    let set = written c.self.inside.slots c.self.inside.by_serial.entries c.args.at.serial c.in-Some.slot c.in-Some-get_mut.boxed.now c.step.new.self c.self.invariant c.in-Some.ensures
    (sym c.in-Some-get_mut.ensures.value) (ap (λ s. s.serial) c.step.ensures.same) in
    let was = c.in-Some-get_mut.boxed.now in
    let there : find_by serial_of c.args.at.serial c.args.self.now ≡ Some c.in-Some-get_mut.boxed.now = rw (← c.self.view_is) set.there in
    rw there (record {
      now = c.step.new.self;
      serial = ap (λ s. s.serial) c.step.ensures.same;
      rooms = rw (← c.self.view_is) set.rooms;
      is = ap (room_in g.R.RoomLike.room) c.step.ensures.same ∙ ap (λ r. record { id = was.id; def = was.def; criteria = was.criteria; room = r }) c.in_ok-turn.ensures.after;
      fresh = c.in_ok-turn.ensures.fresh;
    })

pub returns-clause-change : goal.returns-clause-change
returns-clause-change g c =
    let set = written c.self.inside.slots c.self.inside.by_serial.entries c.args.at.serial c.in-Some.slot c.in-Some-get_mut.boxed.now c.step.new.self c.self.invariant c.in-Some.ensures
    (sym c.in-Some-get_mut.ensures.value) (ap (λ s. s.serial) c.step.ensures.same) in
    let there : find_by serial_of c.args.at.serial c.args.self.now ≡ Some c.in-Some-get_mut.boxed.now = rw (← c.self.view_is) set.there in
    rw there (subst (λ o. IfSome o (λ t. Changes g.R.RoomLike.room c.args.event.now c.in_ok-turn.turn.outs c.in-Some-get_mut.boxed.now t c.in_ok-turn.turn.change)) (sym set.now) c.in_ok-turn.ensures.change)

pub returns-clause-cost : goal.returns-clause-cost
returns-clause-cost g c =
    let set = written c.self.inside.slots c.self.inside.by_serial.entries c.args.at.serial c.in-Some.slot c.in-Some-get_mut.boxed.now c.step.new.self c.self.invariant c.in-Some.ensures
    (sym c.in-Some-get_mut.ensures.value) (ap (λ s. s.serial) c.step.ensures.same) in
    let there : find_by serial_of c.args.at.serial c.args.self.now ≡ Some c.in-Some-get_mut.boxed.now = rw (← c.self.view_is) set.there in
    rw there c.step.ensures.cost
