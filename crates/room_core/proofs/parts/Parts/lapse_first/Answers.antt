use Rattle.std.proofs.Common.{◌≡◌, List, ◌++◌, ap, ap₂, refl, subst, sym, ◌∙◌}
use Rattle.room_model.specs.declared.event.RoomOut.{RoomOut}
use Rattle.room_model.specs.Ledger.{expire}
use Rattle.room_model.specs.Room.{RoomValue, ended}
use Rattle.room_model.specs.Seats.{left_seat}
use Rattle.room_laws.specs.Ordered.{Ordered}
use Rattle.room_core.specs.declared.client.Client.{Client}
use Rattle.room_core.specs.Leaving.{lapse_told}
use Rattle.room_core.specs.Stands.{Stands}
use Rattle.room_core.specs.Values.{room_of, room_with, session_of_client}
use Rattle.room_core.proofs.ClientLists.{alike_there, as_read, named_there}
use Rattle.room_core.proofs.Leaves.{end_room, lapse_step}
use Rattle.room_core.proofs.Orders.{ended_ordered}
use Rattle.room_core.proofs.Seated.{went}
use Rattle.room_core.proofs.StandsLaws.{stands_gone}
use Rattle.room_core.proofs.parts.Parts.lapse_first.Goals as goal

pub returns-clause-lapses : goal.returns-clause-lapses
returns-clause-lapses c =
    let p = c.args.self.now in
    let cs = p.clients.items in
    let at = c.in-Some.at in
    let e = c.in-Some.ensures.0 in
    let found = alike_there p.places.entries cs at e c.requires.order.placed.alike c.in-Some.ensures.1 in
    let one = c.index-client.result.now in
    let own = as_read e.session cs at one (found.0, found.1, sym (ap (λ x. x.0) found.2)) c.index-client.ensures in
    let distinct = c.requires.order.placed.distinct in
    let step = lapse_step p.def p.criteria p.live p.shared p.places cs e.session distinct at one own.0 own.1 c.args.now c.args.outs.now c.requires.order.placed c.in-Some.ensures.2 in
    let left = went (expire p.places c.args.now) (e.session, left_seat p.places e.session) p.places c.expire.new.self c.expire.result c.in-Some.ensures.2 c.expire.ensures in
    let room : room_with p.def p.criteria p.live p.shared c.expire.new.self c.remove.new.self.items ≡ ended (room_of p) e.session =
    ap (λ (ds : List Client). room_with p.def p.criteria p.live p.shared c.expire.new.self ds) c.remove.ensures.items
    ∙ end_room p.def p.criteria p.live p.shared p.places cs e.session distinct at one own.0 own.1 c.expire.new.self left in
    let outs : c.tell_lapse.new.outs ≡ c.args.outs.now ++ lapse_told e.session one.stage = c.in_ok-tell_lapse.ensures.told ∙ ap (λ n. c.args.outs.now ++ lapse_told n one.stage) own.1 in
    record { step = ap₂ (λ (r : RoomValue) (os : List RoomOut). (r, os)) room outs ∙ sym step; last = λ h. absurd (cc) }

pub returns-clause-stands : goal.returns-clause-stands
returns-clause-stands c =
    let p = c.args.self.now in (
      subst (λ (cs : List Client). Stands p.live p.shared cs) (sym c.remove.ensures.items) (stands_gone p.live p.shared p.clients.items c.in-Some.at c.requires.stands.0),
      c.requires.stands.1,
      c.requires.stands.2,
    )

pub returns-clause-order : goal.returns-clause-order
returns-clause-order c =
    let p = c.args.self.now in
    let cs = p.clients.items in
    let at = c.in-Some.at in
    let e = c.in-Some.ensures.0 in
    let found = alike_there p.places.entries cs at e c.requires.order.placed.alike c.in-Some.ensures.1 in
    let one = found.0 in
    let name : one.id ≡ e.session = sym (ap (λ x. x.0) found.2) in
    let distinct = c.requires.order.placed.distinct in
    let left = went (expire p.places c.args.now) (e.session, left_seat p.places e.session) p.places c.expire.new.self c.expire.result c.in-Some.ensures.2 c.expire.ensures in
    let room : room_with p.def p.criteria p.live p.shared c.expire.new.self c.remove.new.self.items ≡ ended (room_of p) e.session =
    ap (λ (ds : List Client). room_with p.def p.criteria p.live p.shared c.expire.new.self ds) c.remove.ensures.items
    ∙ end_room p.def p.criteria p.live p.shared p.places cs e.session distinct at one found.1 name c.expire.new.self left in
    let own = named_there one.id cs at one distinct found.1 refl in
    subst Ordered (ap (λ n. ended (room_of p) n) name ∙ sym room) (ended_ordered (room_of p) (session_of_client one) own c.requires.order)
