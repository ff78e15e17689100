use Rattle.std.proofs.Common.{◌<◌, List, arith, length, ap, subst, sym, ◌∙◌}
use Rattle.std.proofs.lemmas.Option.{slice_get_within}
use Rattle.room_model.specs.Ledger.{leave}
use Rattle.room_model.specs.Seats.{left_seat}
use Rattle.room_core.specs.declared.client.Client.{Client}
use Rattle.room_core.specs.Stands.{Stands}
use Rattle.room_core.specs.Values.{room_of, room_with, session_of_client}
use Rattle.room_core.proofs.ClientLists.{named_there}
use Rattle.room_core.proofs.Leaves.{end_room}
use Rattle.room_core.proofs.Seated.{is_after, is_done, left_ok}
use Rattle.room_core.proofs.StandsLaws.{stands_gone}
use Rattle.room_core.proofs.parts.Parts.end.Goals as goal

pub unwrap-requires : goal.unwrap-requires
unwrap-requires c =
    let p = c.args.self.now in
    let one = c.requires.client in
    let own = named_there c.args.session p.clients.items c.args.at one.0 c.requires.order.placed.distinct one.1 one.2 in
    is_done (leave p.places c.args.session) (left_seat p.places c.args.session) p.places c.leave.new.self c.leave.result (left_ok (room_of p) c.args.session (session_of_client one.0) c.requires.order.placed own) c.leave.ensures

pub remove-requires : goal.remove-requires
remove-requires c =
    let cs = c.args.self.now.clients in
    let within : c.args.at < length cs.items = slice_get_within cs.items c.args.at c.requires.client.0 c.requires.client.1 in
    omega (arith, within, cs.ok.0)

pub returns-clause-room : goal.returns-clause-room
returns-clause-room c =
    let p = c.args.self.now in
    let one = c.requires.client in
    let distinct = c.requires.order.placed.distinct in
    let own = named_there c.args.session p.clients.items c.args.at one.0 distinct one.1 one.2 in
    let left = is_after (leave p.places c.args.session) (left_seat p.places c.args.session) p.places c.leave.new.self c.leave.result (left_ok (room_of p) c.args.session (session_of_client one.0) c.requires.order.placed own) c.leave.ensures in
    ap (λ (cs : List Client). room_with p.def p.criteria p.live p.shared c.leave.new.self cs) c.remove.ensures.items
    ∙ end_room p.def p.criteria p.live p.shared p.places p.clients.items c.args.session distinct c.args.at one.0 one.1 one.2 c.leave.new.self left

pub returns-clause-stands : goal.returns-clause-stands
returns-clause-stands c =
    let p = c.args.self.now in (
      subst (λ (cs : List Client). Stands p.live p.shared cs) (sym c.remove.ensures.items) (stands_gone p.live p.shared p.clients.items c.args.at c.requires.stands.0),
      c.requires.stands.1,
      c.requires.stands.2,
    )
