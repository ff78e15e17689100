use Rattle.std.proofs.Common.{◌<◌, arith, length, ap, sym}
use Rattle.std.proofs.lemmas.Option.{slice_get_within}
use Rattle.lists.proofs.Results.{on_ok}
use Rattle.room_model.specs.declared.event.Stage.TheVariants.{Joining}
use Rattle.live_state.specs.Live.{rows_of, schema_of}
use Rattle.room_core.specs.Entries.{entered}
use Rattle.room_core.specs.Steps.{client_at}
use Rattle.room_core.specs.Values.{room_of}
use Rattle.room_core.proofs.ClientLists.{as_read}
use Rattle.room_core.proofs.Edited.{if_ok_same}
use Rattle.room_core.proofs.Entered.{enter_room, joins_apart, missed_opening}
use Rattle.room_core.proofs.Seated.{did, no_seat}
use Rattle.room_core.proofs.StandsLaws.{joins, stands_set}
use Rattle.room_core.proofs.parts.Parts.enter.Goals as goal

pub returns-in_default-clause-outs : goal.returns-in_default-clause-outs
returns-in_default-clause-outs c =
    let p = c.args.self.now in
    let gone = no_seat (room_of p) c.args.session c.requires.order.placed c.in_default.ensures in
    let missed = missed_opening p.def p.criteria p.live p.shared p.clients.items c.args.session p.places c.args.token c.args.fresh gone in
    if_ok_same c.one_out.result _ _ (sym (ap (λ x. x.1) missed)) c.one_out.ensures

pub returns-in_default-clause-room : goal.returns-in_default-clause-room
returns-in_default-clause-room c =
    let p = c.args.self.now in
    let gone = no_seat (room_of p) c.args.session c.requires.order.placed c.in_default.ensures in
    let missed = missed_opening p.def p.criteria p.live p.shared p.clients.items c.args.session p.places c.args.token c.args.fresh gone in
    on_ok c.one_out.result (sym (ap (λ x. x.0) missed))

pub index_mut-requires : goal.index_mut-requires
index_mut-requires c =
    let cs = c.args.self.now.clients in
    let within : c.in-Some.at < length cs.items = slice_get_within cs.items c.in-Some.at c.in-Some.ensures.0 c.in-Some.ensures.1 in
    omega (arith, within, cs.ok.0)

pub returns-in-Ok-clause-room : goal.returns-in-Ok-clause-room
returns-in-Ok-clause-room c =
    let p = c.args.self.now in
    let one = c.index_mut.result.now in
    let own = as_read c.args.session p.clients.items c.in-Some.at one c.in-Some.ensures c.index_mut.ensures.value in
    let taken = did (entered p.places c.args.session c.args.token c.args.fresh) p.places c.take_place.new.places _ c.in-Ok.ensures in
    enter_room p.def p.criteria p.live p.shared p.clients.items c.args.session c.requires.order.placed.distinct c.in-Some.at one own.0 own.1 p.places c.take_place.new.places c.args.token c.args.fresh taken

pub returns-in-Ok-clause-stands : goal.returns-in-Ok-clause-stands
returns-in-Ok-clause-stands c =
    let p = c.args.self.now in
    let one = c.index_mut.result.now in
    let own = as_read c.args.session p.clients.items c.in-Some.at one c.in-Some.ensures c.index_mut.ensures.value in
    let taken = did (entered p.places c.args.session c.args.token c.args.fresh) p.places c.take_place.new.places _ c.in-Ok.ensures in
    let apart = joins_apart p.def p.criteria p.live p.shared p.clients.items c.args.session c.requires.order.placed.distinct c.in-Some.at one own.0 own.1 p.places c.take_place.new.places c.args.token c.args.fresh c.requires.order.placed taken in (
      stands_set p.live p.shared p.clients.items c.in-Some.at one (client_at Joining one) own.0 (λ last. joins (schema_of p.live) last (rows_of p.live) one apart) c.requires.stands.0,
      c.requires.stands.1,
      c.requires.stands.2,
    )
