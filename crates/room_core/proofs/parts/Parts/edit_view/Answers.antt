use Rattle.std.proofs.Common.{◌<◌, arith, length, refl, sym, ap}
use Rattle.std.proofs.lemmas.Option.{slice_get_within}
use Rattle.lists.proofs.Results.{on_ok, on_err}
use Rattle.live_state.specs.Live.{rows_of, schema_of}
use Rattle.room_core.specs.Steps.{refused_outs, view_edited}
use Rattle.room_core.specs.Values.{room_of}
use Rattle.room_core.proofs.ClientLists.{as_read, told_set}
use Rattle.room_core.proofs.Edited.{if_ok_same, missed_step, edited_outs, edited_room}
use Rattle.room_core.proofs.Orders.{told_ordered, told_sessions}
use Rattle.room_core.proofs.StandsLaws.{edits, stands_set}
use Rattle.room_core.proofs.parts.Parts.edit_view.Goals as goal

pub returns-in_default-clause-outs : goal.returns-in_default-clause-outs
returns-in_default-clause-outs g c =
    let p = c.args.self.now in
    let step = missed_step p.def p.criteria p.live p.shared p.places p.clients.items c.args.session (view_edited c.args.edit (schema_of p.live) (rows_of p.live) c.args.pair) c.in_default.ensures in
    if_ok_same c.refused.result _ _ (sym (ap (λ x. x.1) step)) c.refused.ensures

pub returns-in_default-clause-room : goal.returns-in_default-clause-room
returns-in_default-clause-room g c =
    let p = c.args.self.now in
    let step = missed_step p.def p.criteria p.live p.shared p.places p.clients.items c.args.session (view_edited c.args.edit (schema_of p.live) (rows_of p.live) c.args.pair) c.in_default.ensures in
    on_ok c.refused.result (sym (ap (λ x. x.0) step))

pub index_mut-requires : goal.index_mut-requires
index_mut-requires g c =
    let cs = c.args.self.now.clients in
    let within : c.in-Some.at < length cs.items = slice_get_within cs.items c.in-Some.at c.in-Some.ensures.0 c.in-Some.ensures.1 in
    omega (arith, within, cs.ok.0)

pub returns-in_err-refusal-clause-order : goal.returns-in_err-refusal-clause-order
returns-in_err-refusal-clause-order g c =
    let p = c.args.self.now in
    let one = c.index_mut.result.now in
    let own = as_read c.args.session p.clients.items c.in-Some.at one c.in-Some.ensures c.index_mut.ensures.value in
    on_err c.from_residual.result
    (told_ordered (room_of p) _ refl (told_sessions p.clients.items _ (told_set p.clients.items c.in-Some.at one c.edit_one.new.client own.0 c.edit_one.ensures.told)) c.requires.order)

pub returns-clause-outs : goal.returns-clause-outs
returns-clause-outs g c =
    let p = c.args.self.now in
    let one = c.index_mut.result.now in
    let own = as_read c.args.session p.clients.items c.in-Some.at one c.in-Some.ensures c.index_mut.ensures.value in
    if_ok_same c.refused-2.result (refused_outs c.in_ok-refusal.refusal) _
    (sym (edited_outs p.def p.criteria p.live p.shared p.places p.clients.items c.args.session (view_edited c.args.edit (schema_of p.live) (rows_of p.live) c.args.pair)
    c.requires.order.placed.distinct c.in-Some.at one c.edit_one.new.client own.0 own.1
    c.in_ok-refusal.refusal c.in_ok-refusal.ensures.tells)) c.refused-2.ensures

pub returns-clause-room : goal.returns-clause-room
returns-clause-room g c =
    let p = c.args.self.now in
    let one = c.index_mut.result.now in
    let own = as_read c.args.session p.clients.items c.in-Some.at one c.in-Some.ensures c.index_mut.ensures.value in
    on_ok c.refused-2.result
    (edited_room p.def p.criteria p.live p.shared p.places p.clients.items c.args.session (view_edited c.args.edit (schema_of p.live) (rows_of p.live) c.args.pair) c.requires.order.placed.distinct c.in-Some.at one c.edit_one.new.client own.0 own.1
    c.in_ok-refusal.refusal c.in_ok-refusal.ensures.tells)

pub returns-clause-stands : goal.returns-clause-stands
returns-clause-stands g c =
    let p = c.args.self.now in
    let one = c.index_mut.result.now in
    let own = as_read c.args.session p.clients.items c.in-Some.at one c.in-Some.ensures c.index_mut.ensures.value in
    on_ok c.refused-2.result (
      stands_set p.live p.shared p.clients.items c.in-Some.at one c.edit_one.new.client own.0
          (λ last. edits (schema_of p.live) last (rows_of p.live) one c.edit_one.new.client c.in_ok-refusal.ensures.edited c.in_ok-refusal.ensures.there) c.requires.stands.0,
      c.requires.stands.1,
      c.requires.stands.2,
    )

pub returns-clause-order : goal.returns-clause-order
returns-clause-order g c =
    let p = c.args.self.now in
    let one = c.index_mut.result.now in
    let own = as_read c.args.session p.clients.items c.in-Some.at one c.in-Some.ensures c.index_mut.ensures.value in
    on_err c.refused-2.result (told_ordered (room_of p) _ refl (told_sessions p.clients.items _ (told_set p.clients.items c.in-Some.at one c.edit_one.new.client own.0 c.edit_one.ensures.told)) c.requires.order)
