use Rattle.std.proofs.Common.{◌++◌, refl, sym, ap, ◌∙◌}
use Rattle.lists.proofs.Results.{on_ok, on_err}
use Rattle.live_state.specs.Live.{rows_of, schema_of}
use Rattle.room_core.specs.Values.{room_of, room_with}
use Rattle.room_core.proofs.ClientLists.{as_read, set_same, told_set}
use Rattle.room_core.proofs.Edited.{if_ok_same}
use Rattle.room_core.proofs.Orders.{told_ordered, told_sessions}
use Rattle.room_core.proofs.StandsLaws.{stands_set}
use Rattle.room_core.proofs.Told.{deaf_step, heard_outs, heard_room, unqueued_stands, unqueued_tells}
use Rattle.room_core.proofs.parts.Parts.send.Goals as goal

pub returns-in-Some-deaf-clause-outs : goal.returns-in-Some-deaf-clause-outs
returns-in-Some-deaf-clause-outs c =
    let p = c.args.self.now in
    let cs = p.clients.items in
    let one = c.index_mut-client.result.now in
    let own = as_read c.args.session cs c.in-Some.at one c.in-Some.ensures c.index_mut-client.ensures.value in
    let step = deaf_step p.def p.criteria p.live p.shared p.places cs c.args.session c.args.frame c.requires.order.placed.distinct c.in-Some.at one one own.0 own.1 c.in-Some-deaf.refusal (c.in-Some-deaf.ensures c.args.frame) in
    if_ok_same c.refused-in-Some-deaf.result _ _ (sym (ap (λ x. x.1) step)) c.refused-in-Some-deaf.ensures

pub returns-in-Some-deaf-clause-room : goal.returns-in-Some-deaf-clause-room
returns-in-Some-deaf-clause-room c =
    let p = c.args.self.now in
    let cs = p.clients.items in
    let one = c.index_mut-client.result.now in
    let own = as_read c.args.session cs c.in-Some.at one c.in-Some.ensures c.index_mut-client.ensures.value in
    let step = deaf_step p.def p.criteria p.live p.shared p.places cs c.args.session c.args.frame c.requires.order.placed.distinct c.in-Some.at one one own.0 own.1 c.in-Some-deaf.refusal (c.in-Some-deaf.ensures c.args.frame) in
    on_ok c.refused-in-Some-deaf.result (ap (room_with p.def p.criteria p.live p.shared p.places) (set_same cs c.in-Some.at one own.0) ∙ sym (ap (λ x. x.0) step))

pub returns-in_err-tell-clause-order : goal.returns-in_err-tell-clause-order
returns-in_err-tell-clause-order c =
    let p = c.args.self.now in
    let cs = p.clients.items in
    let one = c.index_mut-client.result.now in
    let own = as_read c.args.session cs c.in-Some.at one c.in-Some.ensures c.index_mut-client.ensures.value in
    on_err c.from_residual.result (told_ordered (room_of p) _ refl (told_sessions cs _ (told_set cs c.in-Some.at one c.tell.new.client own.0 (unqueued_tells one c.tell.new.client c.tell.ensures.same))) c.requires.order)

pub returns-clause-outs : goal.returns-clause-outs
returns-clause-outs c =
    let p = c.args.self.now in
    let cs = p.clients.items in
    let one = c.index_mut-client.result.now in
    let own = as_read c.args.session cs c.in-Some.at one c.in-Some.ensures c.index_mut-client.ensures.value in
    let told = c.in_ok-tell.ensures.told in
    told.sent ∙ ap (λ outs. outs ++ told.after.outs) c.new-outs.ensures
    ∙ heard_outs p.def p.criteria p.live p.shared p.places cs c.args.session c.args.frame c.requires.order.placed.distinct c.in-Some.at one c.tell.new.client own.0 own.1 told.after told.told

pub returns-clause-room : goal.returns-clause-room
returns-clause-room c =
    let p = c.args.self.now in
    let cs = p.clients.items in
    let one = c.index_mut-client.result.now in
    let own = as_read c.args.session cs c.in-Some.at one c.in-Some.ensures c.index_mut-client.ensures.value in
    let told = c.in_ok-tell.ensures.told in
    heard_room p.def p.criteria p.live p.shared p.places cs c.args.session c.args.frame c.requires.order.placed.distinct c.in-Some.at one c.tell.new.client own.0 own.1 told.after told.told told.session

pub returns-clause-stands : goal.returns-clause-stands
returns-clause-stands c =
    let p = c.args.self.now in
    let cs = p.clients.items in
    let one = c.index_mut-client.result.now in
    let own = as_read c.args.session cs c.in-Some.at one c.in-Some.ensures c.index_mut-client.ensures.value in (
      stands_set p.live p.shared cs c.in-Some.at one c.tell.new.client own.0 (λ last. unqueued_stands (schema_of p.live) last (rows_of p.live) one c.tell.new.client c.tell.ensures.same) c.requires.stands.0,
      c.requires.stands.1,
      c.requires.stands.2,
    )
