use Rattle.std.proofs.Common.{ap, refl, sym, ◌∙◌}
use Rattle.lists.proofs.Results.{on_ok, on_err}
use Rattle.state_model.specs.Members.{Members}
use Rattle.live_state.specs.Live.{rows_of, schema_of}
use Rattle.view_edits.specs.There.{are_there}
use Rattle.room_model.specs.Sessions.{keep_set}
use Rattle.room_core.specs.Steps.{refused_outs}
use Rattle.room_core.specs.Values.{room_of}
use Rattle.room_core.proofs.ClientLists.{as_read, told_set}
use Rattle.room_core.proofs.Edited.{if_ok_same, edited_outs, edited_room}
use Rattle.room_core.proofs.Orders.{edited_tells, told_ordered, told_sessions}
use Rattle.room_core.proofs.StandsLaws.{edits, stands_set}
use Rattle.room_core.proofs.parts.Parts.set_keep.Goals as goal

pub returns-clause-outs : goal.returns-clause-outs
returns-clause-outs c =
    let p = c.args.self.now in
    let one = c.index_mut.result.now in
    let own = as_read c.args.session p.clients.items c.in-Some.at one c.in-Some.ensures c.index_mut.ensures.value in
    if_ok_same c.refused-2.result (refused_outs c.keep_one-refusal.result) _
    (sym (edited_outs p.def p.criteria p.live p.shared p.places p.clients.items c.args.session (keep_set c.args.ms) c.requires.order.placed.distinct c.in-Some.at one c.keep_one-refusal.new.client own.0 own.1
    c.keep_one-refusal.result c.keep_one-refusal.ensures.tells)) c.refused-2.ensures

pub returns-clause-room : goal.returns-clause-room
returns-clause-room c =
    let p = c.args.self.now in
    let one = c.index_mut.result.now in
    let own = as_read c.args.session p.clients.items c.in-Some.at one c.in-Some.ensures c.index_mut.ensures.value in
    on_ok c.refused-2.result
    (edited_room p.def p.criteria p.live p.shared p.places p.clients.items c.args.session (keep_set c.args.ms) c.requires.order.placed.distinct c.in-Some.at one c.keep_one-refusal.new.client own.0 own.1
    c.keep_one-refusal.result c.keep_one-refusal.ensures.tells)

pub returns-clause-stands : goal.returns-clause-stands
returns-clause-stands c =
    let p = c.args.self.now in
    let one = c.index_mut.result.now in
    let own = as_read c.args.session p.clients.items c.in-Some.at one c.in-Some.ensures c.index_mut.ensures.value in
    on_ok c.refused-2.result (
      stands_set p.live p.shared p.clients.items c.in-Some.at one c.keep_one-refusal.new.client own.0
          (λ last was. edits (schema_of p.live) last (rows_of p.live) one c.keep_one-refusal.new.client c.keep_one-refusal.ensures.edited (ap (λ (m : Members). are_there (rows_of p.live) m.now) c.keep_one-refusal.ensures.members ∙ was.pairs) was)
          c.requires.stands.0,
      c.requires.stands.1,
      c.requires.stands.2,
    )

pub returns-clause-order : goal.returns-clause-order
returns-clause-order c =
    let p = c.args.self.now in
    let one = c.index_mut.result.now in
    let own = as_read c.args.session p.clients.items c.in-Some.at one c.in-Some.ensures c.index_mut.ensures.value in
    on_err c.refused-2.result
    (told_ordered (room_of p) _ refl (told_sessions p.clients.items _
    (told_set p.clients.items c.in-Some.at one c.keep_one-refusal.new.client own.0 (edited_tells one c.keep_one-refusal.new.client c.keep_one-refusal.ensures.edited))) c.requires.order)
