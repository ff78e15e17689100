use Rattle.std.proofs.Common.{◌≡◌, ℕ, ◌<◌, ◌+◌, List, length, map, set, ap, arith, sym, subst, ◌∙◌}
use Rattle.std.proofs.lemmas.Option.{slice_get_within}
use Rattle.live_state.specs.Live.{rows_of, schema_of}
use Rattle.room_model.specs.Seats.{Seats}
use Rattle.room_model.specs.Ledger.{keep}
use Rattle.room_model.specs.Room.{RoomValue, accepted, dropped, with_seats, with_sessions}
use Rattle.room_model.specs.Sessions.{change_session}
use Rattle.view_counts.specs.Settled.{View, new_view}
use Rattle.room_core.specs.Stands.{Stands}
use Rattle.room_core.specs.Steps.{client_seen, dropped_client}
use Rattle.room_core.specs.Values.{room_of, room_with, session_of_client}
use Rattle.room_core.proofs.ClientLists.{as_read}
use Rattle.room_core.proofs.Leaves.{drop_room, is_kept_for, lost_end, lost_kept}
use Rattle.room_core.proofs.Seated.{is_after, is_done, kept_ok}
use Rattle.room_core.proofs.StandsLaws.{drops, stands_set}
use Rattle.room_core.proofs.parts.Parts.lose.Goals as goal

pub returns-then-keep-eq0-clause-outs : goal.returns-then-keep-eq0-clause-outs
returns-then-keep-eq0-clause-outs c =
    let p = c.args.self.now in
    let one = c.index.result.now in
    let own = as_read c.args.session p.clients.items c.in-Some.at one c.in-Some.ensures c.index.ensures in
    let step = lost_end p.def p.criteria p.live p.shared p.places p.clients.items c.args.session c.requires.order.placed.distinct c.in-Some.at one own.0 own.1 c.args.now c.if-keep-eq0.true c.requires.connected in
    c.in_ok-outs.ensures ∙ sym (ap (λ x. x.1) step)

pub returns-then-keep-eq0-clause-room : goal.returns-then-keep-eq0-clause-room
returns-then-keep-eq0-clause-room c =
    let p = c.args.self.now in
    let one = c.index.result.now in
    let own = as_read c.args.session p.clients.items c.in-Some.at one c.in-Some.ensures c.index.ensures in
    let step = lost_end p.def p.criteria p.live p.shared p.places p.clients.items c.args.session c.requires.order.placed.distinct c.in-Some.at one own.0 own.1 c.args.now c.if-keep-eq0.true c.requires.connected in
    c.end.ensures.room ∙ sym (ap (λ x. x.0) step)

pub unwrap-requires : goal.unwrap-requires
unwrap-requires c =
    let p = c.args.self.now in
    let kept = kept_ok (room_of p) c.args.session (c.args.now + c.from.result) c.requires.order.placed c.requires.connected in
    is_done (keep p.places c.args.session (c.args.now + c.from.result)) kept.0 p.places c.keep.new.self c.keep.result kept.1 c.keep.ensures

pub index_mut-client-requires : goal.index_mut-client-requires
index_mut-client-requires c =
    let cs = c.args.self.now.clients in
    let within : c.in-Some.at < length cs.items = slice_get_within cs.items c.in-Some.at c.in-Some.ensures.0 c.in-Some.ensures.1 in
    omega (arith, within, cs.ok.0)

pub returns-clause-outs : goal.returns-clause-outs
returns-clause-outs c =
    let p = c.args.self.now in
    let one = c.index.result.now in
    let own = as_read c.args.session p.clients.items c.in-Some.at one c.in-Some.ensures c.index.ensures in
    let some = is_kept_for one.keep c.if-keep-eq0.false in
    let step = lost_kept p.def p.criteria p.live p.shared p.places p.clients.items c.args.session c.requires.order.placed.distinct c.in-Some.at one own.0 own.1 c.args.now some c.requires.connected in
    c.in_ok-outs-2.ensures ∙ sym (ap (λ x. x.1) step)

pub returns-clause-room : goal.returns-clause-room
returns-clause-room c =
    let p = c.args.self.now in
    let one = c.index.result.now in
    let d = c.index_mut-client.result.now in
    let own = as_read c.args.session p.clients.items c.in-Some.at one c.in-Some.ensures c.index.ensures in
    let also = as_read c.args.session p.clients.items c.in-Some.at d c.in-Some.ensures c.index_mut-client.ensures.value in
    let some = is_kept_for one.keep c.if-keep-eq0.false in
    let distinct = c.requires.order.placed.distinct in
    let step = lost_kept p.def p.criteria p.live p.shared p.places p.clients.items c.args.session distinct c.in-Some.at one own.0 own.1 c.args.now some c.requires.connected in
    let kept = kept_ok (room_of p) c.args.session (c.args.now + c.from.result) c.requires.order.placed c.requires.connected in
    let taken = is_after (keep p.places c.args.session (c.args.now + c.from.result)) kept.0 p.places c.keep.new.self c.keep.result kept.1 c.keep.ensures in
    let places : c.keep.new.self ≡ accepted p.places (keep p.places c.args.session (c.args.now + one.keep)) =
    taken ∙ sym (ap (accepted p.places) kept.1) ∙ ap (λ k. accepted p.places (keep p.places c.args.session (c.args.now + k))) c.from.ensures in
    let seen : c.in_ok-view.view ≡ new_view (schema_of p.live) = c.in_ok-view.ensures ∙ ap new_view c.schema.ensures.value in
    let room_seen : View → List (List ℕ) → RoomValue = λ v queue. room_with p.def p.criteria p.live p.shared c.keep.new.self (set p.clients.items c.in-Some.at (client_seen v queue d)) in
    ap (λ v. room_seen v c.new-3.result) seen
    ∙ ap (room_seen (new_view (schema_of p.live))) c.new-3.ensures
    ∙ drop_room p.def p.criteria p.live p.shared p.places p.clients.items c.args.session distinct c.in-Some.at d also.0 also.1 c.keep.new.self
    ∙ ap (λ (seats : Seats). with_seats (with_sessions (room_of p) (change_session c.args.session (dropped (schema_of p.live)) (map session_of_client p.clients.items))) seats) places
    ∙ sym (ap (λ x. x.0) step)

pub returns-clause-stands : goal.returns-clause-stands
returns-clause-stands c =
    let p = c.args.self.now in
    let d = c.index_mut-client.result.now in
    let also = as_read c.args.session p.clients.items c.in-Some.at d c.in-Some.ensures c.index_mut-client.ensures.value in
    let seen : c.in_ok-view.view ≡ new_view (schema_of p.live) = c.in_ok-view.ensures ∙ ap new_view c.schema.ensures.value in (
      subst (λ (v : View). Stands p.live p.shared (set p.clients.items c.in-Some.at (client_seen v c.new-3.result d))) (sym seen)
          (subst (λ queue. Stands p.live p.shared (set p.clients.items c.in-Some.at (client_seen (new_view (schema_of p.live)) queue d))) (sym c.new-3.ensures)
          (stands_set p.live p.shared p.clients.items c.in-Some.at d (dropped_client (schema_of p.live) d) also.0 (λ last. drops (schema_of p.live) last (rows_of p.live) d) c.requires.stands.0)),
      c.requires.stands.1,
      c.requires.stands.2,
    )
