use Rattle.std.proofs.Common.{◌≡◌, ◌∙◌, ◌<◌, ◌++◌, ◌∷◌, [], cond, is_ok, ◌||◌, ◌&&◌, ◌==◌, length, subst, sym, ap, arith}
use Rattle.room_model.specs.declared.seat.Seat.TheVariants.{Reserved}
use Rattle.room_model.specs.declared.seat.SeatEntry.{SeatEntry}
use Rattle.seat_ledger.specs.Slots.{has_slot}
use Rattle.seat_ledger.specs.Keys.{by_session, by_lapse}
use Rattle.seat_ledger.specs.Places.{IsNew}
use Rattle.seat_ledger.proofs.HeldLaws.{free_behind, room_behind}
use Rattle.seat_ledger.proofs.PlaceLaws.{kept_more}
use Rattle.seat_ledger.proofs.places.Places.add.Goals as goal

pub add-requires-clause-room : goal.add-requires-clause-room
add-requires-clause-room c =
    let es = c.self.inside.entries.items in
    let e : SeatEntry = record { session = c.args.session; seat = Reserved c.args.lapse } in
    let few : length es < c.self.inside.by_session.room = omega (arith, c.requires.room, ap (λ p. length p.entries) c.self.view_is, ap (λ p. p.max) c.self.view_is, c.self.invariant.session_room) in
    omega (arith, room_behind by_session es e c.self.inside.by_session c.self.inside.by_session.room c.self.invariant.under_session few, ap length c.grow.ensures.slots, c.grow.ensures.kept)

pub add-requires-clause-free : goal.add-requires-clause-free
add-requires-clause-free c =
    let es = c.self.inside.entries.items in
    let end : c.len-at.result ≡ length es = c.len-at.ensures.value ∙ sym (ap (λ p. length p.entries) c.self.view_is) in
    rw (end, c.grow.ensures.slots) (free_behind by_session es c.self.inside.by_session c.self.invariant.under_session)

pub add-requires-2-clause-room : goal.add-requires-2-clause-room
add-requires-2-clause-room c =
    let es = c.self.inside.entries.items in
    let e : SeatEntry = record { session = c.args.session; seat = Reserved c.args.lapse } in
    let few : length es < c.self.inside.by_lapse.room = omega (arith, c.requires.room, ap (λ p. length p.entries) c.self.view_is, ap (λ p. p.max) c.self.view_is, c.self.invariant.lapse_room) in
    omega (arith, room_behind by_lapse es e c.self.inside.by_lapse c.self.inside.by_lapse.room c.self.invariant.under_lapse few, ap length c.grow-3.ensures.slots, c.grow-3.ensures.kept)

pub add-requires-2-clause-free : goal.add-requires-2-clause-free
add-requires-2-clause-free c =
    let es = c.self.inside.entries.items in
    let end : c.len-at.result ≡ length es = c.len-at.ensures.value ∙ sym (ap (λ p. length p.entries) c.self.view_is) in
    rw (end, c.grow-3.ensures.slots) (free_behind by_lapse es c.self.inside.by_lapse c.self.invariant.under_lapse)

pub invariant_of-self : goal.invariant_of-self
invariant_of-self c =
    let es = c.self.inside.entries.items in
    let e : SeatEntry = record { session = c.args.session; seat = Reserved c.args.lapse } in
    let end : c.len-at.result ≡ length es = c.len-at.ensures.value ∙ sym (ap (λ p. length p.entries) c.self.view_is) in
    let few : length es < c.self.inside.max = omega (arith, c.requires.room, ap (λ p. length p.entries) c.self.view_is, ap (λ p. p.max) c.self.view_is) in
    let new : IsNew c.args.session es = subst (λ p. IsNew c.args.session p.entries) (sym c.self.view_is) c.requires.new in
    let items : c.push.new.self.items ≡ es ++ e ∷ [] = c.push.ensures.items ∙ ap (λ r. cond (is_ok r) (es ++ e ∷ []) es) c.unwrap.ensures in
    rw items (kept_more c.self.inside.max _ _ c.len-at.result c.id_key.result c.from.result es c.args.session c.args.lapse
    c.self.inside.by_session c.self.inside.by_token c.self.inside.by_lapse c.add.new.self c.grow-2.new.self c.add-2.new.self
    c.self.invariant few new c.id_key.ensures.id end c.id_key.ensures.value c.from.ensures c.push.ensures.capacity
    (omega (arith, c.grow.ensures.kept, c.add.ensures.kept)) c.grow-2.ensures.kept (omega (arith, c.grow-3.ensures.kept, c.add-2.ensures.kept))
    (omega (arith, c.grow.ensures.count, c.add.ensures.count)) c.grow-2.ensures.count (omega (arith, c.grow-3.ensures.count, c.add-2.ensures.count))
    (λ q p. c.add.ensures.slots q p ∙ ap (λ l. has_slot q p l || ((p == c.len-at.result) && (c.id_key.result == q))) c.grow.ensures.slots) (omega (arith, c.add.ensures.length, ap length c.grow.ensures.slots))
    c.grow-2.ensures.slots
    (λ q p. c.add-2.ensures.slots q p ∙ ap (λ l. has_slot q p l || ((p == c.len-at.result) && (c.from.result == q))) c.grow-3.ensures.slots) (omega (arith, c.add-2.ensures.length, ap length c.grow-3.ensures.slots)))
