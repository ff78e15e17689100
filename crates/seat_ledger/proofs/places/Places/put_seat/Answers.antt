use Rattle.std.proofs.Common.{◌≡◌, ◌∙◌, ◌<◌, ◌≤◌, ◌==◌, Some, cond, List, length, set, subst, sym, ap, arith}
use Rattle.std.specs.Prelude.{slice_get}
use Rattle.std.proofs.lemmas.List.{length-set}
use Rattle.std.proofs.lemmas.Option.{same_Some}
use Rattle.room_model.specs.declared.seat.SeatEntry.{SeatEntry}
use Rattle.seat_ledger.specs.Slots.{has_slot, is_key, one_of}
use Rattle.seat_ledger.specs.Keys.{by_token, by_lapse}
use Rattle.seat_ledger.specs.Places.{IsOwnToken, PlacesState}
use Rattle.seat_ledger.proofs.HeldLaws.{only_at, room_set}
use Rattle.seat_ledger.proofs.PlaceLaws.{there_is, kept_set}
use Rattle.seat_ledger.proofs.places.Places.put_seat.Goals as goal

pub exchange-requires-clause-own : goal.exchange-requires-clause-own
exchange-requires-clause-own c q =
    let es = c.self.inside.entries.items in
    let old = c.index.result.now in
    let there = there_is es c.args.at old (omega (arith, c.requires.within, ap (λ p. length p.entries) c.self.view_is)) c.index.ensures in
    only_at by_token es c.args.at old c.self.inside.by_token c.self.invariant.under_token there q ∙ ap (is_key q) (sym c.token_key.ensures.value)

pub exchange-requires-clause-room : goal.exchange-requires-clause-room
exchange-requires-clause-room c =
    let es = c.self.inside.entries.items in
    let old = c.index.result.now in
    let e : SeatEntry = record { session = old.session; seat = c.args.seat } in
    let there = there_is es c.args.at old (omega (arith, c.requires.within, ap (λ p. length p.entries) c.self.view_is)) c.index.ensures in
    let fits : length (set es c.args.at e) ≤ c.self.inside.by_token.room = omega (arith, length-set es c.args.at e, c.self.invariant.few, c.self.invariant.token_room) in
    omega (arith, room_set by_token es c.args.at old e c.self.inside.by_token c.self.inside.by_token.room c.self.invariant.under_token there fits, ap one_of c.token_key.ensures.value, ap one_of c.token_key-2.ensures.value)

pub exchange-requires-2-clause-own : goal.exchange-requires-2-clause-own
exchange-requires-2-clause-own c q =
    let es = c.self.inside.entries.items in
    let old = c.index.result.now in
    let there = there_is es c.args.at old (omega (arith, c.requires.within, ap (λ p. length p.entries) c.self.view_is)) c.index.ensures in
    only_at by_lapse es c.args.at old c.self.inside.by_lapse c.self.invariant.under_lapse there q ∙ ap (is_key q) (sym c.lapse_key.ensures.value)

pub exchange-requires-2-clause-room : goal.exchange-requires-2-clause-room
exchange-requires-2-clause-room c =
    let es = c.self.inside.entries.items in
    let old = c.index.result.now in
    let e : SeatEntry = record { session = old.session; seat = c.args.seat } in
    let there = there_is es c.args.at old (omega (arith, c.requires.within, ap (λ p. length p.entries) c.self.view_is)) c.index.ensures in
    let fits : length (set es c.args.at e) ≤ c.self.inside.by_lapse.room = omega (arith, length-set es c.args.at e, c.self.invariant.few, c.self.invariant.lapse_room) in
    omega (arith, room_set by_lapse es c.args.at old e c.self.inside.by_lapse c.self.inside.by_lapse.room c.self.invariant.under_lapse there fits, ap one_of c.lapse_key.ensures.value, ap one_of c.lapse_key-2.ensures.value)

pub invariant_of-self : goal.invariant_of-self
invariant_of-self c =
    let es = c.self.inside.entries.items in
    let old = c.index.result.now in
    let at = c.args.at in
    let within : at < length es = omega (arith, c.requires.within, ap (λ p. length p.entries) c.self.view_is) in
    let there = there_is es at old within c.index.ensures in
    let own : IsOwnToken c.args.seat es at = subst (λ p. IsOwnToken c.args.seat p.entries at) (sym c.self.view_is) c.requires.own in
    kept_set c.self.inside.max _ at es old c.args.seat c.self.inside.by_session c.self.inside.by_token c.self.inside.by_lapse c.exchange.new.self c.exchange-2.new.self
    c.self.invariant within there own c.token_key-2.ensures.id c.exchange.ensures.kept c.exchange-2.ensures.kept c.exchange.ensures.count c.exchange-2.ensures.count
    (λ q p. c.exchange.ensures.slots q p ∙ ap (λ k. cond (p == at) (is_key q k) (has_slot q p c.self.inside.by_token.slots)) c.token_key-2.ensures.value)
    (omega (arith, c.exchange.ensures.length, ap one_of c.token_key.ensures.value, ap one_of c.token_key-2.ensures.value))
    (λ q p. c.exchange-2.ensures.slots q p ∙ ap (λ k. cond (p == at) (is_key q k) (has_slot q p c.self.inside.by_lapse.slots)) c.lapse_key-2.ensures.value)
    (omega (arith, c.exchange-2.ensures.length, ap one_of c.lapse_key.ensures.value, ap one_of c.lapse_key-2.ensures.value))

pub returns : goal.returns
returns c =
    let es = c.self.inside.entries.items in
    let old = c.index.result.now in
    let at = c.args.at in
    let there = there_is es at old (omega (arith, c.requires.within, ap (λ p. length p.entries) c.self.view_is)) c.index.ensures in
    let state : List SeatEntry → PlacesState = λ l. record { max = c.self.inside.max; entries = l } in
    subst (λ (p : PlacesState). (e : SeatEntry) → slice_get p.entries at ≡ Some e
    → state (set es at (record { session = old.session; seat = c.args.seat })) ≡ record { max = p.max; entries = set p.entries at (record { session = e.session; seat = c.args.seat }) }) c.self.view_is
    (λ e h. ap (λ (x : SeatEntry). state (set es at (record { session = x.session; seat = c.args.seat }))) (same_Some old e (sym there ∙ h)))
