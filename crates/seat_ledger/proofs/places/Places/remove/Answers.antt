use Rattle.std.proofs.Common.{◌∙◌, ◌<◌, Some, length, sym, ap, arith}
use Rattle.seat_ledger.specs.Slots.{is_key, one_of}
use Rattle.seat_ledger.specs.Keys.{by_session, by_token, by_lapse}
use Rattle.seat_ledger.proofs.HeldLaws.{only_at}
use Rattle.seat_ledger.proofs.PlaceLaws.{there_is, kept_removed}
use Rattle.seat_ledger.proofs.places.Places.remove.Goals as goal

pub remove-requires-clause-own : goal.remove-requires-clause-own
remove-requires-clause-own c q =
    let es = c.self.inside.entries.items in
    let there = there_is es c.args.at c.index.result.now (omega (arith, c.requires, ap (λ p. length p.entries) c.self.view_is)) c.index.ensures in
    only_at by_session es c.args.at c.index.result.now c.self.inside.by_session c.self.invariant.under_session there q ∙ ap (λ n. is_key q (Some n)) (sym c.id_key.ensures.value)

pub remove-requires-2-clause-own : goal.remove-requires-2-clause-own
remove-requires-2-clause-own c q =
    let es = c.self.inside.entries.items in
    let there = there_is es c.args.at c.index.result.now (omega (arith, c.requires, ap (λ p. length p.entries) c.self.view_is)) c.index.ensures in
    only_at by_token es c.args.at c.index.result.now c.self.inside.by_token c.self.invariant.under_token there q ∙ ap (is_key q) (sym c.token_key.ensures.value)

pub remove-requires-3-clause-own : goal.remove-requires-3-clause-own
remove-requires-3-clause-own c q =
    let es = c.self.inside.entries.items in
    let there = there_is es c.args.at c.index.result.now (omega (arith, c.requires, ap (λ p. length p.entries) c.self.view_is)) c.index.ensures in
    only_at by_lapse es c.args.at c.index.result.now c.self.inside.by_lapse c.self.invariant.under_lapse there q ∙ ap (is_key q) (sym c.lapse_key.ensures.value)

pub invariant_of-self : goal.invariant_of-self
invariant_of-self c =
    let es = c.self.inside.entries.items in
    let old = c.index.result.now in
    let within : c.args.at < length es = omega (arith, c.requires, ap (λ p. length p.entries) c.self.view_is) in
    let there = there_is es c.args.at old within c.index.ensures in
    rw (c.remove-4.ensures.items, c.remove-4.ensures.capacity)
    (kept_removed c.self.inside.max _ c.args.at es old c.self.inside.by_session c.self.inside.by_token c.self.inside.by_lapse c.remove.new.self c.remove-2.new.self c.remove-3.new.self
    c.self.invariant within there c.remove.ensures.kept c.remove-2.ensures.kept c.remove-3.ensures.kept c.remove.ensures.count c.remove-2.ensures.count c.remove-3.ensures.count
    c.remove.ensures.slots c.remove.ensures.length
    c.remove-2.ensures.slots (omega (arith, c.remove-2.ensures.length, ap one_of c.token_key.ensures.value))
    c.remove-3.ensures.slots (omega (arith, c.remove-3.ensures.length, ap one_of c.lapse_key.ensures.value)))
