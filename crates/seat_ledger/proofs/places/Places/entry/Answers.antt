use Rattle.std.proofs.Common.{◌≡◌, Some, length, subst, ap, arith}
use Rattle.std.specs.Prelude.{slice_get}
use Rattle.seat_ledger.specs.Places.{IsPlaceOf, IsOwnToken}
use Rattle.seat_ledger.proofs.PlaceLaws.{there_is, place_at, own_at}
use Rattle.seat_ledger.proofs.places.Places.entry.Goals as goal

there : (c : goal.After-result-1) → slice_get c.self.inside.entries.items c.args.at ≡ Some c.index.result.now
there c = there_is c.self.inside.entries.items c.args.at c.index.result.now (omega (arith, c.requires, ap (λ p. length p.entries) c.self.view_is)) c.index.ensures

pub returns-clause-place : goal.returns-clause-place
returns-clause-place c =
    subst (λ p. IsPlaceOf c.index.result.now.session p.entries c.args.at) c.self.view_is
    (place_at c.self.inside.entries.items c.args.at c.index.result.now c.self.invariant.ids c.self.invariant.one_session (there c))

pub returns-clause-own : goal.returns-clause-own
returns-clause-own c =
    subst (λ p. IsOwnToken c.index.result.now.seat p.entries c.args.at) c.self.view_is
    (own_at c.self.inside.entries.items c.args.at c.index.result.now c.self.invariant.one_token (there c))
