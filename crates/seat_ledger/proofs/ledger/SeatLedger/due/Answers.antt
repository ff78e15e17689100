use Rattle.std.proofs.Common.{subst}
use Rattle.room_model.specs.Seats.{Seats}
use Rattle.seat_ledger.specs.Calls.{LapsesAt}
use Rattle.seat_ledger.proofs.PlaceLaws.{lapses_at}
use Rattle.seat_ledger.proofs.ledger.SeatLedger.due.Goals as goal

pub returns : goal.returns
returns c = subst (λ (s : Seats). LapsesAt c.args.now s c.first_due.result) c.self.view_is
    (lapses_at c.args.now (record { max = c.self.inside.places.max; locked = c.self.inside.locked; entries = c.self.inside.places.entries }) c.first_due.result c.first_due.ensures)
