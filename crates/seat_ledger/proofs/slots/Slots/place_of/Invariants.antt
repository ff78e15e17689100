use Rattle.std.proofs.Common.{◌-◌}
use Rattle.seat_ledger.specs.Search.{IsSearched}
use Rattle.seat_ledger.proofs.slots.Slots.place_of.Given as goal

-- what is before the low end stands before the slot, what is from the high end on doesn't
abbrev pub invariant-loop-low : goal.invariant-loop-low
invariant-loop-low l = IsSearched l.self.slots l.slot l.low l.high

abbrev pub decreases-loop-low : goal.decreases-loop-low
decreases-loop-low l = l.high - l.low
