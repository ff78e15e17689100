use Rattle.std.proofs.Common.{◌≡◌, ◌++◌, map, take, drop}
use Rattle.seat_ledger.specs.Slots.{closed_place}
use Rattle.seat_ledger.proofs.slots.close_all.Given as goal

-- the places so far have moved down, and the others stand as before
abbrev pub invariant-loop-place : goal.invariant-loop-place
invariant-loop-place l = l.places ≡ map (closed_place l.gone) (take l.place-index l.initial.places) ++ drop l.place-index l.initial.places
