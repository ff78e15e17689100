use Rattle.std.proofs.Common.{◌≡◌, take}
use Rattle.live_state.specs.Live.{rows_of}
use Rattle.room_core.specs.Ticks.{AllThere, client_swept}
use Rattle.room_core.proofs.Mixed.{mixed}
use Rattle.room_core.proofs.ticks.forget_all.Given as goal

-- the clients so far are swept, and their pairs are of rows that are there
abbrev pub invariant-loop-client : goal.invariant-loop-client
invariant-loop-client l = record {
  swept : l.client-items ≡ mixed (client_swept (rows_of l.live)) l.client-index l.initial.client-items;
  there : AllThere (rows_of l.live) (take l.client-index l.client-items);
}
