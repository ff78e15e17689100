use Rattle.std.proofs.Common.{◌≡◌, ◌+◌, ◌≤◌, drop, length}
use Rattle.std.specs.Prelude.{filter}
use Rattle.room_server.specs.Summaries.{is_tick}
use Rattle.room_server.proofs.summary.ticks_in.Given as goal

abbrev pub invariant-loop-event : goal.invariant-loop-event
invariant-loop-event l = record {
  left : l.ticks + length (filter is_tick (drop l.event-index l.events)) ≡ length (filter is_tick l.events);
  small : l.ticks ≤ l.event-index;
}
