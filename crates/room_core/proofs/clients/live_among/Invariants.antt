use Rattle.std.proofs.Common.{◌≡◌, ◌+◌, ◌≤◌, drop, map}
use Rattle.room_core.specs.Values.{live_count, session_of_client}
use Rattle.room_core.proofs.clients.live_among.Given as goal

abbrev pub invariant-loop-client : goal.invariant-loop-client
invariant-loop-client l = record {
  left : l.count + live_count (map session_of_client (drop l.client-index l.clients)) ≡ live_count (map session_of_client l.clients);
  small : l.count ≤ l.client-index;
}
