use Rattle.std.proofs.Common.{◌≡◌, ◌+◌, ◌-◌, drop, length}
use Rattle.room_server.specs.Summaries.{live_in}
use Rattle.room_server.proofs.summary.live_in.Given as goal

abbrev pub invariant-loop-room : goal.invariant-loop-room
invariant-loop-room l = l.live + live_in (drop l.at l.hub.hub.rooms) ≡ live_in l.hub.hub.rooms

abbrev pub decreases-loop-room : goal.decreases-loop-room
decreases-loop-room l = length l.hub.hub.rooms - l.at
