use Rattle.std.proofs.Common.{◌≡◌, length}
use Rattle.hub_core.specs.OpenRooms.{AreEmpty}
use Rattle.hub_core.proofs.registry.none_open.Given as goal

abbrev pub invariant-loop : goal.invariant-loop
invariant-loop l = (length l.open_rooms.items ≡ l.counter) × AreEmpty l.open_rooms.items
