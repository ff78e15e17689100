use Rattle.std.proofs.Common.{◌≡◌, ◌++◌, take}
use Rattle.std.specs.List.{flat_map}
use Rattle.hub_core.specs.OpenRooms.{byte_key}
use Rattle.hub_core.proofs.open_rooms.put_text.Given as goal

abbrev pub invariant-loop-byte : goal.invariant-loop-byte
invariant-loop-byte l = l.key.items ≡ l.fn.key.items ++ flat_map byte_key (take l.byte-index l.text)
