use Rattle.std.proofs.Common.{◌≡◌, take}
use Rattle.std.specs.List.{flat_map}
use Rattle.hub_core.specs.OpenRooms.{text_key}
use Rattle.hub_core.proofs.open_rooms.criteria_key.Given as goal

abbrev pub invariant-loop-text : goal.invariant-loop-text
invariant-loop-text l = l.key.items ≡ flat_map text_key (take l.text-index l.criteria)
