use Rattle.std.proofs.Common.{◌≡◌, take}
use Rattle.std.specs.List.{flat_map}
use Rattle.hub_core.specs.Endings.{ended_by}
use Rattle.hub_core.proofs.tell.ended.Given as goal

abbrev pub invariant-loop-out : goal.invariant-loop-out
invariant-loop-out l = l.ids.items ≡ flat_map ended_by (take l.out-index l.outs)
