use Rattle.std.proofs.Common.{◌≤◌, ◌+◌}
use Rattle.hub_core.specs.Costs.{lapse_cost}
use Rattle.hub_core.proofs.LapsedLaws.{Lapsing}
use Rattle.hub_core.proofs.parts.Parts.lapse_all.Given as goal

abbrev pub invariant-rooms : goal.invariant-rooms
invariant-rooms g l =
    Lapsing g.R.RoomLike.room g.R.RoomLike.Holds g.R.RoomLike.handled l.initial.self.moment l.due.keys l.serial-iterator l.initial.self l.self l.initial.outs l.outs
    × (l.steps + lapse_cost g.R.RoomLike.room g.R.RoomLike.costs l.initial.self.moment l.serial-iterator l.self.registry.rooms ≤ l.initial.steps + lapse_cost g.R.RoomLike.room
    g.R.RoomLike.costs l.initial.self.moment l.due.keys l.initial.self.registry.rooms)
