use Rattle.hub_core.proofs.LeftLaws.{Leaving}
use Rattle.hub_core.proofs.parts.Parts.dispose_all.Given as goal

abbrev pub invariant-rooms : goal.invariant-rooms
invariant-rooms g l = Leaving g.R.RoomLike.room g.R.RoomLike.Holds l.serial-iterator l.initial.self l.self l.initial.outs l.outs
