use Rattle.std.proofs.Common.{◌≡◌, ◌-◌}
use Rattle.state_model.specs.Reached.{times}
use Rattle.room_model.specs.Room.{after_moment}
use Rattle.room_laws.specs.Ordered.{Ordered}
use Rattle.room_core.specs.Leaving.{lapsed_at}
use Rattle.room_core.specs.Stands.{RoomStands}
use Rattle.room_core.specs.Values.{room_of}
use Rattle.room_core.proofs.parts.Parts.lapse.Given as goal

-- the room is in order, and what is left to lapse makes of it what the moment does
abbrev pub invariant-loop : goal.invariant-loop
invariant-loop l = record {
  stands : RoomStands l.self;
  order : Ordered (room_of l.self);
  left : times (l.end - l.counter) (lapsed_at l.now) (room_of l.self, l.outs) ≡ after_moment (room_of l.fn.self) l.now;
}
