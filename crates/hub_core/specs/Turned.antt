-- A hub behind an event of one of its rooms, as long as no room is disposed of. Ours.
use Rattle.std.specs.Prelude.{◌≡◌, ◌++◌, Bool, List}
use Rattle.std.specs.List.{flat_map}
use Rattle.room_model.specs.declared.event.RoomEvent.{RoomEvent}
use Rattle.room_model.specs.Room.{RoomValue}
use Rattle.hub_model.specs.declared.event.HubOut.{HubOut}
use Rattle.hub_model.specs.Dealt.{RoomStep, told_out}
use Rattle.hub_core.specs.declared.parts.Parts.{Parts}
use Rattle.hub_core.specs.declared.entry.RoomEntry.{RoomEntry}
use Rattle.hub_core.specs.Endings.{ended_by, without_all}
use Rattle.hub_core.specs.RoomEntry.{IsStepped}

-- the room took its step, what it gives is told, and the connections that it ends are gone
pub record Turned {R : Type 0} (room : R → RoomValue) (is_spent : R → Bool) (step : RoomStep) (ev : RoomEvent) (s : RoomEntry R) (old new : Parts R) (before after : List HubOut) : Type 0 where
  pub stepped : IsStepped room is_spent s old.registry.rooms new.registry.rooms (step (room s.room) ev).0
  pub outs : after ≡ before ++ flat_map (told_out old.conns s.id) (step (room s.room) ev).1
  pub conns : new.conns ≡ without_all s.id (flat_map ended_by (step (room s.room) ev).1) old.conns
  pub moment : new.moment ≡ old.moment
  pub schema : new.schema ≡ old.schema
  pub process : new.process ≡ old.process
  pub defs : new.defs ≡ old.defs
  pub session_rooms : new.session_rooms ≡ old.session_rooms
