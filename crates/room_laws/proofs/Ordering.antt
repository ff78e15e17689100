-- Rooms in order stay so.
use Rattle.std.proofs.Common.{◌≡◌, ◌≤◌, ℕ, true, List, zero-le}
use Rattle.schema_model.specs.Classes.{Schema}
use Rattle.room_model.specs.declared.definition.RoomDef.{RoomDef}
use Rattle.room_model.specs.declared.event.RoomEvent.{RoomEvent}
use Rattle.room_model.specs.Seats.{in_use}
use Rattle.room_model.specs.Room.{RoomValue, new_room, room_step}
use Rattle.room_laws.specs.Places.{may_happen}
use Rattle.room_laws.specs.StepLaws.{StepLaws, connected}
use Rattle.room_laws.specs.Names.{KeepsNames, AreKeptNamed}
use Rattle.room_laws.proofs.RoomPlaced.{new_placed, step_placed}
use Rattle.room_laws.proofs.RoomPlaces.{step_keeps}
use Rattle.room_laws.proofs.RoomObeys as obeys
use Rattle.room_laws.proofs.SessionNames as session_names
use Rattle.room_laws.proofs.QuietSteps as quiet
use Rattle.room_laws.specs.Quiet.{KeepsPlaces}
use Rattle.room_laws.specs.Ordered.{Ordered}

pub new_ordered : (schema : Schema) (def : RoomDef) (criteria : List (List ℕ)) → Ordered (new_room schema def criteria)
new_ordered schema def criteria = record { placed = new_placed schema def criteria; within = zero-le }

pub step_ordered : (r : RoomValue) (e : RoomEvent) → Ordered r → may_happen r e ≡ true → Ordered (room_step r e).0
step_ordered r e o may = record { placed = step_placed r e o.placed may; within = (step_keeps r e o.within may).0 }

pub step_tells : (r : RoomValue) (e : RoomEvent) → Ordered r → may_happen r e ≡ true → StepLaws r e (room_step r e)
step_tells r e o may = obeys.step_obeys r e o.placed may

pub place_taken : (r : RoomValue) (id : List ℕ) → Ordered r → connected r id ≡ true → 1 ≤ in_use r.seats
place_taken r id o is = obeys.place_taken r id o.placed is

pub places_within : (r : RoomValue) → Ordered r → in_use r.seats ≤ r.seats.max
places_within r o = o.within

pub step_names : (r : RoomValue) (e : RoomEvent) → Ordered r → may_happen r e ≡ true → KeepsNames r e (room_step r e).0
step_names r e o may = session_names.step_names r e

pub kept_named : (r : RoomValue) → Ordered r → AreKeptNamed r
kept_named r o = session_names.kept_named r o.placed

pub step_quiet : (r : RoomValue) (e : RoomEvent) → Ordered r → may_happen r e ≡ true → KeepsPlaces r e (room_step r e)
step_quiet r e o may = quiet.step_quiet r e
