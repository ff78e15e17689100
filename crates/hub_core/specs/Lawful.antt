-- The laws of rooms on which a hub rests: those of their trait. Ours.
use Rattle.std.specs.Prelude.{◌≡◌, ℕ, ◌≤◌, true, List}
use Rattle.room_model.specs.declared.event.RoomEvent.{RoomEvent}
use Rattle.room_model.specs.Room.{RoomValue}
use Rattle.room_model.specs.Seats.{in_use}
use Rattle.room_laws.specs.Names.{AreKeptNamed, KeepsNames}
use Rattle.room_laws.specs.Places.{may_happen}
use Rattle.room_laws.specs.StepLaws.{StepLaws, connected}
use Rattle.room_laws.specs.Quiet.{KeepsPlaces}
use Rattle.hub_model.specs.Dealt.{RoomStep}

pub record Lawful (Holds : RoomValue → Type 0) (handled : RoomStep) : Type 0 where
  pub goes_on : (r : RoomValue) (e : RoomEvent) → Holds r → may_happen r e ≡ true → Holds (handled r e).0
  pub tells : (r : RoomValue) (e : RoomEvent) → Holds r → may_happen r e ≡ true → StepLaws r e (handled r e)
  pub seats : (r : RoomValue) (id : List ℕ) → Holds r → connected r id ≡ true → 1 ≤ in_use r.seats
  pub names : (r : RoomValue) (e : RoomEvent) → Holds r → may_happen r e ≡ true → KeepsNames r e (handled r e).0
  pub quiet : (r : RoomValue) (e : RoomEvent) → Holds r → may_happen r e ≡ true → KeepsPlaces r e (handled r e)
  pub keepers : (r : RoomValue) → Holds r → AreKeptNamed r
