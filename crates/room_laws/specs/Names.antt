-- The sessions of a room over its steps: those that it had, and the one that an event reserves. Ours.
use Rattle.std.specs.Prelude.{◌≡◌, ◌⊎◌, ℕ, Bool, true, List, Option, Some, None, is_some}
use Rattle.room_model.specs.declared.event.RoomEvent.{RoomEvent}
use Rattle.room_model.specs.declared.event.RoomEvent.TheVariants as event
use Rattle.room_model.specs.Ledger.{kept_by}
use Rattle.room_model.specs.Sessions.{session_of}
use Rattle.room_model.specs.Room.{RoomValue}

-- the session that an event reserves
abbrev pub reserves : RoomEvent → Option (List ℕ)
reserves (event.Reserve session lapse) = Some session
reserves e = None

-- the room has a session of this name
abbrev pub has_session : RoomValue → List ℕ → Bool
has_session r id = is_some (session_of r.sessions id)

-- a room behind an event has no session but those that it had and the one that the event reserves
abbrev pub KeepsNames : RoomValue → RoomEvent → RoomValue → Type 0
KeepsNames r e t = (id : List ℕ) → has_session t id ≡ true → (has_session r id ≡ true) ⊎ (reserves e ≡ Some id)

-- a kept seat is that of a session of the room
abbrev pub AreKeptNamed : RoomValue → Type 0
AreKeptNamed r = (token id : List ℕ) → kept_by r.seats token ≡ Some id → has_session r id ≡ true
