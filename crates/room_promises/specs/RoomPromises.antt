-- The three promises of a room, after every list of events that may happen: each client decodes exactly what it may see,
-- what a life is given depends on the schema and its record alone, and the room never passes its places. Ours.
use Rattle.std.specs.Prelude.{◌≡◌, ℕ, ◌≤◌, true, List, Contains, Ok}
use Rattle.std.specs.List.{list_all}
use Rattle.schema_model.specs.Classes.{Schema, is_kept}
use Rattle.wire_model.specs.Decoded.{seen}
use Rattle.room_model.specs.declared.definition.RoomDef.{RoomDef}
use Rattle.room_model.specs.declared.event.RoomEvent.{RoomEvent}
use Rattle.room_model.specs.Seats.{in_use}
use Rattle.room_model.specs.Room.{new_room}
use Rattle.room_laws.specs.Places.{may_follow}
use Rattle.room_like.specs.Worded.{is_worded_event}
use Rattle.life_model.specs.Sent.{sent}
use Rattle.life_model.specs.LatestFrames.{latest_frames}
use Rattle.life_model.specs.RoomLives.{RoomLife, RoomRun, room_run, is_live}

-- what is promised of a run of a definition
pub record Keeps (schema : Schema) (def : RoomDef) (x : RoomRun) : Type 0 where
  -- decoding a live client's state frames from its latest full state on gives exactly its permitted rows at the last
  -- tick, and none of them is refused
  pub sees : (l : RoomLife) → Contains x.lives l → is_live x.room l ≡ true → seen schema (latest_frames l.outputs) ≡ Ok l.view
  -- what a life's connection was given is what its record is sent
  pub equal : (l : RoomLife) → Contains x.lives l → l.outputs ≡ sent schema l.entries
  -- the seats, reservations and kept seats together are at most the places that the room has then
  pub places : in_use x.room.seats ≤ x.room.seats.max

-- events that may happen to a new room one after another; the texts that they put are UTF-8, as those of every event are that
-- a program has
pub record CanPlay (schema : Schema) (def : RoomDef) (criteria : List (List ℕ)) (events : List RoomEvent) : Type 0 where
  pub schema_kept : is_kept schema ≡ true
  pub follow : may_follow (new_room schema def criteria) events ≡ true
  pub worded : list_all is_worded_event events ≡ true

-- every such run keeps the promises
abbrev pub RoomsKeep : Type 0
RoomsKeep = (schema : Schema) (def : RoomDef) (criteria : List (List ℕ)) (events : List RoomEvent) → CanPlay schema def criteria events → Keeps schema def (room_run schema def criteria events)

-- two runs of one schema: lives with equal records are given equal bytes
abbrev pub EqualRecordsEqualBytes : Type 0
EqualRecordsEqualBytes =
    (schema : Schema) (def other : RoomDef) (criteria others : List (List ℕ)) (events happened : List RoomEvent)
    → CanPlay schema def criteria events → CanPlay schema other others happened → (k l : RoomLife)
    → Contains (room_run schema def criteria events).lives k → Contains (room_run schema other others happened).lives l
    → k.entries ≡ l.entries → k.outputs ≡ l.outputs
