-- The three promises of a hub, after every list of events that may come: each client decodes exactly what it may see, what a life
-- is given depends on the schema and its record alone, and no room passes its places; and that a client follows its life. Ours.
use Rattle.std.specs.Prelude.{◌≡◌, ℕ, ◌≤◌, Bool, true, ◌&&◌, List, take, Contains, Ok, Result}
use Rattle.std.specs.List.{list_all}
use Rattle.schema_model.specs.Classes.{Schema, is_kept}
use Rattle.wire_model.specs.Decoded.{seen}
use Rattle.room_model.specs.declared.definition.RoomDef.{RoomDef}
use Rattle.room_model.specs.Definitions.{is_room_def}
use Rattle.room_model.specs.Seats.{in_use}
use Rattle.room_model.specs.Room.{room_step}
use Rattle.room_model.specs.Acts.{may_act, is_worded_act}
use Rattle.hub_model.specs.declared.event.HubEvent.{HubEvent}
use Rattle.hub_model.specs.declared.event.HubEvent.TheVariants as event
use Rattle.hub_model.specs.declared.request.Request.{Request}
use Rattle.hub_model.specs.declared.request.AskFault.{AskFault}
use Rattle.hub_model.specs.HubValues.{HubRoom, new_hub}
use Rattle.hub_model.specs.HubStep.{Rules}
use Rattle.hub_model.specs.Kinds.{event_has_kept_kind}
use Rattle.life_model.specs.Sent.{sent}
use Rattle.life_model.specs.LatestFrames.{latest_frames}
use Rattle.life_model.specs.Followed.{takes_given, client_given}
use Rattle.life_model.specs.HubLives.{HubLife, HubRun, hub_run, is_live}

-- ---- events that may come

-- an act is within the limits, and the texts that it puts are UTF-8; every other event may come
abbrev pub may_come : HubEvent → Bool
may_come (event.Act room a) = may_act a && is_worded_act a
may_come e = true

-- ---- what is promised at one moment of a run

pub record HubKeeps (schema : Schema) (x : HubRun) : Type 0 where
  -- decoding a live client's state frames from its latest full state on gives exactly its permitted rows at its room's
  -- last tick, and none of them is refused
  pub sees : (l : HubLife) → Contains x.lives l → is_live x.hub l ≡ true → seen schema (latest_frames l.outputs) ≡ Ok l.view
  -- what a life's connections were given is what its record is sent
  pub equal : (l : HubLife) → Contains x.lives l → l.outputs ≡ sent schema l.entries
  -- the seats, reservations and kept seats of a room together are at most the places that it has then
  pub places : (r : HubRoom) → Contains x.hub.rooms r → in_use r.room.seats ≤ r.room.seats.max

-- what is promised of the clients that follow its lives, each all that its life is given, from the first connection on
pub record HubFollows (schema : Schema) (x : HubRun) : Type 0 where
  -- such a client refuses no frame
  pub taken : (l : HubLife) → Contains x.lives l → takes_given schema l.outputs ≡ true
  -- while the life is live the client's rows are those that it may see
  pub follows : (l : HubLife) → Contains x.lives l → is_live x.hub l ≡ true → (client_given schema l.outputs).rows ≡ l.view

-- ---- every run

-- the rules of a hub of rooms
abbrev pub rules_of : (List RoomDef → List ℕ → List ℕ → Result Request AskFault) → Rules
rules_of read = record { step = room_step; read = read }

-- a hub may be made of this, and these events may come
pub record CanRun (schema : Schema) (defs : List RoomDef) (events : List HubEvent) : Type 0 where
  pub schema_kept : is_kept schema ≡ true
  pub forms : list_all is_room_def defs ≡ true
  pub come : list_all may_come events ≡ true

-- every such run keeps the promises, after every prefix of its events, whatever requests are taken to ask for
abbrev pub HubsKeep : Type 0
HubsKeep =
    (read : List RoomDef → List ℕ → List ℕ → Result Request AskFault) (schema : Schema) (process : List ℕ) (defs : List RoomDef) (events : List HubEvent)
    → CanRun schema defs events → (n : ℕ) → HubKeeps schema (hub_run (rules_of read) (new_hub schema process defs) (take n events))

-- and in every such run whose messages are about names in UTF-8 or numbers of 32 bits, as those are that a program sends, it
-- keeps what is promised of the clients
abbrev pub HubsFollow : Type 0
HubsFollow =
    (read : List RoomDef → List ℕ → List ℕ → Result Request AskFault) (schema : Schema) (process : List ℕ) (defs : List RoomDef) (events : List HubEvent)
    → CanRun schema defs events → list_all event_has_kept_kind events ≡ true → (n : ℕ) → HubFollows schema (hub_run (rules_of read) (new_hub schema process defs) (take n events))

-- two runs of one schema, whatever requests are taken to ask for in either: lives with equal records are given equal bytes
abbrev pub HubsGiveEqualBytes : Type 0
HubsGiveEqualBytes =
    (read read_other : List RoomDef → List ℕ → List ℕ → Result Request AskFault) (schema : Schema) (process other : List ℕ) (defs others : List RoomDef) (events happened : List HubEvent)
    → CanRun schema defs events → CanRun schema others happened → (k l : HubLife)
    → Contains (hub_run (rules_of read) (new_hub schema process defs) events).lives k → Contains (hub_run (rules_of read_other) (new_hub schema other others) happened).lives l
    → k.entries ≡ l.entries → k.outputs ≡ l.outputs
