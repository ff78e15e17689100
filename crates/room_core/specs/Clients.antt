-- Clients of a room, by their sessions.
use Rattle.std.specs.Prelude.{◌≡◌, ℕ, List, Option, Some, None, map, slice_get}
use Rattle.room_model.specs.declared.event.Stage.{Stage}
use Rattle.room_model.specs.Sessions.{session_of}
use Rattle.room_laws.specs.Placed.{session_tells}
use Rattle.room_core.specs.declared.client.Client.{Client}
use Rattle.room_core.specs.Values.{session_of_client}

-- the client of a session stands there
abbrev pub IsClientOf : List ℕ → List Client → ℕ → Type 0
IsClientOf session cs at = (c : Client) × (slice_get cs at ≡ Some c) × (c.id ≡ session)

-- so it does; or the session has none
abbrev pub IsClientAt : List ℕ → List Client → Option ℕ → Type 0
IsClientAt session cs (Some at) = IsClientOf session cs at
IsClientAt session cs None = session_of (map session_of_client cs) session ≡ None

-- what a client tells of its session: a name, and where it stands
abbrev pub client_tells : Client → List ℕ × Stage
client_tells c = session_tells (session_of_client c)

-- so they all tell the same
abbrev pub TellTheSame : List Client → List Client → Type 0
TellTheSame cs ds = map client_tells cs ≡ map client_tells ds
