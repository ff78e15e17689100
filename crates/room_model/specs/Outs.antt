-- What a room's outputs tell of its sessions, and which session an event is about. Ours.
use Rattle.std.specs.Prelude.{ℕ, Bool, true, false, List, Option, Some, None}
use Rattle.std.specs.Str.{bytes_eq}
use Rattle.room_model.specs.declared.event.RoomEvent.{RoomEvent}
use Rattle.room_model.specs.declared.event.RoomEvent.TheVariants as event
use Rattle.room_model.specs.declared.event.RoomOut.{RoomOut}
use Rattle.room_model.specs.declared.event.RoomOut.TheVariants as out

-- an output answers an opening
abbrev pub is_answer : RoomOut → Bool
is_answer (out.Entered s) = true
is_answer (out.Back s) = true
is_answer (out.NoSeat s) = true
is_answer (out.TokenInUse s) = true
is_answer o = false

-- it enters a session
abbrev pub is_entry : List ℕ → RoomOut → Bool
is_entry id (out.Entered s) = bytes_eq s id
is_entry id (out.Back s) = bytes_eq s id
is_entry id o = false

-- it tells that a session was dropped or left
abbrev pub is_loss : List ℕ → RoomOut → Bool
is_loss id (out.Dropped s) = bytes_eq s id
is_loss id (out.Left s) = bytes_eq s id
is_loss id o = false

-- it ends a session's connection
abbrev pub is_end : List ℕ → RoomOut → Bool
is_end id (out.Close s code) = bytes_eq s id
is_end id (out.Dropped s) = bytes_eq s id
is_end id (out.Left s) = bytes_eq s id
is_end id o = false

-- it goes to a session's connection
abbrev pub goes_to : List ℕ → RoomOut → Bool
goes_to id (out.Send s bytes) = bytes_eq s id
goes_to id (out.Close s code) = bytes_eq s id
goes_to id o = false

-- the session that an event opens, and the one whose connection it loses
abbrev pub opens : RoomEvent → Option (List ℕ)
opens (event.Enter session token fresh) = Some session
opens e = None

abbrev pub loses : RoomEvent → Option (List ℕ)
loses (event.Lost session now) = Some session
loses e = None
