-- Events that change no place of a room unless they end a session: whoever runs rooms need not look at their places again. Ours.
use Rattle.std.specs.Prelude.{◌≡◌, Bool, true, false, List}
use Rattle.std.specs.List.{list_any}
use Rattle.room_model.specs.declared.event.Act.{Act}
use Rattle.room_model.specs.declared.event.Act.TheVariants as act
use Rattle.room_model.specs.declared.event.RoomEvent.{RoomEvent}
use Rattle.room_model.specs.declared.event.RoomEvent.TheVariants as event
use Rattle.room_model.specs.declared.event.RoomOut.{RoomOut}
use Rattle.room_model.specs.declared.event.RoomOut.TheVariants as out
use Rattle.room_model.specs.Room.{RoomValue}

-- an act that is none on places
abbrev pub is_quiet_act : Act → Bool
is_quiet_act (act.Kick session code) = false
is_quiet_act act.Lock = false
is_quiet_act act.Unlock = false
is_quiet_act a = true

-- a frame, such an act, or a tick
abbrev pub is_quiet : RoomEvent → Bool
is_quiet (event.Frame session bytes) = true
is_quiet (event.Act a) = is_quiet_act a
is_quiet event.Tick = true
is_quiet e = false

-- an output that ends a connection or a session
abbrev pub is_ending : RoomOut → Bool
is_ending (out.Close session code) = true
is_ending (out.Dropped session) = true
is_ending (out.Left session) = true
is_ending o = false

-- the places stay where a quiet event ends nothing
abbrev pub KeepsPlaces : RoomValue → RoomEvent → RoomValue × List RoomOut → Type 0
KeepsPlaces r e x = is_quiet e ≡ true → list_any is_ending x.1 ≡ false → x.0.seats ≡ r.seats
