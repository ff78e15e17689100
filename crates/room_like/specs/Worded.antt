-- What the types of an event's texts say of it. Ours.
use Rattle.std.specs.Prelude.{Bool, true}
use Rattle.room_model.specs.Acts.{is_worded_act}
use Rattle.room_model.specs.declared.event.RoomEvent.{RoomEvent}
use Rattle.room_model.specs.declared.event.RoomEvent.TheVariants as event

-- the texts that an event's act puts are UTF-8
abbrev pub is_worded_event : RoomEvent → Bool
is_worded_event (event.Act a) = is_worded_act a
is_worded_event e = true
