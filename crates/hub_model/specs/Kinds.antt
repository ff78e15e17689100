-- What the messages of events are about. Ours.
use Rattle.std.specs.Prelude.{Bool, true}
use Rattle.room_model.specs.Acts.{has_kept_kind}
use Rattle.hub_model.specs.declared.event.HubEvent.{HubEvent}
use Rattle.hub_model.specs.declared.event.HubEvent.TheVariants.{Act as Acted}

-- the message of an event's act is about a name in UTF-8 or a number of 32 bits
abbrev pub event_has_kept_kind : HubEvent → Bool
event_has_kept_kind (Acted room a) = has_kept_kind a
event_has_kept_kind e = true
