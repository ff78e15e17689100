-- What a hub is, and what it takes. Ours.
use Rattle.std.specs.Prelude.{ℕ, Bool, true, not, ◌&&◌, List, [], ◌∷◌, length, nat_le}
use Rattle.std.specs.List.{list_all, list_any}
use Rattle.std.specs.Str.{bytes_eq}
use Rattle.room_model.specs.declared.definition.RoomDef.{RoomDef}
use Rattle.room_model.specs.Acts.{is_worded_act, may_act}
use Rattle.room_model.specs.Definitions.{is_room_def}
use Rattle.hub_model.specs.declared.event.HubEvent.{HubEvent}
use Rattle.hub_model.specs.declared.event.HubEvent.TheVariants.{Ask, Opening, Act as Acted}
use Rattle.hub_model.specs.HubValues.{HubValue}
use Rattle.schema_model.specs.Ids.{is_id}

-- a hub's value, and whether memory was wanting
pub record Held : Type 0 where
  pub hub : HubValue
  pub spent : Bool

-- the most definitions of a hub
abbrev pub most_defs : ℕ
most_defs = 256

-- no two definitions have one name
abbrev pub names_differ : List RoomDef → Bool
names_differ [] = true
names_differ (d ∷ ds) = not (list_any (λ (e : RoomDef). bytes_eq d.name e.name) ds) && names_differ ds

-- the definitions of which a hub may be made: no more than that, each one of which a room may be made, no two of one name
abbrev pub are_hub_defs : List RoomDef → Bool
are_hub_defs defs = nat_le (length defs) most_defs && (list_all is_room_def defs && names_differ defs)

-- an event that a hub takes: a request with ids that were drawn; an opening with a token that was drawn; an act within the
-- limits; any other event
abbrev pub may_take : HubEvent → Bool
may_take (Ask conn target body room session) = is_id room && is_id session
may_take (Opening conn target fresh) = is_id fresh
may_take (Acted room a) = may_act a
may_take e = true

-- the texts that an event's act puts are UTF-8
abbrev pub is_worded : HubEvent → Bool
is_worded (Acted room a) = is_worded_act a
is_worded e = true
