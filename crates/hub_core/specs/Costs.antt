-- How many steps the steps of a hub's rooms cost. Ours.
use Rattle.std.specs.Prelude.{ℕ, List, ◌++◌}
use Rattle.std.specs.List.{find, sum_by}
use Rattle.std.specs.Option.{option_map_or}
use Rattle.room_model.specs.declared.event.RoomEvent.{RoomEvent}
use Rattle.room_model.specs.Room.{RoomValue}
use Rattle.hub_model.specs.declared.event.HubEvent.{HubEvent}
use Rattle.hub_model.specs.HubStep.{Rules, deals, makes}
use Rattle.hub_model.specs.HubValues.{HubRoom, HubValue}
use Rattle.hub_core.specs.declared.entry.RoomEntry.{RoomEntry}
use Rattle.hub_core.specs.Lapsed.{moment_of}
use Rattle.hub_core.specs.RoomEntry.{has_id}

-- what the events that are dealt to a room cost it
abbrev pub dealt_cost : (RoomValue → RoomEvent → ℕ) → Rules → HubValue → HubEvent → HubRoom → ℕ
dealt_cost costs rules h e r = sum_by (costs r.room) (deals rules h e r)

-- what an event costs all rooms, one that it makes among them
abbrev pub hub_cost : (RoomValue → RoomEvent → ℕ) → Rules → HubValue → HubEvent → ℕ
hub_cost costs rules h e = sum_by (dealt_cost costs rules h e) (h.rooms ++ makes rules h e)

-- what an event costs the room of an id, where there is one
abbrev pub cost_in : {R : Type 0} → (R → RoomValue) → (RoomValue → RoomEvent → ℕ) → List (RoomEntry R) → List ℕ → RoomEvent → ℕ
cost_in room costs ss id e = option_map_or (λ s. costs (room s.room) e) (find (has_id id) ss) 0

-- what a moment costs the rooms of these numbers
abbrev pub lapse_cost : {R : Type 0} → (R → RoomValue) → (RoomValue → RoomEvent → ℕ) → ℕ → List ℕ → List (RoomEntry R) → ℕ
lapse_cost room costs at due ss = sum_by (λ s. sum_by (costs (room s.room)) (moment_of at due s.serial)) ss
