-- What requests lead to, with rooms by their numbers. Ours.
use Rattle.std.specs.Prelude.{◌≡◌, ◌<◌, ℕ, Bool, true, false, List, [], Option, Some, None, option_map, slice_get, if◌then◌else◌}
use Rattle.std.specs.List.{find}
use Rattle.std.specs.Str.{bytes_eq}
use Rattle.room_model.specs.declared.definition.RoomDef.{RoomDef}
use Rattle.room_model.specs.Room.{RoomValue}
use Rattle.hub_model.specs.declared.request.Decision.{Decision}
use Rattle.hub_model.specs.declared.request.Decision.TheVariants as decision
use Rattle.room_model.specs.Seats.{in_use}
use Rattle.hub_model.specs.declared.request.Listing.{Listing}
use Rattle.hub_model.specs.declared.request.Method.{Method}
use Rattle.hub_model.specs.declared.request.Method.TheVariants.{JoinById, Reconnect}
use Rattle.hub_model.specs.Decisions.{meets}
use Rattle.hub_model.specs.HubValues.{HubRoom, listing_of}
use Rattle.hub_core.specs.declared.outcome.Outcome.{Outcome}
use Rattle.hub_core.specs.declared.outcome.Outcome.TheVariants.{Refuse, Join, Make, Return}
use Rattle.hub_core.specs.declared.entry.RoomEntry.{RoomEntry}
use Rattle.hub_core.specs.RoomEntry.{room_in, serial_of}

-- the room of a number stands at a place
pub record IsAt {R : Type 0} (ss : List (RoomEntry R)) (n at : ℕ) : Type 0 where
  pub it : RoomEntry R
  pub is : slice_get ss at ≡ Some it
  pub number : it.serial ≡ n

-- it is this decision, where a room that is made is of one of so many definitions, and has these criteria
abbrev pub Leads : {R : Type 0} → List (RoomEntry R) → ℕ → List (List ℕ) → Decision → Outcome → Type 0
Leads ss count criteria d (Refuse code text) = d ≡ decision.Refuse code text
Leads ss count criteria d (Make def texts) = (d ≡ decision.Make def) × (texts ≡ criteria) × (def < count)
Leads ss count criteria d (Join n) = (at : ℕ) × IsAt ss n at × (d ≡ decision.Join at)
Leads ss count criteria d (Return n session) = (at : ℕ) × IsAt ss n at × (d ≡ decision.Return at session)

-- the drawn id by which it is refused: a new room uses both, the room's first
abbrev pub used_of : (List ℕ → Bool) → Outcome → List ℕ → List ℕ → Option (List ℕ)
used_of is_used (Make def texts) room session = if is_used room then Some room else (if is_used session then Some session else None)
used_of is_used (Join n) room session = if is_used session then Some session else None
used_of is_used outcome room session = None

-- a decision about one room, of a number; a new room is given criteria
abbrev pub outcome_in : ℕ → List (List ℕ) → Decision → Outcome
outcome_in n criteria (decision.Refuse code text) = Refuse code text
outcome_in n criteria (decision.Join at) = Join n
outcome_in n criteria (decision.Make def) = Make def criteria
outcome_in n criteria (decision.Return at session) = Return n session

-- a room as a request sees it that names it
abbrev pub listed : HubRoom → Listing
listed r = record { id = r.id; def = r.def; locked = r.room.seats.locked; in_use = in_use r.room.seats; max = r.room.seats.max; criteria = [] }

-- a request by a room's id
abbrev pub is_by_id : Method → Bool
is_by_id JoinById = true
is_by_id Reconnect = true
is_by_id m = false

-- the first definition of a name
abbrev pub def_named : List ℕ → RoomDef → Bool
def_named name d = bytes_eq d.name name

-- the number of the oldest room that is open, of a definition, and has these criteria
abbrev pub oldest_of_def : {R : Type 0} → (R → RoomValue) → List (RoomEntry R) → List (List ℕ) → ℕ → Option ℕ
oldest_of_def room ss criteria def = option_map serial_of (find (λ s. meets def criteria (listing_of (room_in room s))) ss)
