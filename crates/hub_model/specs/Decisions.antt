-- What a request leads to, and the replies. After Colyseus 0.16.
use Rattle.std.specs.Prelude.{ℕ, Bool, true, false, ◌&&◌, ◌==◌, not, List, [], ◌∷◌, ◌++◌, Option, Some, None, codes, nat_lt, slice_get, if◌then◌else◌}
use Rattle.std.specs.List.{position}
use Rattle.std.specs.Option.{option_map_or}
use Rattle.std.specs.Str.{bytes_eq}
use Rattle.frame_model.specs.declared.codes.TheConstants.{EXPIRED, INVALID_CRITERIA, INVALID_ROOM, NO_HANDLER}
use Rattle.room_model.specs.declared.definition.RoomDef.{RoomDef}
use Rattle.hub_model.specs.declared.request.Decision.{Decision}
use Rattle.hub_model.specs.declared.request.Decision.TheVariants as decision
use Rattle.hub_model.specs.declared.request.Listing.{Listing}
use Rattle.hub_model.specs.declared.request.Method.{Method}
use Rattle.hub_model.specs.declared.request.Method.TheVariants.{JoinOrCreate, Join, JoinById, Reconnect}
use Rattle.hub_model.specs.declared.request.Request.{Request}

-- ---- rooms that are open to a request

-- the same texts in the same order
abbrev pub texts_eq : List (List ℕ) → List (List ℕ) → Bool
texts_eq [] [] = true
texts_eq (x ∷ xs) (y ∷ ys) = bytes_eq x y && texts_eq xs ys
texts_eq xs ys = false

-- neither locked by an act nor full
abbrev pub is_open : Listing → Bool
is_open r = not r.locked && nat_lt r.in_use r.max

-- an open room of a definition with these criteria
abbrev pub meets : ℕ → List (List ℕ) → Listing → Bool
meets def criteria r = is_open r && ((r.def == def) && texts_eq r.criteria criteria)

-- ---- refusals

abbrev pub room_not_found : List ℕ → Decision
room_not_found name = decision.Refuse INVALID_ROOM (codes "room " ++ (name ++ codes " not found"))

abbrev pub room_is_locked : List ℕ → Decision
room_is_locked name = decision.Refuse INVALID_ROOM (codes "room " ++ (name ++ codes " is locked"))

-- ---- by a definition

abbrev pub joined_or : Decision → Option ℕ → Decision
joined_or other (Some room) = decision.Join room
joined_or other None = other

-- the oldest open room that meets the criteria, or else this
abbrev pub oldest_or : Decision → List Listing → Request → ℕ → Decision
oldest_or other rooms q def = joined_or other (position (meets def q.criteria) rooms)

abbrev pub in_def : Method → List Listing → Request → ℕ → Decision
in_def JoinOrCreate rooms q def = oldest_or (decision.Make def) rooms q def
in_def Join rooms q def = oldest_or (decision.Refuse INVALID_CRITERIA (codes "no room meets the criteria")) rooms q def
in_def m rooms q def = decision.Make def

abbrev pub by_def : List RoomDef → List Listing → Request → Decision
by_def defs rooms q =
    option_map_or (in_def q.method rooms q) (position (λ (d : RoomDef). bytes_eq d.name q.name) defs) (decision.Refuse NO_HANDLER (codes "no handler"))

-- ---- by the id of a room

-- the room of an id
abbrev pub room_at : List Listing → List ℕ → Option ℕ
room_at rooms id = position (λ (r : Listing). bytes_eq r.id id) rooms

-- the room there, unless it is locked or full
abbrev pub joined_at : List Listing → List ℕ → Option ℕ → Decision
joined_at rooms name None = room_not_found name
joined_at rooms name (Some at) = if option_map_or is_open (slice_get rooms at) false then decision.Join at else room_is_locked name

abbrev pub kept_at : List ℕ → Option (List ℕ) → Option ℕ → Decision
kept_at name kept None = room_not_found name
kept_at name None (Some at) = decision.Refuse EXPIRED (codes "seat expired")
kept_at name (Some session) (Some at) = decision.Return at session

-- ---- what a request leads to, where this session's seat is kept under its token in the room that it names

abbrev pub decided : Method → List RoomDef → List Listing → Request → Option (List ℕ) → Decision
decided JoinById defs rooms q kept = joined_at rooms q.name (room_at rooms q.name)
decided Reconnect defs rooms q kept = kept_at q.name kept (room_at rooms q.name)
decided m defs rooms q kept = by_def defs rooms q

abbrev pub decide : List RoomDef → List Listing → Request → Option (List ℕ) → Decision
decide defs rooms q kept = decided q.method defs rooms q kept
