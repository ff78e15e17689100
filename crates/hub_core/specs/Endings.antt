-- Connections that a room's outputs end.
use Rattle.std.specs.Prelude.{ℕ, Bool, not, ◌&&◌, List, [], ◌∷◌, filter}
use Rattle.std.specs.List.{list_any}
use Rattle.std.specs.Str.{bytes_eq}
use Rattle.room_model.specs.declared.event.RoomOut.{RoomOut}
use Rattle.room_model.specs.declared.event.RoomOut.TheVariants as out
use Rattle.hub_model.specs.declared.conn.HubConn.{HubConn}

-- the session whose connection an output ends
abbrev pub ended_by : RoomOut → List (List ℕ)
ended_by (out.Close s code) = s ∷ []
ended_by (out.Dropped s) = s ∷ []
ended_by (out.Left s) = s ∷ []
ended_by o = []

-- a connection is of one of these sessions of a room
abbrev pub is_of : List ℕ → List (List ℕ) → HubConn → Bool
is_of room sessions c = bytes_eq c.room room && list_any (λ s. bytes_eq c.session s) sessions

-- the connections without theirs
abbrev pub without_all : List ℕ → List (List ℕ) → List HubConn → List HubConn
without_all room sessions cs = filter (λ c. not (is_of room sessions c)) cs
