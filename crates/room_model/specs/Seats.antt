-- The places of a room: which sessions have a seat, a reservation or a kept seat. After Colyseus 0.16.
use Rattle.std.specs.Prelude.{ℕ, Bool, true, false, not, List, [], ◌∷◌, ◌++◌, length, map, filter, Option, Some, None, if◌then◌else◌}
use Rattle.std.specs.List.{find}
use Rattle.std.specs.Option.{option_map}
use Rattle.std.specs.Str.{bytes_eq}
use Rattle.room_model.specs.declared.seat.Seat.{Seat}
use Rattle.room_model.specs.declared.seat.Seat.TheVariants.{Reserved, Taken, Kept}
use Rattle.room_model.specs.declared.seat.SeatEntry.{SeatEntry}

-- how many places there are, whether they are locked by an act, and the sessions that have one, in the order of
-- reserving: a session keeps its place in it as its reservation becomes a seat, and the seat a kept one
pub record Seats : Type 0 where
  pub max : ℕ
  pub locked : Bool
  pub entries : List SeatEntry

-- no entries
abbrev pub new_seats : ℕ → Seats
new_seats max = record { max = max; locked = false; entries = [] }

-- the places in use: seats, reservations and kept seats together
abbrev pub in_use : Seats → ℕ
in_use s = length s.entries

-- what a session has
abbrev pub seat_of : Seats → List ℕ → Option Seat
seat_of s session = option_map (λ (e : SeatEntry). e.seat) (find (λ (e : SeatEntry). bytes_eq e.session session) s.entries)

-- it has a reservation, a seat, a kept seat
abbrev pub is_reservation : Option Seat → Bool
is_reservation (Some (Reserved lapse)) = true
is_reservation (Some (Taken token)) = false
is_reservation (Some (Kept token lapse)) = false
is_reservation None = false

abbrev pub is_taken_seat : Option Seat → Bool
is_taken_seat (Some (Reserved lapse)) = false
is_taken_seat (Some (Taken token)) = true
is_taken_seat (Some (Kept token lapse)) = false
is_taken_seat None = false

abbrev pub is_kept_seat : Option Seat → Bool
is_kept_seat (Some (Reserved lapse)) = false
is_kept_seat (Some (Taken token)) = false
is_kept_seat (Some (Kept token lapse)) = true
is_kept_seat None = false

abbrev pub has_reservation : Seats → List ℕ → Bool
has_reservation s session = is_reservation (seat_of s session)

-- ---- the places with other entries

abbrev pub with_entries : Seats → List SeatEntry → Seats
with_entries s es = record { max = s.max; locked = s.locked; entries = es }

-- with one more reservation, which comes last
abbrev pub reserved_seat : Seats → List ℕ → ℕ → Seats
reserved_seat s session lapse = with_entries s (s.entries ++ record { session = session; seat = Reserved lapse } ∷ [])

-- where a session has another seat from now on
abbrev pub seated_entry : List ℕ → Seat → SeatEntry → SeatEntry
seated_entry session seat e = if bytes_eq e.session session then record { session = e.session; seat = seat } else e

abbrev pub seated : Seats → List ℕ → Seat → Seats
seated s session seat = with_entries s (map (seated_entry session seat) s.entries)

-- without a session
abbrev pub left_seat : Seats → List ℕ → Seats
left_seat s session = with_entries s (filter (λ (e : SeatEntry). not (bytes_eq e.session session)) s.entries)
