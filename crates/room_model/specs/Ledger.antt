-- The calls of a seat ledger: what each makes of a room's places, or why it is refused. After Colyseus 0.16.
use Rattle.std.specs.Prelude.{◌≡◌, ℕ, Bool, false, List, [], ◌∷◌, Option, Some, None, is_some, nat_lt, nat_le, if◌then◌else◌, Result, Ok, Err}
use Rattle.std.specs.List.{find, flat_map, list_any}
use Rattle.std.specs.Option.{option_map}
use Rattle.std.specs.Str.{bytes_eq}
use Rattle.room_model.specs.declared.seat.Seat.{Seat}
use Rattle.room_model.specs.declared.seat.Seat.TheVariants.{Reserved, Taken, Kept}
use Rattle.room_model.specs.declared.seat.SeatEntry.{SeatEntry}
use Rattle.room_model.specs.declared.seat.SeatFault.{SeatFault}
use Rattle.room_model.specs.declared.seat.SeatFault.TheVariants.{Locked, Full, NoSeat, WrongToken, IdInUse}
use Rattle.room_model.specs.Seats.{Seats, in_use, seat_of, reserved_seat, seated, left_seat}

-- ---- what is looked up

-- the token is that of a seat or a kept seat
abbrev pub has_as_token : List ℕ → Seat → Bool
has_as_token token (Reserved lapse) = false
has_as_token token (Taken t) = bytes_eq t token
has_as_token token (Kept t lapse) = bytes_eq t token

abbrev pub has_token : Seats → List ℕ → Bool
has_token s token = list_any (λ (e : SeatEntry). has_as_token token e.seat) s.entries

-- no place is left
abbrev pub is_full : Seats → Bool
is_full s = nat_le s.max (in_use s)

-- the session of the kept seat with this token
abbrev pub is_kept_by : List ℕ → Seat → Bool
is_kept_by token (Reserved lapse) = false
is_kept_by token (Taken t) = false
is_kept_by token (Kept t lapse) = bytes_eq t token

abbrev pub kept_by : Seats → List ℕ → Option (List ℕ)
kept_by s token = option_map (λ (e : SeatEntry). e.session) (find (λ (e : SeatEntry). is_kept_by token e.seat) s.entries)

-- ---- the calls

-- a reservation
abbrev pub reserve : Seats → List ℕ → ℕ → Result Seats SeatFault
reserve s session lapse =
    if s.locked then Err Locked else if is_full s then Err Full else if is_some (seat_of s session) then Err IdInUse else Ok (reserved_seat s session lapse)

-- a session has a seat with a fresh token from now on
abbrev pub seated_with : Seats → List ℕ → List ℕ → Result Seats SeatFault
seated_with s session fresh = if has_token s fresh then Err IdInUse else Ok (seated s session (Taken fresh))

-- a reservation becomes a seat
abbrev pub take_of : Seats → List ℕ → List ℕ → Option Seat → Result Seats SeatFault
take_of s session fresh (Some (Reserved lapse)) = seated_with s session fresh
take_of s session fresh (Some (Taken token)) = Err NoSeat
take_of s session fresh (Some (Kept token lapse)) = Err NoSeat
take_of s session fresh None = Err NoSeat

abbrev pub take_seat : Seats → List ℕ → List ℕ → Result Seats SeatFault
take_seat s session fresh = take_of s session fresh (seat_of s session)

-- a kept seat becomes a seat
abbrev pub retake_of : Seats → List ℕ → List ℕ → List ℕ → Option Seat → Result Seats SeatFault
retake_of s session token fresh (Some (Reserved lapse)) = Err NoSeat
retake_of s session token fresh (Some (Taken t)) = Err NoSeat
retake_of s session token fresh (Some (Kept t lapse)) = if bytes_eq t token then seated_with s session fresh else Err WrongToken
retake_of s session token fresh None = Err NoSeat

abbrev pub retake : Seats → List ℕ → List ℕ → List ℕ → Result Seats SeatFault
retake s session token fresh = retake_of s session token fresh (seat_of s session)

-- a seat becomes a kept seat
abbrev pub keep_of : Seats → List ℕ → ℕ → Option Seat → Result Seats SeatFault
keep_of s session lapse (Some (Reserved l)) = Err NoSeat
keep_of s session lapse (Some (Taken token)) = Ok (seated s session (Kept token lapse))
keep_of s session lapse (Some (Kept token l)) = Err NoSeat
keep_of s session lapse None = Err NoSeat

abbrev pub keep : Seats → List ℕ → ℕ → Result Seats SeatFault
keep s session lapse = keep_of s session lapse (seat_of s session)

-- a session leaves
abbrev pub leave : Seats → List ℕ → Result Seats SeatFault
leave s session = if is_some (seat_of s session) then Ok (left_seat s session) else Err NoSeat

-- the mark
abbrev pub set_locked : Seats → Bool → Seats
set_locked s on = record { max = s.max; locked = on; entries = s.entries }

-- ---- a lapse

-- a session whose entry lapses, and when
pub record Lapse : Type 0 where
  pub session : List ℕ
  pub at : ℕ

-- when a seat lapses
abbrev pub lapse_of : Seat → Option ℕ
lapse_of (Reserved lapse) = Some lapse
lapse_of (Taken token) = None
lapse_of (Kept token lapse) = Some lapse

-- an entry that lapses by a moment
abbrev pub due_at : ℕ → List ℕ → Option ℕ → List Lapse
due_at now session None = []
due_at now session (Some at) = if nat_le at now then record { session = session; at = at } ∷ [] else []

-- the entries that lapse by a moment, in the order of reserving
abbrev pub due_entries : Seats → ℕ → List Lapse
due_entries s now = flat_map (λ (e : SeatEntry). due_at now e.session (lapse_of e.seat)) s.entries

-- the one that lapses first; of two at one moment the first of the list
abbrev pub earlier : Lapse → Option Lapse → Lapse
earlier a None = a
earlier a (Some b) = if nat_lt b.at a.at then b else a

abbrev pub first_due : List Lapse → Option Lapse
first_due [] = None
first_due (a ∷ others) = Some (earlier a (first_due others))

-- what lapses at a moment: the entry whose lapse is least and at most now, the earlier reserved first
abbrev pub expired : Seats → Option Lapse → Option (List ℕ × Seats)
expired s None = None
expired s (Some a) = Some (a.session, left_seat s a.session)

abbrev pub expire : Seats → ℕ → Option (List ℕ × Seats)
expire s now = expired s (first_due (due_entries s now))

-- the least lapse of all tells what lapses by a moment
abbrev pub is_due : ℕ → Option ℕ → Bool
is_due now None = false
is_due now (Some lapse) = nat_le lapse now

abbrev pub IsNextLapse : Seats → Option ℕ → Type 0
IsNextLapse s lapse = (now : ℕ) → is_some (expire s now) ≡ is_due now lapse
