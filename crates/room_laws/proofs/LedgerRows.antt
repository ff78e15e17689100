-- Examples: what each call of a seat ledger makes of the places, each refusal, and their order; worked out by hand.
use Rattle.std.specs.Prelude.{◌≡◌, ℕ, Bool, true, false, List, [], ◌∷◌, ◌++◌, map, Some, None, Ok, Err, codes, refl}
use Rattle.room_model.specs.declared.seat.Seat.{Seat}
use Rattle.room_model.specs.declared.seat.Seat.TheVariants.{Reserved, Taken, Kept}
use Rattle.room_model.specs.declared.seat.SeatEntry.{SeatEntry}
use Rattle.room_model.specs.declared.seat.SeatFault.TheVariants.{Locked, Full, NoSeat, WrongToken, IdInUse}
use Rattle.room_model.specs.Seats.{Seats, in_use}
use Rattle.room_model.specs.Ledger.{reserve, take_seat, retake, keep, leave, set_locked, expire, kept_by}

abbrev entry : List ℕ → Seat → SeatEntry
entry session seat = record { session = session; seat = seat }

abbrev ledger : ℕ → Bool → List SeatEntry → Seats
ledger max locked entries = record { max = max; locked = locked; entries = entries }

-- a kept seat of `c`, a seat of `a`, a reservation of `b`, in this order; so many places
abbrev c_kept : SeatEntry
c_kept = entry (codes "c") (Kept (codes "tc") 40)

abbrev a_taken : SeatEntry
a_taken = entry (codes "a") (Taken (codes "ta"))

abbrev b_reserved : SeatEntry
b_reserved = entry (codes "b") (Reserved 50)

abbrev three : ℕ → Bool → Seats
three max locked = ledger max locked (c_kept ∷ a_taken ∷ b_reserved ∷ [])

three_in_use : in_use (three 4 false) ≡ 3
three_in_use = refl

-- a reservation goes last; a locked room, then a full one, then an id that is there are refused
reserved : reserve (three 4 false) (codes "d") 60 ≡ Ok (ledger 4 false (c_kept ∷ a_taken ∷ b_reserved ∷ entry (codes "d") (Reserved 60) ∷ []))
reserved = refl

not_reserved : reserve (three 3 true) (codes "a") 60 ∷ reserve (three 3 false) (codes "a") 60 ∷ map (λ id. reserve (three 4 false) id 60) (codes "a" ∷ codes "b" ∷ codes "c" ∷ [])
    ≡ Err Locked ∷ Err Full ∷ Err IdInUse ∷ Err IdInUse ∷ Err IdInUse ∷ []
not_reserved = refl

-- a reservation becomes a seat, also in a locked and full room
taken : take_seat (three 3 true) (codes "b") (codes "tb") ≡ Ok (ledger 3 true (c_kept ∷ a_taken ∷ entry (codes "b") (Taken (codes "tb")) ∷ []))
taken = refl

not_taken : map (λ id. take_seat (three 4 false) id (codes "ta")) (codes "a" ∷ codes "c" ∷ codes "d" ∷ codes "b" ∷ []) ++ take_seat (three 4 false) (codes "b") (codes "tc") ∷ []
    ≡ Err NoSeat ∷ Err NoSeat ∷ Err NoSeat ∷ Err IdInUse ∷ Err IdInUse ∷ []
not_taken = refl

-- a kept seat becomes a seat by its own token, with a fresh one, and keeps its place in the order
retaken : retake (three 3 true) (codes "c") (codes "tc") (codes "td") ≡ Ok (ledger 3 true (entry (codes "c") (Taken (codes "td")) ∷ a_taken ∷ b_reserved ∷ []))
retaken = refl

not_retaken : map (λ id. retake (three 4 false) id (codes "tc") (codes "tc")) (codes "a" ∷ codes "b" ∷ codes "d" ∷ codes "c" ∷ []) ++ retake (three 4 false) (codes "c") (codes "ta") (codes "tc") ∷ []
    ≡ Err NoSeat ∷ Err NoSeat ∷ Err NoSeat ∷ Err IdInUse ∷ Err WrongToken ∷ []
not_retaken = refl

-- a seat becomes a kept seat with its token
is_kept : keep (three 3 true) (codes "a") 70 ≡ Ok (ledger 3 true (c_kept ∷ entry (codes "a") (Kept (codes "ta") 70) ∷ b_reserved ∷ []))
is_kept = refl

not_kept : map (λ id. keep (three 4 false) id 70) (codes "b" ∷ codes "c" ∷ codes "d" ∷ []) ≡ Err NoSeat ∷ Err NoSeat ∷ Err NoSeat ∷ []
not_kept = refl

-- a session leaves, whatever it has
left : map (λ id. leave (three 3 true) id) (codes "a" ∷ codes "b" ∷ codes "c" ∷ codes "d" ∷ [])
    ≡ Ok (ledger 3 true (c_kept ∷ b_reserved ∷ [])) ∷ Ok (ledger 3 true (c_kept ∷ a_taken ∷ [])) ∷ Ok (ledger 3 true (a_taken ∷ b_reserved ∷ [])) ∷ Err NoSeat ∷ []
left = refl

-- what lapses first goes first, where its moment has come; nothing before it
lapses : map (expire (three 4 false)) (39 ∷ 40 ∷ 60 ∷ [])
    ≡ None ∷ Some (codes "c", ledger 4 false (a_taken ∷ b_reserved ∷ [])) ∷ Some (codes "c", ledger 4 false (a_taken ∷ b_reserved ∷ [])) ∷ []
lapses = refl

-- of two at one moment the earlier reserved, be it reserved or kept; a later lapse waits though it was reserved earlier
abbrev b_lapsing : ℕ → SeatEntry
b_lapsing lapse = entry (codes "b") (Reserved lapse)

lapse_order : expire (ledger 2 false (b_lapsing 40 ∷ c_kept ∷ [])) 40 ∷ expire (ledger 2 false (c_kept ∷ b_lapsing 40 ∷ [])) 40 ∷ expire (ledger 2 false (b_lapsing 41 ∷ c_kept ∷ [])) 60 ∷ []
    ≡ Some (codes "b", ledger 2 false (c_kept ∷ [])) ∷ Some (codes "c", ledger 2 false (b_lapsing 40 ∷ [])) ∷ Some (codes "c", ledger 2 false (b_lapsing 41 ∷ [])) ∷ []
lapse_order = refl

-- the mark, and the session of a kept seat's token alone
marked : set_locked (three 4 false) true ≡ three 4 true
marked = refl

by_token : map (kept_by (three 4 false)) (codes "tc" ∷ codes "ta" ∷ codes "td" ∷ []) ≡ Some (codes "c") ∷ None ∷ None ∷ []
by_token = refl
