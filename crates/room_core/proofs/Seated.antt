-- Calls of a room's places that are accepted, as its sessions tell.
use Rattle.std.proofs.Common.{◌≡◌, ℕ, true, false, not, cond, ◌&&◌, List, Option, Some, None, is_some, Result, Ok, Err, refl, sym, ap, ◌∙◌}
use Rattle.std.specs.Prelude.{is_ok}
use Rattle.std.specs.List.{find}
use Rattle.std.specs.Option.{option_map, option_map_or}
use Rattle.std.specs.Str.{bytes_eq}
use Rattle.std.proofs.lemmas.Bool.{and_parts, not-true}
use Rattle.lists.proofs.Options.{none_there, same_some}
use Rattle.room_model.specs.declared.seat.Seat.{Seat}
use Rattle.room_model.specs.declared.seat.Seat.TheVariants as seat
use Rattle.room_model.specs.declared.seat.SeatEntry.{SeatEntry}
use Rattle.room_model.specs.declared.seat.SeatFault.{SeatFault}
use Rattle.room_model.specs.declared.seat.SeatFault.TheVariants as fault
use Rattle.room_model.specs.Seats.{Seats, seat_of, is_taken_seat, reserved_seat, left_seat}
use Rattle.room_model.specs.Ledger.{is_full, reserve, keep, keep_of, leave}
use Rattle.room_model.specs.Sessions.{Session, session_of, is_connected}
use Rattle.room_model.specs.Room.{RoomValue}
use Rattle.room_laws.specs.Placed.{Placed}
use Rattle.room_laws.specs.Places.{has_place_for, is_connected_in}
use Rattle.room_laws.proofs.AlikeLists.{has_seat}
use Rattle.seat_ledger.specs.Calls.{Does, Expires}
use Rattle.room_core.proofs.ClientLists.{same_there}

-- what a call did, by its answer
pub did : (x : Result Seats SeatFault) (old new : Seats) (done : Unit {0}) → Does x old new (Ok done) → x ≡ Ok new
did (Ok after) old new done h = ap Ok (sym h)
did (Err f) old new done h = absurd h

pub did_not : (x : Result Seats SeatFault) (old new : Seats) (g : SeatFault) → Does x old new (Err g) → (x ≡ Err g) × (new ≡ old)
did_not (Ok after) old new g h = absurd h
did_not (Err f) old new g h = (ap Err (sym h.0), h.1)

-- one that is accepted has no fault
pub is_done : (x : Result Seats SeatFault) (t old new : Seats) (r : Result (Unit {0}) SeatFault) → x ≡ Ok t → Does x old new r → is_ok r ≡ true
is_done (Ok after) t old new (Ok done) is h = refl
is_done (Ok after) t old new (Err g) is h = absurd h
is_done (Err f) t old new r is h = absurd (cc)

ok_same : (a b : Seats) → (let x : Result Seats SeatFault = Ok a in x) ≡ Ok b → a ≡ b
ok_same a b e = cc

pub is_after : (x : Result Seats SeatFault) (t old new : Seats) (r : Result (Unit {0}) SeatFault) → x ≡ Ok t → Does x old new r → new ≡ t
is_after (Ok after) t old new (Ok done) is h = h ∙ ok_same after t is
is_after (Ok after) t old new (Err g) is h = absurd h
is_after (Err f) t old new r is h = absurd (cc)

-- what a lapse leaves
pub went : (x : Option (List ℕ × Seats)) (l : List ℕ × Seats) (old new : Seats) (r : Option (List ℕ)) → x ≡ Some l → Expires x old new r → new ≡ l.1
went (Some y) l old new (Some s) is h = h.1 ∙ ap (λ (p : List ℕ × Seats). p.1) (same_some y l is)
went (Some y) l old new None is h = absurd h
went None l old new r is h = absurd (cc)

-- ---- what is accepted

-- a session has a seat where it is there
has_any : (r : RoomValue) (q : List ℕ) → Placed r → is_some (seat_of r.seats q) ≡ is_some (session_of r.sessions q)
has_any r q p = mapped (find (λ (e : SeatEntry). bytes_eq e.session q) r.seats.entries) ∙ same_there q r.seats.entries r.sessions p.alike
  where
    mapped : (o : Option SeatEntry) → is_some (option_map (λ (e : SeatEntry). e.seat) o) ≡ is_some o
    mapped None = refl
    mapped (Some e) = refl

-- it has none where it isn't
pub no_seat : (r : RoomValue) (q : List ℕ) → Placed r → session_of r.sessions q ≡ None → seat_of r.seats q ≡ None
no_seat r q p gone = none_there (seat_of r.seats q) (has_any r q p ∙ ap is_some gone)

-- the reservation of a session that there is a place for
pub reserved_ok : (r : RoomValue) (session : List ℕ) (lapse : ℕ) → Placed r → has_place_for r session ≡ true → reserve r.seats session lapse ≡ Ok (reserved_seat r.seats session lapse)
reserved_ok r session lapse p place =
    let both = and_parts (not r.seats.locked && not (is_full r.seats)) (not (is_some (session_of r.sessions session))) place in
    let free = and_parts (not r.seats.locked) (not (is_full r.seats)) both.0 in
    let new : is_some (seat_of r.seats session) ≡ false = has_any r session p ∙ not-true (is_some (session_of r.sessions session)) both.1 in
    ap (λ b. cond b (Err fault.Locked) (cond (is_full r.seats) (Err fault.Full) (cond (is_some (seat_of r.seats session)) (Err fault.IdInUse) (Ok (reserved_seat r.seats session lapse))))) (not-true r.seats.locked free.0)
    ∙ ap (λ b. cond b (Err fault.Full) (cond (is_some (seat_of r.seats session)) (Err fault.IdInUse) (Ok (reserved_seat r.seats session lapse)))) (not-true (is_full r.seats) free.1)
    ∙ ap (λ b. cond b (Err fault.IdInUse) (Ok (reserved_seat r.seats session lapse))) new

-- the keeping of the seat of a session that has a connection
pub kept_ok : (r : RoomValue) (session : List ℕ) (lapse : ℕ) → Placed r → is_connected_in r session ≡ true → (t : Seats) × (keep r.seats session lapse ≡ Ok t)
kept_ok r session lapse p connected = by_seat (seat_of r.seats session) (has_seat r session p ∙ (sym (looked (session_of r.sessions session)) ∙ connected))
  where
    looked : (o : Option Session) → option_map_or (λ (s : Session). is_connected s.stage) o false ≡ option_map_or is_connected (option_map (λ (s : Session). s.stage) o) false
    looked None = refl
    looked (Some s) = refl

    by_seat : (o : Option Seat) → is_taken_seat o ≡ true → (t : Seats) × (keep_of r.seats session lapse o ≡ Ok t)
    by_seat None h = absurd (cc)
    by_seat (Some (seat.Reserved l)) h = absurd (cc)
    by_seat (Some (seat.Taken token)) h = (_, refl)
    by_seat (Some (seat.Kept token l)) h = absurd (cc)

-- that a session goes that is there
pub left_ok : (r : RoomValue) (session : List ℕ) (s : Session) → Placed r → session_of r.sessions session ≡ Some s → leave r.seats session ≡ Ok (left_seat r.seats session)
left_ok r session s p there = ap (λ b. cond b (Ok (left_seat r.seats session)) (Err fault.NoSeat)) (has_any r session p ∙ ap is_some there)
