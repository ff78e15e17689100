-- What each call of a seat ledger leaves of its places.
use Rattle.std.proofs.Common.{◌≡◌, ℕ, ◌≤◌, Bool, true, false, not, cond, List, [], ◌∷◌, Option, Some, None, is_some, Result, Ok, Err, refl, arith}
use Rattle.std.specs.Prelude.{IfSome, IfOk}
use Rattle.std.specs.Str.{bytes_eq}
use Rattle.std.proofs.lemmas.Bool.{leb-false}
use Rattle.std.proofs.lemmas.List.{length-append, length-map}
use Rattle.lists.proofs.Passing.{length-filter_most}
use Rattle.room_model.specs.declared.seat.Seat.{Seat}
use Rattle.room_model.specs.declared.seat.Seat.TheVariants.{Reserved, Taken, Kept}
use Rattle.room_model.specs.declared.seat.SeatEntry.{SeatEntry}
use Rattle.room_model.specs.declared.seat.SeatFault.TheVariants.{NoSeat, WrongToken}
use Rattle.room_model.specs.Seats.{Seats, in_use, seat_of, seated, seated_entry, left_seat}
use Rattle.room_model.specs.Ledger as ledger
use Rattle.room_laws.specs.Ledgers.{Within, KeepsMax, LedgersKeep}

-- ---- the calls

-- behind a test that refuses only what it lets through counts
unrefused : {T E : Type 0} (b : Bool) (e : E) (r : Result T E) (P : T → Type 0) → (b ≡ false → IfOk r P) → IfOk (cond b (Err e) r) P
unrefused true e r P h = tt
unrefused false e r P h = h refl

-- a reservation takes a place that was free
reserve_keeps : (s : Seats) → Within s → (session : List ℕ) (lapse : ℕ) → IfOk (ledger.reserve s session lapse) (KeepsMax s)
reserve_keeps s within session lapse =
    let more = length-append s.entries (record { session = session; seat = Reserved lapse } ∷ []) in
    unrefused s.locked _ _ (KeepsMax s) (λ _.
    unrefused (ledger.is_full s) _ _ (KeepsMax s) (λ free.
    unrefused (is_some (seat_of s session)) _ _ (KeepsMax s) (λ _.
    (omega (arith, leb-false s.max (in_use s) free), refl))))

-- what a session has changes, and no place with it
seated_keeps : (s : Seats) → Within s → (session : List ℕ) (seat : Seat) → KeepsMax s (seated s session seat)
seated_keeps s within session seat = let same = length-map s.entries (seated_entry session seat) in (omega (arith, within, same), refl)

fresh_keeps : (s : Seats) → Within s → (session fresh : List ℕ) → IfOk (ledger.seated_with s session fresh) (KeepsMax s)
fresh_keeps s within session fresh = unrefused (ledger.has_token s fresh) _ _ (KeepsMax s) (λ _. seated_keeps s within session (Taken fresh))

take_keeps : (s : Seats) → Within s → (session fresh : List ℕ) (o : Option Seat) → IfOk (ledger.take_of s session fresh o) (KeepsMax s)
take_keeps s within session fresh (Some (Reserved lapse)) = fresh_keeps s within session fresh
take_keeps s within session fresh (Some (Taken token)) = tt
take_keeps s within session fresh (Some (Kept token lapse)) = tt
take_keeps s within session fresh None = tt

retake_keeps : (s : Seats) → Within s → (session token fresh : List ℕ) (o : Option Seat) → IfOk (ledger.retake_of s session token fresh o) (KeepsMax s)
retake_keeps s within session token fresh (Some (Reserved lapse)) = tt
retake_keeps s within session token fresh (Some (Taken t)) = tt
retake_keeps s within session token fresh (Some (Kept t lapse)) =
    let go : (b : Bool) → IfOk (cond b (ledger.seated_with s session fresh) (Err WrongToken)) (KeepsMax s) = elim [ true ↦ fresh_keeps s within session fresh | false ↦ tt ] in
    go (bytes_eq t token)
retake_keeps s within session token fresh None = tt

keep_keeps : (s : Seats) → Within s → (session : List ℕ) (lapse : ℕ) (o : Option Seat) → IfOk (ledger.keep_of s session lapse o) (KeepsMax s)
keep_keeps s within session lapse (Some (Reserved l)) = tt
keep_keeps s within session lapse (Some (Taken token)) = seated_keeps s within session (Kept token lapse)
keep_keeps s within session lapse (Some (Kept token l)) = tt
keep_keeps s within session lapse None = tt

-- what goes leaves no more than was there
pub left_keeps : (s : Seats) → Within s → (session : List ℕ) → KeepsMax s (left_seat s session)
left_keeps s within session =
    let fits = length-filter_most (λ (e : SeatEntry). not (bytes_eq e.session session)) s.entries in
    (omega (arith, within, fits), refl)

leave_keeps : (s : Seats) → Within s → (session : List ℕ) (there : Bool) → IfOk (cond there (Ok (left_seat s session)) (Err NoSeat)) (KeepsMax s)
leave_keeps s within session true = left_keeps s within session
leave_keeps s within session false = tt

expire_keeps : (s : Seats) → Within s → (due : Option ledger.Lapse) → IfSome (ledger.expired s due) (λ x. KeepsMax s x.1)
expire_keeps s within None = tt
expire_keeps s within (Some a) = left_keeps s within a.session

-- ---- the law

pub ledgers_keep : LedgersKeep
ledgers_keep s within = record {
  reserve = reserve_keeps s within;
  take_seat = λ session fresh. take_keeps s within session fresh (seat_of s session);
  retake = λ session token fresh. retake_keeps s within session token fresh (seat_of s session);
  keep = λ session lapse. keep_keeps s within session lapse (seat_of s session);
  leave = λ session. leave_keeps s within session _;
  set_locked = λ on. (within, refl);
  expire = λ now. expire_keeps s within (ledger.first_due (ledger.due_entries s now));
}
