use Rattle.std.proofs.Common.{◌≡◌, ◌∙◌, ℕ, Bool, true, false, cond, is_some, Some, None, Option, Ok, Err, List, set, subst, sym, ap}
use Rattle.std.specs.Prelude.{slice_get}
use Rattle.room_model.specs.declared.seat.Seat.{Seat}
use Rattle.room_model.specs.declared.seat.Seat.TheVariants.{Taken}
use Rattle.room_model.specs.declared.seat.SeatEntry.{SeatEntry}
use Rattle.room_model.specs.declared.seat.SeatFault.TheVariants.{IdInUse}
use Rattle.room_model.specs.Seats.{Seats, seated}
use Rattle.room_model.specs.Ledger.{seated_with}
use Rattle.seat_ledger.specs.Calls.{Does}
use Rattle.seat_ledger.specs.Places.{IsPlaceOf, IsTokenPlace, IsUnused, PlacesState}
use Rattle.seat_ledger.proofs.PlaceLaws.{get_some}
use Rattle.seat_ledger.proofs.ledger.SeatLedger.seat_with.Goals as goal

unused : (token : List ℕ) (es : List SeatEntry) (o : Option ℕ) → false ≡ is_some o → IsTokenPlace token es o → IsUnused token es
unused token es None h is = is
unused token es (Some at) h is = absurd (let no : false ≡ true = h in cc)

-- a fresh token: the session has a seat with it
with_fresh : (old : Seats) (session fresh : List ℕ) (at : ℕ) (new : Seats) → IsUnused fresh old.entries → new ≡ seated old session (Taken fresh) → Does (seated_with old session fresh) old new (Ok tt)
with_fresh old session fresh at new free is =
    subst (λ b. Does (cond b (Err IdInUse) (Ok (seated old session (Taken fresh)))) old new (Ok tt)) (sym free.any) is

-- the entry at the session's place has the seat
now_seated : (max : ℕ) (es : List SeatEntry) (session : List ℕ) (at : ℕ) (seat : Seat) (locked : Bool) (p : PlacesState) → IsPlaceOf session es at
    → ((e : SeatEntry) → slice_get es at ≡ Some e → p ≡ record { max = max; entries = set es at (record { session = e.session; seat = seat }) })
    → (let s : Seats = record { max = p.max; locked = locked; entries = p.entries } in s) ≡ seated (record { max = max; locked = locked; entries = es }) session seat
now_seated max es session at seat locked p is put =
    let found = get_some es at is.within in
    let state : PlacesState → Seats = λ q. record { max = q.max; locked = locked; entries = q.entries } in
    let entries : List SeatEntry → Seats = λ l. record { max = max; locked = locked; entries = l } in
    ap state (put found.0 found.1) ∙ (ap (λ n. entries (set es at (record { session = n; seat = seat }))) (is.name found.0 found.1) ∙ sym (ap entries (is.seated seat)))

pub returns : goal.returns
returns c =
    let es = c.self.inside.places.entries in
    let free = unused c.args.fresh es c.place_with.result c.if-is_some.ensures c.place_with.ensures in
    let is : IsPlaceOf c.args.session es c.args.at = subst (λ s. IsPlaceOf c.args.session s.entries c.args.at) (sym c.self.view_is) c.requires in
    let old : Seats = record { max = c.self.inside.places.max; locked = c.self.inside.locked; entries = es } in
    let new : Seats = record { max = c.put_seat.new.self.max; locked = c.self.inside.locked; entries = c.put_seat.new.self.entries } in
    subst (λ (s : Seats). Does (seated_with s c.args.session c.args.fresh) s new (Ok tt)) c.self.view_is
    (with_fresh old c.args.session c.args.fresh c.args.at new free
    (now_seated c.self.inside.places.max es c.args.session c.args.at (Taken c.args.fresh) c.self.inside.locked c.put_seat.new.self is c.put_seat.ensures))
