-- Rooms that let nobody in keep the laws of rooms.
use Rattle.std.proofs.Common.{◌≡◌, ◌≤◌, ◌&&◌, ◌∙◌, ℕ, true, false, List, [], Some, None, refl, sym, ap, inl, zero-le}
use Rattle.std.specs.List.{find}
use Rattle.std.specs.Option.{option_map, option_map_or}
use Rattle.std.proofs.lemmas.Bool.{and_parts}
use Rattle.schema_model.specs.Classes.{Schema}
use Rattle.room_model.specs.declared.definition.RoomDef.{RoomDef}
use Rattle.room_model.specs.declared.event.RoomEvent.{RoomEvent}
use Rattle.room_model.specs.declared.event.RoomEvent.TheVariants as event
use Rattle.room_model.specs.declared.seat.SeatEntry.{SeatEntry}
use Rattle.room_model.specs.Ledger.{is_kept_by, kept_by}
use Rattle.room_model.specs.Outs.{opens, loses}
use Rattle.room_model.specs.Seats.{in_use}
use Rattle.room_model.specs.Sessions.{Session, session_of, is_connected}
use Rattle.room_model.specs.Room.{RoomValue, new_room}
use Rattle.room_laws.specs.Names.{AreKeptNamed, KeepsNames}
use Rattle.room_laws.specs.Placed.{stands}
use Rattle.room_laws.specs.Places.{is_connected_in, is_moment, may_happen}
use Rattle.room_laws.specs.Quiet.{KeepsPlaces}
use Rattle.room_laws.specs.StepLaws.{StepLaws, connected}
use Rattle.trials.specs.ClosedRooms.{IsEmpty, closed_step}

pub begins : (schema : Schema) (def : RoomDef) (criteria : List (List ℕ)) → IsEmpty (new_room schema def criteria)
begins schema def criteria = record { entries = refl; sessions = refl }

pub goes_on : (r : RoomValue) (e : RoomEvent) → IsEmpty r → may_happen r e ≡ true → IsEmpty (closed_step r e).0
goes_on r e o may = o

nobody : (r : RoomValue) (id : List ℕ) → IsEmpty r → connected r id ≡ false
nobody r id o = ap (λ ss. stands is_connected ss id) o.sessions

-- an event that opens nothing and loses no connection
silent : (r : RoomValue) (e : RoomEvent) → IsEmpty r → opens e ≡ None → ((id : List ℕ) → loses e ≡ Some id → connected r id ≡ true) → StepLaws r e (r, [])
silent r e o none closed = record {
  answered = rw (none) refl;
  entered = λ id is. absurd cc;
  others = λ id is. nobody r id o ∙ sym (ap (λ b. b && true) (nobody r id o));
  lost = λ id is. (let here = closed id is in let gone = nobody r id o in absurd cc);
  told = λ id is. absurd cc;
}

pub tells : (r : RoomValue) (e : RoomEvent) → IsEmpty r → may_happen r e ≡ true → StepLaws r e (closed_step r e)
tells r (event.Reserve session lapse) o may = silent r (event.Reserve session lapse) o refl (λ id is. absurd cc)
tells r (event.Enter session token fresh) o may = record {
  answered = refl;
  entered = λ id is. absurd cc;
  others = λ id is. nobody r id o ∙ sym (ap (λ b. b && true) (nobody r id o));
  lost = λ id is. absurd cc;
  told = λ id is. absurd cc;
}
tells r (event.Frame session bytes) o may = silent r (event.Frame session bytes) o refl (λ id is. absurd cc)
tells r (event.Lost session now) o may =
    let here : is_connected_in r session ≡ true = (and_parts (is_moment now) (is_connected_in r session) may).1 in
    let none : is_connected_in r session ≡ false = ap (λ ss. option_map_or (λ (s : Session). is_connected s.stage) (session_of ss session) false) o.sessions in
    absurd cc
tells r (event.Moment now) o may = silent r (event.Moment now) o refl (λ id is. absurd cc)
tells r (event.Act a) o may = silent r (event.Act a) o refl (λ id is. absurd cc)
tells r event.Tick o may = silent r event.Tick o refl (λ id is. absurd cc)

pub seats : (r : RoomValue) (id : List ℕ) → IsEmpty r → connected r id ≡ true → 1 ≤ in_use r.seats
seats r id o is = let gone = nobody r id o in absurd cc

pub names : (r : RoomValue) (e : RoomEvent) → IsEmpty r → may_happen r e ≡ true → KeepsNames r e (closed_step r e).0
names r e o may id is = inl is

pub keepers : (r : RoomValue) → IsEmpty r → AreKeptNamed r
keepers r o token id is =
    let none : kept_by r.seats token ≡ None = ap (λ es. option_map (λ (e : SeatEntry). e.session) (find (λ (e : SeatEntry). is_kept_by token e.seat) es)) o.entries in
    absurd cc

pub quiet : (r : RoomValue) (e : RoomEvent) → IsEmpty r → may_happen r e ≡ true → KeepsPlaces r e (closed_step r e)
quiet r e o may still ends = refl

pub within : (r : RoomValue) → IsEmpty r → in_use r.seats ≤ r.seats.max
within r o = rw (o.entries) zero-le
