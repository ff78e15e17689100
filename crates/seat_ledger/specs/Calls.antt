-- What a call of a ledger does, and what it finds.
use Rattle.std.specs.Prelude.{◌≡◌, ℕ, List, Option, Some, None, Result, Ok, Err, slice_get}
use Rattle.std.specs.List.{find}
use Rattle.std.specs.Str.{bytes_eq}
use Rattle.room_model.specs.declared.seat.SeatEntry.{SeatEntry}
use Rattle.room_model.specs.declared.seat.SeatFault.{SeatFault}
use Rattle.room_model.specs.Ledger.{expire}
use Rattle.room_model.specs.Seats.{Seats, left_seat}

-- an accepted call makes of the places what it is said to make; a refused one answers its cause, and changes nothing
abbrev pub Does : Result Seats SeatFault → Seats → Seats → Result (Unit {0}) SeatFault → Type 0
Does (Ok after) old new (Ok done) = new ≡ after
Does (Ok after) old new (Err g) = ⊥
Does (Err f) old new (Ok done) = ⊥
Does (Err f) old new (Err g) = (g ≡ f) × (new ≡ old)

-- a session goes where one lapses; else nothing changes
abbrev pub Expires : Option (List ℕ × Seats) → Seats → Seats → Option (List ℕ) → Type 0
Expires (Some lapsed) old new (Some session) = (session ≡ lapsed.0) × (new ≡ lapsed.1)
Expires (Some lapsed) old new None = ⊥
Expires None old new (Some session) = ⊥
Expires None old new None = new ≡ old

-- an entry of the session stands there; or there is none
abbrev pub StandsAt : List ℕ → List SeatEntry → Option ℕ → Type 0
StandsAt session es (Some at) = (e : SeatEntry) × (slice_get es at ≡ Some e) × (e.session ≡ session)
StandsAt session es None = find (λ (e : SeatEntry). bytes_eq e.session session) es ≡ None

-- the entry that lapses first by a moment stands there; or none lapses by it
abbrev pub LapsesAt : ℕ → Seats → Option ℕ → Type 0
LapsesAt now s (Some at) = (e : SeatEntry) × (slice_get s.entries at ≡ Some e) × (expire s now ≡ Some (e.session, left_seat s e.session))
LapsesAt now s None = expire s now ≡ None
