-- The keys under which the entries of places are found.
use Rattle.std.specs.Prelude.{◌≡◌, ℕ, ◌+◌, ◌*◌, ◌<◌, List, [], ◌∷◌, Option, Some, None, length, All}
use Rattle.room_model.specs.declared.seat.Seat.{Seat}
use Rattle.room_model.specs.declared.seat.Seat.TheVariants.{Reserved, Taken, Kept}
use Rattle.room_model.specs.declared.seat.SeatEntry.{SeatEntry}
use Rattle.room_model.specs.Ledger.{lapse_of}

-- bytes as a number, the first one least
abbrev pub id_number : List ℕ → ℕ
id_number [] = 0
id_number (b ∷ bs) = b + 256 * id_number bs

-- an id has nine bytes
abbrev pub IsId : List ℕ → Type 0
IsId id = (length id ≡ 9) × All (λ b. b < 256) id

-- the keys of a seat: of its token, and of its lapse
abbrev pub token_key : Seat → Option ℕ
token_key (Reserved lapse) = None
token_key (Taken token) = Some (id_number token)
token_key (Kept token lapse) = Some (id_number token)

abbrev pub HasIdAsToken : Seat → Type 0
HasIdAsToken (Reserved lapse) = Unit {0}
HasIdAsToken (Taken token) = IsId token
HasIdAsToken (Kept token lapse) = IsId token

-- the keys of an entry
abbrev pub by_session : SeatEntry → Option ℕ
by_session e = Some (id_number e.session)

abbrev pub by_token : SeatEntry → Option ℕ
by_token e = token_key e.seat

abbrev pub by_lapse : SeatEntry → Option ℕ
by_lapse e = lapse_of e.seat

-- the session and the token of each entry are ids
abbrev pub AreIds : List SeatEntry → Type 0
AreIds [] = Unit {0}
AreIds (e ∷ es) = IsId e.session × HasIdAsToken e.seat × AreIds es
