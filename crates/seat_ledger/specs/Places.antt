-- The entries of places with their indexes: what holds of them, and what is found.
use Rattle.std.specs.Prelude.{◌≡◌, ℕ, ◌<◌, ◌≤◌, ◌^◌, true, false, not, List, Option, Some, None, length, map, filter, is_some, slice_get, slice_set, if◌then◌else◌}
use Rattle.std.specs.List.{find, list_any, flat_map, remove}
use Rattle.std.specs.Str.{bytes_eq}
use Rattle.room_model.specs.declared.seat.Seat.{Seat}
use Rattle.room_model.specs.declared.seat.SeatEntry.{SeatEntry}
use Rattle.room_model.specs.Seats.{seated_entry}
use Rattle.room_model.specs.Ledger.{Lapse, due_at, first_due, is_due, has_as_token, is_kept_by, lapse_of}
use Rattle.seat_ledger.specs.Slots.{IndexState, is_key}
use Rattle.seat_ledger.specs.Keys.{AreIds, by_lapse, by_session, by_token, id_number, token_key}
use Rattle.seat_ledger.specs.Held.{holds, IsIndexed, IsOnce}

-- how many entries there may be, and those that there are
pub record PlacesState : Type 0 where
  pub max : ℕ
  pub entries : List SeatEntry

-- the entries fit, their number is one of 32 bits, sessions and tokens are ids and stand once, and each index holds its places and has room for all
pub record IsKept (max capacity : ℕ) (es : List SeatEntry) (sessions tokens lapses : IndexState) : Type 0 where
  pub most : max < 2 ^ 32
  pub few : length es ≤ max
  pub room : max ≤ capacity
  pub session_room : max ≤ sessions.room
  pub token_room : max ≤ tokens.room
  pub lapse_room : max ≤ lapses.room
  pub under_session : IsIndexed by_session es sessions
  pub under_token : IsIndexed by_token es tokens
  pub under_lapse : IsIndexed by_lapse es lapses
  pub one_session : IsOnce by_session es
  pub one_token : IsOnce by_token es
  pub ids : AreIds es

-- no entry is the session's
abbrev pub IsNew : List ℕ → List SeatEntry → Type 0
IsNew session es = (p : ℕ) → holds by_session es (id_number session) p ≡ false

-- the entry at a place is the only one of a session
pub record IsPlaceOf (session : List ℕ) (es : List SeatEntry) (at : ℕ) : Type 0 where
  pub within : at < length es
  pub name : (e : SeatEntry) → slice_get es at ≡ Some e → e.session ≡ session
  pub found : find (λ (e : SeatEntry). bytes_eq e.session session) es ≡ slice_get es at
  pub seated : (seat : Seat) → map (seated_entry session seat) es ≡ slice_set es at (record { session = session; seat = seat })
  pub left : filter (λ (e : SeatEntry). not (bytes_eq e.session session)) es ≡ remove es at

-- what is found of a session
abbrev pub IsSessionPlace : List ℕ → List SeatEntry → Option ℕ → Type 0
IsSessionPlace session es None = IsNew session es × (find (λ (e : SeatEntry). bytes_eq e.session session) es ≡ None)
IsSessionPlace session es (Some at) = IsPlaceOf session es at

-- no entry but the one at a place has the token of a seat
abbrev pub IsOwnToken : Seat → List SeatEntry → ℕ → Type 0
IsOwnToken seat es at = (q p : ℕ) → is_key q (token_key seat) ≡ true → holds by_token es q p ≡ true → p ≡ at

-- the entry at a place is the only one with a token
pub record IsPlaceWith (token : List ℕ) (es : List SeatEntry) (at : ℕ) : Type 0 where
  pub within : at < length es
  pub own : (e : SeatEntry) → slice_get es at ≡ Some e → has_as_token token e.seat ≡ true
  pub any : list_any (λ (e : SeatEntry). has_as_token token e.seat) es ≡ true
  pub kept : (e : SeatEntry) → slice_get es at ≡ Some e → find (λ (e : SeatEntry). is_kept_by token e.seat) es ≡ (if is_kept_by token e.seat then Some e else None)

-- no entry has a token
pub record IsUnused (token : List ℕ) (es : List SeatEntry) : Type 0 where
  pub unheld : (p : ℕ) → holds by_token es (id_number token) p ≡ false
  pub any : list_any (λ (e : SeatEntry). has_as_token token e.seat) es ≡ false
  pub kept : find (λ (e : SeatEntry). is_kept_by token e.seat) es ≡ None

-- what is found of a token
abbrev pub IsTokenPlace : List ℕ → List SeatEntry → Option ℕ → Type 0
IsTokenPlace token es None = IsUnused token es
IsTokenPlace token es (Some at) = IsPlaceWith token es at

-- what lapses by a moment
abbrev pub due_of : ℕ → List SeatEntry → List Lapse
due_of now es = flat_map (λ (e : SeatEntry). due_at now e.session (lapse_of e.seat)) es

-- what is found of the first that lapses by a moment
abbrev pub IsDuePlace : ℕ → List SeatEntry → Option ℕ → Type 0
IsDuePlace now es None = first_due (due_of now es) ≡ None
IsDuePlace now es (Some at) = (at < length es) × ((e : SeatEntry) → slice_get es at ≡ Some e → (lapse : ℕ) × (first_due (due_of now es) ≡ Some (record { session = e.session; at = lapse })))

-- what is found of the least lapse
abbrev pub IsLeastLapse : List SeatEntry → Option ℕ → Type 0
IsLeastLapse es lapse = (now : ℕ) → is_some (first_due (due_of now es)) ≡ is_due now lapse
