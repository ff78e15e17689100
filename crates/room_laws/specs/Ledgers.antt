-- Seat ledgers: every call leaves as many places as before, and no more of them in use than there are. Ours.
use Rattle.std.specs.Prelude.{◌≡◌, ℕ, ◌≤◌, Bool, List, IfSome, IfOk}
use Rattle.room_model.specs.Seats.{Seats, in_use}
use Rattle.room_model.specs.Ledger as ledger

-- the places in use are at most the places
abbrev pub Within : Seats → Type 0
Within s = in_use s ≤ s.max

-- as many places as before, and no more in use
abbrev pub KeepsMax : Seats → Seats → Type 0
KeepsMax s t = Within t × (t.max ≡ s.max)

-- what each call leaves of a ledger's places
pub record KeepsPlaces (s : Seats) : Type 0 where
  pub reserve : (session : List ℕ) (lapse : ℕ) → IfOk (ledger.reserve s session lapse) (KeepsMax s)
  pub take_seat : (session fresh : List ℕ) → IfOk (ledger.take_seat s session fresh) (KeepsMax s)
  pub retake : (session token fresh : List ℕ) → IfOk (ledger.retake s session token fresh) (KeepsMax s)
  pub keep : (session : List ℕ) (lapse : ℕ) → IfOk (ledger.keep s session lapse) (KeepsMax s)
  pub leave : (session : List ℕ) → IfOk (ledger.leave s session) (KeepsMax s)
  pub set_locked : (on : Bool) → KeepsMax s (ledger.set_locked s on)
  pub expire : (now : ℕ) → IfSome (ledger.expire s now) (λ x. KeepsMax s x.1)

-- every call of a ledger keeps its places
abbrev pub LedgersKeep : Type 0
LedgersKeep = (s : Seats) → Within s → KeepsPlaces s
