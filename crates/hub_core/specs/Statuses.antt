-- What a room shows of its places behind a step. Ours.
use Rattle.std.specs.Prelude.{◌≡◌, true, false, not, ◌&&◌, List, Option, Some, None, nat_lt}
use Rattle.std.specs.List.{list_any}
use Rattle.room_model.specs.declared.event.RoomEvent.{RoomEvent}
use Rattle.room_model.specs.declared.event.RoomOut.{RoomOut}
use Rattle.room_model.specs.Ledger.{IsNextLapse}
use Rattle.room_model.specs.Room.{RoomValue}
use Rattle.room_model.specs.Seats.{Seats, in_use}
use Rattle.room_laws.specs.Quiet.{is_ending, is_quiet}
use Rattle.hub_core.specs.declared.status.RoomStatus.{RoomStatus}
use Rattle.hub_core.specs.declared.status.Change.{Change}
use Rattle.hub_core.specs.declared.entry.RoomEntry.{RoomEntry}

-- what is shown of places
pub record IsStatus (seats : Seats) (l : RoomStatus) : Type 0 where
  pub is_open : l.is_open ≡ (not seats.locked && nat_lt (in_use seats) seats.max)
  pub lapse : IsNextLapse seats l.lapse

-- a room's places were looked at anew
pub record IsChange {R : Type 0} (room : R → RoomValue) (s t : RoomEntry R) (c : Change) : Type 0 where
  pub status : IsStatus (room t.room).seats c.now
  pub was : c.was ≡ s.status
  pub now : c.now ≡ t.status

-- they were; or the event is about no place, ended nothing, and what was shown stays
abbrev pub Changes : {R : Type 0} → (R → RoomValue) → RoomEvent → List RoomOut → RoomEntry R → RoomEntry R → Option Change → Type 0
Changes room e outs s t (Some c) = IsChange room s t c
Changes room e outs s t None = (is_quiet e ≡ true) × (list_any is_ending outs ≡ false) × (t.status ≡ s.status)
